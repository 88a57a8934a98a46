use Rattle.std.proofs.Common.{◌≡◌, ◌∙◌, ◌<◌, ◌+◌, ◌++◌, ◌∷◌, [], ℕ, List, Some, slice_get}
use Rattle.std.proofs.Common.{slice_set, get_or, length, refl, sym, ap, subst, arith, rules}
use Rattle.pg_pns.proofs.Common.{slice_get_within, slice_get-get_or, with_items_is, with_items}
use Rattle.pg_pns.proofs.Common.{after}
use Rattle.pg_pns.specs.Search.{IsGrowing}
use Rattle.pg_pns.proofs.Moving.{growing-move}
use Rattle.pg_pns.proofs.expansion.meet_move.Goals as goal

pub add_parent-requires : goal.add_parent-requires
add_parent-requires c =
    let m = c.in_ok-place.ensures.met in
    let within = slice_get_within c.meet_after.new.table.positions.items c.in_ok-place.place
    (after c.args.asked.game.now c.args.expansion.now.position c.args.v) m.at in
    subst (λ (us : List (List ℕ)). c.in_ok-place.place < length us)
    (sym c.as_mut_slice.ensures.value) (omega (arith, within, m.tree.shape.parent_count))

pub returns-clause-grows : goal.returns-clause-grows
returns-clause-grows c =
    let m = c.in_ok-place.ensures.met in
    let within = slice_get_within c.meet_after.new.table.positions.items c.in_ok-place.place
    (after c.args.asked.game.now c.args.expansion.now.position c.args.v) m.at in
    let ups = get_or c.meet_after.new.table.parents.items c.in_ok-place.place [] in
    let ups_at : slice_get c.meet_after.new.table.parents.items c.in_ok-place.place ≡ Some ups =
    slice_get-get_or c.meet_after.new.table.parents.items c.in_ok-place.place []
    (omega (arith, within, m.tree.shape.parent_count)) in
    let len : length c.add_parent.new.parents ≡ c.meet_after.new.table.parents.len = search rules in
    let written = with_items_is c.meet_after.new.table.parents c.add_parent.new.parents len in
    let set : c.add_parent.new.parents ≡ slice_set c.meet_after.new.table.parents.items
    c.in_ok-place.place (ups ++ c.args.expansion.now.place ∷ []) = c.in_ok-add_parent.ensures ups
    (ap (λ (us : List (List ℕ)). slice_get us c.in_ok-place.place) c.as_mut_slice.ensures.value
    ∙ ups_at)
    ∙ ap (λ (us : List (List ℕ)). slice_set us c.in_ok-place.place
    (ups ++ c.args.expansion.now.place ∷ [])) c.as_mut_slice.ensures.value in
    λ list is. subst
    (λ (ns : List (ℕ × ℕ)). IsGrowing c.args.asked.game.now c.args.asked.question list
    c.args.expansion.now.place c.args.expansion.now.position (c.args.v + 1) (record {
      positions = c.meet_after.new.table.positions;
      moves = c.meet_after.new.table.moves;
      parents = with_items c.meet_after.new.table.parents c.add_parent.new.parents;
      answers = c.meet_after.new.table.answers;
      claims = c.meet_after.new.table.claims;
    }) ns) (sym c.in_ok-push.ensures)
    (growing-move c.args.asked.game.now c.args.asked.question list c.args.expansion.now.place
    c.args.expansion.now.position c.args.v c.args.table.now c.meet_after.new.table (record {
      positions = c.meet_after.new.table.positions;
      moves = c.meet_after.new.table.moves;
      parents = with_items c.meet_after.new.table.parents c.add_parent.new.parents;
      answers = c.meet_after.new.table.answers;
      claims = c.meet_after.new.table.claims;
    }) c.args.expansion.now.nexts c.in_ok-place.place ups is c.requires.moves.point
    c.requires.moves.free m ups_at refl refl (written ∙ set) refl refl)
