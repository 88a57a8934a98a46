use Rattle.std.proofs.Common.{◌≡◌, ◌∙◌, ◌+◌, List, ℕ, ◌++◌, ◌∷◌, [], Global, Option, Ok, Vec, ap}
use Rattle.std.proofs.Common.{arith}
use Rattle.std.proofs.Common.{subst, sym}
use Rattle.std.proofs.lemmas.List.{length-append}
use Rattle.pg_game.proofs.Limits.{point_count-le}
use Rattle.pg_play_tree.specs.Places.{AreFound, IsNew, is_next}
use Rattle.pg_play_tree.specs.declared.place.Place.{Place}
use Rattle.pg_play_tree.proofs.Meeting.{found_at, found_many, found_next, goes_on}
use Rattle.pg_play_tree.proofs.Meeting.{none_found, same_read}
use Rattle.pg_play_tree.proofs.exploring.add_after.Goals as goal

pub is_next-requires : goal.is_next-requires
is_next-requires c =
    let most = point_count-le c.args.checked.game.now in omega (arith, most, c.requires.point)

pub after-next-requires : goal.after-next-requires
after-next-requires c =
    let most = point_count-le c.args.checked.game.now in omega (arith, most, c.requires.point)

pub unreachable-requires : goal.unreachable-requires
unreachable-requires c =
    let g = c.args.checked.game.now in
    let cert = c.args.checked.cert.now in
    let places = c.args.places.now.items in
    let old = c.index.result.now in
    let step : c.index-2.result.now ≡ old = same_read places c.args.k c.index-2.result.now old
    c.requires.index c.index-2.ensures c.index.ensures in
    let points : c.index-3.result.now ≡ old = same_read places c.args.k c.index-3.result.now old
    c.requires.index c.index-3.ensures c.index.ensures in
    c.place_after.ensures.able
    (goes_on g cert c.args.side old c.args.v c.in_ok-line.line.items
    (found_at g cert c.args.side places c.args.k old c.requires.found c.requires.index
    c.index.ensures)
    (ap (λ (x : Place). is_next x.step old.position c.args.v) (sym step)
    ∙ sym c.if-not-is_next.ensures) c.requires.point
    (c.in_ok-line.ensures
    ∙ ap (λ (xs : List ℕ). xs ++ c.args.v ∷ []) c.as_slice-2.ensures.value
    ∙ ap (λ (x : Place). x.points.items ++ c.args.v ∷ []) points))
    (c.in_ok-place.was ∙ ap (λ (r : Option Place). Ok r) c.in_default.is)

pub returns-then-len-most-clause-many : goal.returns-then-len-most-clause-many
returns-then-len-most-clause-many c = λ said.
    let size = length-append c.args.places.now.items (c.in-Some.place ∷ []) in
    found_many c.args.checked.game.now c.args.checked.cert.now c.args.side
    (c.args.places.now.items ++ c.in-Some.place ∷ []) c.args.most
    (found_next c.args.checked.game.now c.args.checked.cert.now c.args.side
    c.args.places.now.items c.args.k c.index.result.now c.in-Some.place c.index-3.result.now
    c.args.v c.as_slice-2.result.now c.in_ok-line.line.items c.after-next.result
    c.requires.found c.requires.index c.index.ensures c.index-3.ensures
    (rw c.in-Some.is at c.in_ok-place.ensures.place)
    (ap (λ (ps : Vec ℕ Global). ps.items) (rw c.in-Some.is at c.in_ok-place.ensures.points))
    c.in_ok-line.ensures c.as_slice-2.ensures.value c.after-next.ensures
    (subst (λ (ps : List Place). IsNew ps c.after-next.result) c.as_slice.ensures.value
    (c.index_at.ensures.new (none_found c.index_at.result c.if-is_some.ensures))))
    (omega (arith, size, c.if-len-most.true, c.len.ensures))

pub returns-clause-found : goal.returns-clause-found
returns-clause-found c = subst (λ (ps : List Place). AreFound c.args.checked.game.now
    c.args.checked.cert.now c.args.side ps) (sym c.in_ok-push.ensures.items)
    (found_next c.args.checked.game.now c.args.checked.cert.now c.args.side
    c.args.places.now.items c.args.k c.index.result.now c.in-Some.place c.index-3.result.now
    c.args.v c.as_slice-2.result.now c.in_ok-line.line.items c.after-next.result
    c.requires.found c.requires.index c.index.ensures c.index-3.ensures
    (rw c.in-Some.is at c.in_ok-place.ensures.place)
    (ap (λ (ps : Vec ℕ Global). ps.items) (rw c.in-Some.is at c.in_ok-place.ensures.points))
    c.in_ok-line.ensures c.as_slice-2.ensures.value c.after-next.ensures
    (subst (λ (ps : List Place). IsNew ps c.after-next.result) c.as_slice.ensures.value
    (c.index_at.ensures.new (none_found c.index_at.result c.if-is_some.ensures))))
