use Rattle.std.proofs.Common.{◌∙◌, List, ◌++◌, ◌∷◌, [], ap, arith, length, subst, sym}
use Rattle.pg_play_tree.specs.Places.{AreFound}
use Rattle.pg_play_tree.specs.declared.place.Place.{Place}
use Rattle.pg_play_tree.proofs.Meeting.{found_first, found_many}
use Rattle.pg_play_tree.proofs.exploring.explore.Goals as goal

pub loop-k-init : goal.loop-k-init
loop-k-init c =
    let g = c.args.checked.game.now in
    let cert = c.args.checked.cert.now in
    let is = c.in_ok-push.ensures.items
    ∙ ap (λ (ps : List Place). ps ++ c.in-Some.first ∷ []) c.new-places.ensures.items in
    let size = ap length is in
    record {
      index = omega (arith, size);
      few = λ some. omega (arith, size, some);
      found = subst (λ (ps : List Place). AreFound g cert c.args.side ps) (sym is)
          (found_first g cert c.args.side c.in-Some.first
          (rw c.in-Some.is at c.in_ok-first.ensures.place));
    }

pub returns-clause-many : goal.returns-clause-many
returns-clause-many c = λ said. found_many c.args.checked.game.now c.args.checked.cert.now
    c.args.side c.loop-k.places.items c.args.most c.loop-k.invariant.found
    (omega (arith, c.loop-k.invariant.index, c.loop-k-test.false))
