use Rattle.std.proofs.Common.{List, subst}
use Rattle.std.proofs.lemmas.List.{take_all}
use Rattle.std.specs.List.{All}
use Rattle.pg_plan.specs.declared.place.Place.{Place}
use Rattle.pg_split.proofs.Pieces.{below_more}
use Rattle.pg_split.specs.Pieces.{IsFileBelow}
use Rattle.pg_split.proofs.numbering.next_file.Goals as goal

pub loop-place-preserved : goal.loop-place-preserved
loop-place-preserved c =
    below_more c.args.places.now c.loop-place.place-index c.loop-place.next c.in_ok-next.next
    c.place-item.result c.loop-place-test.true c.place-item.is c.in_ok-next.ensures.more
    c.in_ok-next.ensures.above c.loop-place.invariant

pub returns : goal.returns
returns c = subst (λ (ps : List Place). All (IsFileBelow c.loop-place.next) ps)
    (take_all c.loop-place.place-index c.args.places.now c.loop-place-test.false)
    c.loop-place.invariant
