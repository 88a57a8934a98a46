use Rattle.std.proofs.Common.{◌≡◌, ◌<◌, take}
use Rattle.pg_draw.specs.Shapes.{widest}
use Rattle.pg_draw.specs.declared.measures.TheConstants.{MAX_TEXT_WIDTH}
use Rattle.pg_draw.proofs.size.widest.Given as goal

abbrev pub invariant-loop-text : goal.invariant-loop-text
invariant-loop-text l =
    (l.width ≡ widest l.letter (take l.text-index l.texts)) × (l.width < MAX_TEXT_WIDTH)
