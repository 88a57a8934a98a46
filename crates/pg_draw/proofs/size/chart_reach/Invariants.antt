use Rattle.std.proofs.Common.{◌≡◌, take}
use Rattle.pg_draw.specs.Pictures.{chart_reach}
use Rattle.pg_draw.specs.declared.measures.TheConstants.{MAX_BOARD_REACH}
use Rattle.pg_draw.proofs.Common.{IsWithin}
use Rattle.pg_draw.proofs.size.chart_reach.Given as goal

abbrev pub invariant-loop-spot : goal.invariant-loop-spot
invariant-loop-spot l =
    (l.far ≡ chart_reach (take l.spot-index l.spots)) × IsWithin MAX_BOARD_REACH l.far
