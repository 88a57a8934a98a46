use Rattle.std.proofs.Common.{take}
use Rattle.pg_fold.proofs.Common.{AllZip, Game}
use Rattle.pg_fold.specs.Folded.{IsFoldedClaim}
use Rattle.pg_fold.specs.Places.{AreFoldable}
use Rattle.pg_fold.specs.Tables.{AreTables}
use Rattle.pg_fold.proofs.folding.fold_claims.Given as goal

abbrev pub invariant-loop-claim : goal.invariant-loop-claim
invariant-loop-claim l = (g : Game) → AreTables g l.tables
    → AreFoldable g l.claims
    → AllZip (IsFoldedClaim g) (take l.claim-index l.claims) l.folded.items
