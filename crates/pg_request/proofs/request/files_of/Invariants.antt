use Rattle.std.proofs.Common.{◌≡◌, ◌++◌, length}
use Rattle.pg_request.specs.Request.{files_of}
use Rattle.pg_request.proofs.request.files_of.Given as goal

abbrev pub invariant-loop-left : goal.invariant-loop-left
invariant-loop-left l = l.files.items ++ files_of l.left ≡ files_of l.parts

abbrev pub decreases-loop-left : goal.decreases-loop-left
decreases-loop-left l = length l.left
