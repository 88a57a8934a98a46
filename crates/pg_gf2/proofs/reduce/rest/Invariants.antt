use Rattle.std.proofs.Common.{◌≡◌, drop}
use Rattle.pg_gf2.specs.Rows.{reduced}
use Rattle.pg_gf2.proofs.reduce.rest.Given as goal

abbrev pub invariant-loop-row : goal.invariant-loop-row
invariant-loop-row l = reduced (drop l.row-index l.rows) l.left ≡ reduced l.rows l.value
