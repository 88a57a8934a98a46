use Rattle.std.proofs.Common.{◌≡◌, map, take}
use Rattle.std.specs.FinSet.{from_list}
use Rattle.pg_fold.specs.Tables.{come_from}
use Rattle.pg_fold.proofs.tables.MapTable.sources_of.Given as goal

abbrev pub invariant-loop-v : goal.invariant-loop-v
invariant-loop-v l = l.set ≡ from_list (take l.v-index (map (come_from l.self) l.points))
