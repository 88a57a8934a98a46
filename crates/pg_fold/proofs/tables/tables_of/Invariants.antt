use Rattle.std.proofs.Common.{take}
use Rattle.pg_fold.specs.Tables.{AreTablesOf}
use Rattle.pg_fold.proofs.tables.tables_of.Given as goal

abbrev pub invariant-loop-map : goal.invariant-loop-map
invariant-loop-map l = AreTablesOf l.grid (take l.map-index l.maps) l.tables.items
