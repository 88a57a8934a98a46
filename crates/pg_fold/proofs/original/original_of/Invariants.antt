use Rattle.std.proofs.Common.{take}
use Rattle.pg_fold.proofs.Common.{get, All, Grid, equal_positions}
use Rattle.pg_fold.specs.Places.{IsEarliest}
use Rattle.pg_fold.specs.Tables.{IsTable, maps_of}
use Rattle.pg_fold.proofs.Originals.{back_by}
use Rattle.pg_fold.proofs.original.original_of.Given as goal

abbrev pub invariant-loop-table : goal.invariant-loop-table
invariant-loop-table l = (grid : Grid) → All (IsTable grid) l.tables
    → IsEarliest (get equal_positions l.known.places) (back_by grid l.position)
    (take l.table-index (maps_of l.tables)) l.first
