use Rattle.std.proofs.Common.{◌≡◌, length, take}
use Rattle.pg_fold.proofs.Common.{get, equal_positions, Game}
use Rattle.pg_fold.specs.Codes.{IsKnown}
use Rattle.pg_fold.specs.Places.{AreFolded, HaveDifferent}
use Rattle.pg_fold.specs.Tables.{AreTables}
use Rattle.pg_fold.proofs.folding.fold_nodes.Given as goal

abbrev pub invariant-loop-node : goal.invariant-loop-node
invariant-loop-node l = record {
  known : IsKnown l.known;
  count : length l.folded.items ≡ l.node-index;
  folded : (g : Game)
      → AreTables g l.tables
      → HaveDifferent g l.nodes
      → AreFolded g (take l.node-index l.nodes) (get equal_positions l.known.places) l.folded.items;
}
