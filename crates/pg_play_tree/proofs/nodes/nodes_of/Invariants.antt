use Rattle.std.proofs.Common.{◌≡◌, ◌-◌, length}
use Rattle.std.specs.List.{All}
use Rattle.pg_play_tree.specs.Prelude.{Cert, IsNode, Side}
use Rattle.pg_play_tree.specs.Tree.{IsPlayedNode}
use Rattle.pg_play_tree.specs.Places.{IsMirror, IsPlace}
use Rattle.pg_play_tree.proofs.nodes.nodes_of.Given as goal

abbrev pub invariant-loop-k : goal.invariant-loop-k
invariant-loop-k l = record {
  limits : All IsNode l.nodes.items;
  played : (cert : Cert) (side : Side)
      → All (IsPlace l.game cert side) l.places
      → All (IsPlayedNode l.game cert side) l.nodes.items;
  count : length l.nodes.items ≡ l.k;
  mirror : IsMirror l.places l.nodes.items;
}
