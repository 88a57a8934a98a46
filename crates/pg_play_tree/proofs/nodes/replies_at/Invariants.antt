use Rattle.std.proofs.Common.{◌≡◌, ◌<◌, map, true}
use Rattle.std.specs.List.{All}
use Rattle.pg_play_tree.specs.Prelude.{IsReply, Reply, ascend_from}
use Rattle.pg_play_tree.proofs.nodes.replies_at.Given as goal

abbrev pub invariant-loop-point : goal.invariant-loop-point
invariant-loop-point l = record {
  each : All IsReply l.replies.items;
  ascend : ascend_from 0 (map (λ (r : Reply). r.point) l.replies.items) ≡ true;
  below : All (λ (r : Reply). r.point < l.point) l.replies.items;
}
