use Rattle.std.proofs.Common.{◌≡◌, ◌≤◌, length, map}
use Rattle.pg_game.specs.Game.{free_points}
use Rattle.pg_check.proofs.ReplyLemmas.{points_from, free_from}
use Rattle.pg_check.proofs.moves.are_free_points.Given as goal

abbrev pub invariant-loop-v : goal.invariant-loop-v
invariant-loop-v l = record {
  within : l.next ≤ length l.replies;
  to_rest : map (λ r. r.point) l.replies ≡ free_points l.g l.p
      → points_from l.replies l.next ≡ free_from l.g l.p l.v;
  from_rest : points_from l.replies l.next ≡ free_from l.g l.p l.v
      → map (λ r. r.point) l.replies ≡ free_points l.g l.p;
}
