use Rattle.std.proofs.Common.{◌≡◌, ◌<◌, ℕ, map, take}
use Rattle.pg_sessions.proofs.Common.{start, Grows, Said, position_after}
use Rattle.pg_sessions.proofs.Searched.{IsAmong}
use Rattle.pg_sessions.specs.Known.{IsKnown}
use Rattle.pg_sessions.specs.Review.{IsDecided, IsGameAt, IsKnownBy, loss_texts}
use Rattle.pg_sessions.proofs.reviewing.review_moves.Given as goal
use Rattle.pg_solve.specs.Left.{LeavesSearch}

abbrev pub invariant-loop-point : goal.invariant-loop-point
invariant-loop-point g l = record {
  count : l.number ≡ l.point-index;
  stands : IsGameAt l.fn.game (position_after l.fn.game (take l.point-index l.moves)) l.game;
  told : IsKnown l.game (start l.game) l.known;
  shown : IsKnownBy l.fn.game l.moves l.fn.positions l.point-index l.known.certificate;
  decided : (n : ℕ) → n < l.point-index → IsDecided l.fn.game l.moves l.fn.positions n;
  said : Grows (g.C.Console.told l.fn.console).log (g.C.Console.told l.console).log
      (map Said (loss_texts l.fn.game (take l.point-index l.moves)));
  left : (g.C.Console.told l.console).left ≡ (g.C.Console.told l.fn.console).left;
  faults : (g.C.Console.told l.console).faults ≡ (g.C.Console.told l.fn.console).faults;
  asked : LeavesSearch (IsAmong l.fn.game l.moves l.point-index) l.fn.positions l.fn.work l.work;
}
