use Rattle.std.proofs.Common.{take, ◌≡◌, length}
use Rattle.pg_cert.specs.declared.node.Body.TheVariants.{All as AllReplies}
use Rattle.pg_unfold.specs.Marks.{AreAdded, IsChildOf}
use Rattle.pg_unfold.proofs.met.mark_replies.Given as goal

abbrev pub invariant-loop-reply : goal.invariant-loop-reply
invariant-loop-reply l = record {
  size : length l.marks ≡ length l.fn.marks;
  added : AreAdded (IsChildOf (AllReplies (take l.reply-index l.replies)) l.m) l.fn.marks l.marks;
}
