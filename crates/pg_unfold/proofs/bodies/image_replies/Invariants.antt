use Rattle.std.proofs.Common.{take}
use Rattle.pg_unfold.proofs.Common.{AllZip, number_of, image_on}
use Rattle.pg_unfold.specs.Marks.{IsPlaceOf}
use Rattle.pg_unfold.specs.Unfolded.{IsReplyImage}
use Rattle.pg_unfold.proofs.bodies.image_replies.Given as goal

abbrev pub invariant-loop-reply : goal.invariant-loop-reply
invariant-loop-reply l =
    AllZip (IsReplyImage (image_on l.board l.m) (IsPlaceOf l.places (number_of l.m)))
    (take l.reply-index l.replies) l.images.items
