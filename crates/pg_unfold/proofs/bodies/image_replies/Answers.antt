use Rattle.std.proofs.Common.{◌≡◌, ◌<◌, ◌+◌, List, length, take, get_or, sym, subst, arith, rules}
use Rattle.pg_unfold.proofs.Common.{AllZip, take_all, get_or_default, all_zip_more, answers_always}
use Rattle.pg_unfold.proofs.Common.{Reply, number_of, reverse_of, image_on}
use Rattle.pg_unfold.specs.Marks.{IsPlaceOf}
use Rattle.pg_unfold.specs.Unfolded.{IsReplyImage}
use Rattle.pg_unfold.proofs.BoardMaps.{AreInverse-board}
use Rattle.pg_unfold.proofs.Sorting.{AreReplyImages-sorted}
use Rattle.pg_unfold.proofs.bodies.image_replies.Goals as goal

pub loop-reply-preserved : goal.loop-reply-preserved
loop-reply-preserved c =
    let rs = c.args.replies.now in
    let i = c.loop-reply.reply-index in
    let reply : Reply = get_or rs i (record { point = 0; child = 0 }) in
    let image : Reply =
    record { point = c.image_point-point.result; child = c.place_of-child.result } in
    let lt : i < length rs = omega arith in
    let more = all_zip_more (IsReplyImage (image_on c.args.board c.args.m)
    (IsPlaceOf c.args.places.now (number_of c.args.m))) rs c.loop-reply.images.items i reply image
    lt (get_or_default rs i (record { point = 0; child = 0 }) reply lt) c.loop-reply.invariant
    (record { point = c.image_point-point.ensures; child = c.place_of-child.ensures }) in
    subst
    (λ (items : List Reply). AllZip (IsReplyImage (image_on c.args.board c.args.m)
    (IsPlaceOf c.args.places.now (number_of c.args.m))) (take (i + 1) rs) items)
    (sym c.in_ok-push.ensures.items) more

pub returns : goal.returns
returns c =
    let rs = c.args.replies.now in
    let whole : take c.loop-reply.reply-index rs ≡ rs =
    take_all c.loop-reply.reply-index rs (omega arith) in
    AreReplyImages-sorted (image_on c.args.board c.args.m)
    (image_on c.args.board (reverse_of c.args.m))
    (AreInverse-board c.args.board c.args.m c.requires.map)
    (IsPlaceOf c.args.places.now (number_of c.args.m)) rs c.loop-reply.images.items
    c.sort_unstable_by_key.new.self.items c.requires.replies.0 c.requires.replies.1
    (subst (λ (xs : List Reply). AllZip (IsReplyImage (image_on c.args.board c.args.m)
    (IsPlaceOf c.args.places.now (number_of c.args.m))) xs c.loop-reply.images.items) whole
    c.loop-reply.invariant) c.sort_unstable_by_key.ensures.permutation
    (c.sort_unstable_by_key.ensures.sorted (λ (r : Reply). r.point)
    (answers_always _ _ _ (λ f a r g h. search rules)))
