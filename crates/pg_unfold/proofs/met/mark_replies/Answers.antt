use Rattle.std.proofs.Common.{◌≡◌, ◌+◌, ◌*◌, ◌<◌, ◌≤◌, ℕ, List, [], ◌∷◌, ◌++◌, Bool, map, take}
use Rattle.std.proofs.Common.{length, set, get_or, true, sym, ap, ◌∙◌, subst, arith}
use Rattle.pg_unfold.proofs.Common.{take_more, map_push, length-set, All-get_or, Reply, Contains}
use Rattle.pg_unfold.specs.Marks.{AreAdded}
use Rattle.std.proofs.Common.{◌/◌, ◌%◌}
use Rattle.pg_unfold.proofs.Marking.{added-more}
use Rattle.pg_unfold.proofs.met.mark_replies.Goals as goal

pub loop-reply-preserved : goal.loop-reply-preserved
loop-reply-preserved c =
    let i = c.loop-reply.reply-index in
    let rs = c.args.replies.now in
    let lt : i < length rs = omega arith in
    let reply : Reply = get_or rs i (record { point = 0; child = 0 }) in
    let room : 8 * reply.child + 8 ≤ length c.args.marks.now =
    All-get_or (λ (r : Reply). 8 * r.child + 8 ≤ length c.args.marks.now) rs i (record {
      point = 0;
      child = 0;
    }) lt c.requires.room in
    let within : 8 * reply.child + c.args.m < length c.loop-reply.marks =
    omega (arith, room, c.requires.map, c.loop-reply.invariant.size) in
    let children : map (λ (r : Reply). r.child) (take (i + 1) rs)
    ≡ map (λ (r : Reply). r.child) (take i rs) ++ reply.child ∷ [] =
    ap (map (λ (r : Reply). r.child)) (take_more rs i (record { point = 0; child = 0 }) lt)
    ∙ map_push (λ (r : Reply). r.child) (take i rs) reply in
    let new : List Bool = set c.loop-reply.marks (8 * reply.child + c.args.m) true in
    record {
      size = length-set c.loop-reply.marks (8 * reply.child + c.args.m) true
          ∙ c.loop-reply.invariant.size;
      added = subst
          (λ (cs : List ℕ). AreAdded (λ (key : ℕ). Contains cs (key / 8) × (key % 8 ≡ c.args.m))
          c.args.marks.now new) (sym children)
          (added-more (map (λ (r : Reply). r.child) (take i rs)) reply.child c.args.m
          c.args.marks.now c.loop-reply.marks new c.requires.map within
          (λ j. new) c.loop-reply.invariant.added);
    }
