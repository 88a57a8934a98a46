use Rattle.std.proofs.Common.{◌≡◌, ◌∙◌, ◌<◌, ◌≤◌, ◌+◌, ℕ, true, false, get_or, length, sym, subst}
use Rattle.std.proofs.Common.{arith, inl, inr, eqb-true, eq-eqb}
use Rattle.pg_check.proofs.Common.{false≢true, cases_eq, Reply, point_count, is_free}
use Rattle.pg_check.proofs.ReplyLemmas.{points_from, free_from, points_from-start, free_from-start}
use Rattle.pg_check.proofs.ReplyLemmas.{points_from-next, points_from-end, free_from-free}
use Rattle.pg_check.proofs.ReplyLemmas.{free_from-taken, free_from-end, same_rest, same_whole}
use Rattle.pg_check.proofs.ReplyLemmas.{other_head, no_head}
use Rattle.pg_check.proofs.moves.are_free_points.Goals as goal
use Rattle.pg_check.proofs.moves.are_free_points.Goals.{then-is_free+else-next-replies+else-replies-next}
use Rattle.pg_check.proofs.moves.are_free_points.Goals.{else-is_free}

pub loop-v-init : goal.loop-v-init
loop-v-init c = record {
  within = omega arith;
  to_rest = λ e. points_from-start c.args.replies.now ∙ e
      ∙ sym (free_from-start c.args.g.now c.args.p.now);
  from_rest = λ e. sym (points_from-start c.args.replies.now) ∙ e
      ∙ free_from-start c.args.g.now c.args.p.now;
}

pub returns-then-next-replies : goal.returns-then-next-replies
returns-then-next-replies c =
    let range : c.loop-v.v < point_count c.args.g.now =
    subst (λ (n : ℕ). c.loop-v.v < n) c.points-v-end.ensures.count c.loop-v-test.true in
    let free : is_free c.args.p.now c.loop-v.v ≡ true =
    sym c.is_free.ensures ∙ c.if-is_free.true in (
      λ f. absurd (false≢true f),
      λ e. absurd
          (no_head c.loop-v.v (free_from c.args.g.now c.args.p.now (c.loop-v.v + 1)) _ _
          (points_from-end c.args.replies.now c.loop-v.next c.if-next-replies.true)
          (free_from-free c.args.g.now c.args.p.now c.loop-v.v range free)
          (c.loop-v.invariant.to_rest e)),
    )

pub returns-then-replies-next : goal.returns-then-replies-next
returns-then-replies-next c =
    let range : c.loop-v.v < point_count c.args.g.now =
    subst (λ (n : ℕ). c.loop-v.v < n) c.points-v-end.ensures.count c.loop-v-test.true in
    let free : is_free c.args.p.now c.loop-v.v ≡ true = sym c.is_free.ensures ∙ c.if-is_free.true in
    let reply : Reply = record { point = 0; child = 0 } in (
      λ f. absurd (false≢true f),
      λ e. absurd
          (other_head (get_or c.args.replies.now c.loop-v.next reply).point c.loop-v.v
          (points_from c.args.replies.now (c.loop-v.next + 1))
          (free_from c.args.g.now c.args.p.now (c.loop-v.v + 1)) _ _
          (points_from-next c.args.replies.now c.loop-v.next reply c.if-next-replies.false)
          (free_from-free c.args.g.now c.args.p.now c.loop-v.v range free) c.if-replies-next.true
          (c.loop-v.invariant.to_rest e)),
    )

pub loop-v-preserved : goal.loop-v-preserved
loop-v-preserved c =
    let range : c.loop-v.v < point_count c.args.g.now =
    subst (λ (n : ℕ). c.loop-v.v < n) c.points-v-end.ensures.count c.loop-v-test.true in
    let reply : Reply = record { point = 0; child = 0 } in
    elim c.if-is_free.branch [
      | then-is_free+else-next-replies+else-replies-next w ↦
          let free : is_free c.args.p.now c.loop-v.v ≡ true =
          sym c.is_free.ensures ∙ w.if-is_free.true in
          let heads =
          points_from-next c.args.replies.now c.loop-v.next reply w.if-next-replies.false in
          let frees = free_from-free c.args.g.now c.args.p.now c.loop-v.v range free in
          rw w.next-is record {
            within = omega (arith, w.if-next-replies.false);
            to_rest =
                λ e. same_rest (get_or c.args.replies.now c.loop-v.next reply).point c.loop-v.v _ _
                _ _ heads frees w.if-replies-next.false (c.loop-v.invariant.to_rest e);
            from_rest = λ e. c.loop-v.invariant.from_rest
                (same_whole (get_or c.args.replies.now c.loop-v.next reply).point c.loop-v.v _ _ _ _
                heads frees w.if-replies-next.false e);
          }
      | else-is_free w ↦
          let taken : is_free c.args.p.now c.loop-v.v ≡ false =
          sym c.is_free.ensures ∙ w.if-is_free.false in
          let frees = free_from-taken c.args.g.now c.args.p.now c.loop-v.v range taken in
          rw w.next-is record {
            within = c.loop-v.invariant.within;
            to_rest = λ e. c.loop-v.invariant.to_rest e ∙ frees;
            from_rest = λ e. c.loop-v.invariant.from_rest (e ∙ sym frees);
          }
    ]

pub returns : goal.returns
returns c =
    let range : point_count c.args.g.now ≤ c.loop-v.v =
    subst (λ (n : ℕ). n ≤ c.loop-v.v) c.points-v-end.ensures.count c.loop-v-test.false in
    let none = free_from-end c.args.g.now c.args.p.now c.loop-v.v range in
    let reply : Reply = record { point = 0; child = 0 } in (
      λ on. c.loop-v.invariant.from_rest
          (points_from-end c.args.replies.now c.loop-v.next
          (let e : c.loop-v.next ≡ length c.args.replies.now = eqb-true _ _ on in omega arith)
          ∙ sym none),
      λ e. elim (cases_eq c.loop-v.next (length c.args.replies.now)) [
        | inl same ↦ eq-eqb _ _ same
        | inr ne ↦
            let inside : c.loop-v.next < length c.args.replies.now =
            omega (arith, c.loop-v.invariant.within, ne) in
            absurd
            (no_head (get_or c.args.replies.now c.loop-v.next reply).point
            (points_from c.args.replies.now (c.loop-v.next + 1)) _ _ none
            (points_from-next c.args.replies.now c.loop-v.next reply inside)
            (sym (c.loop-v.invariant.to_rest e)))
      ],
    )
