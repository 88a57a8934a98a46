use Rattle.std.proofs.Common.{◌≡◌, ◌∙◌, ◌+◌, ◌<◌, Global, List, ◌++◌, ◌∷◌, [], Vec, ap, arith, map}
use Rattle.std.proofs.Common.{subst}
use Rattle.std.proofs.Common.{sym, true}
use Rattle.std.proofs.lemmas.List.Elements.{All-push}
use Rattle.std.specs.List.{All}
use Rattle.pg_play_tree.specs.Prelude.{IsReply, Reply, ascend_from}
use Rattle.pg_play_tree.proofs.Mirrors.{ascend_push}
use Rattle.pg_play_tree.proofs.nodes.replies_at.Goals as goal
use Rattle.pg_play_tree.proofs.nodes.replies_at.Goals.{then-is_free+in_ok-push, else-is_free}

pub loop-point-preserved : goal.loop-point-preserved
loop-point-preserved c =
    let old = c.loop-point.invariant in
    let v = c.loop-point.point in
    let rs = c.loop-point.replies.items in
    elim c.if-is_free.branch [
      | then-is_free+in_ok-push w ↦
          let r : Reply = record { point = v; child = w.child_after-child.result } in
          let is : c.if-is_free.replies.items ≡ rs ++ r ∷ [] =
          ap (λ (x : Vec Reply Global). x.items) w.replies-is ∙ w.in_ok-push.ensures.items in
          let low = w.child_after-child.ensures in
          record {
            each = subst (λ (xs : List Reply). All IsReply xs) (sym is)
                (All-push IsReply rs r old.each
                (omega (arith, c.loop-point-test.true, c.points-point-end.ensures.few), low));
            ascend = subst (λ (xs : List Reply). ascend_from 0 (map (λ (s : Reply). s.point) xs)
                ≡ true) (sym is) (ascend_push 0 rs r old.ascend old.below (omega arith));
            below = subst (λ (xs : List Reply). All (λ (s : Reply). s.point < v + 1) xs) (sym is)
                (All-push (λ (s : Reply). s.point < v + 1) rs r
                (λ k d low. let less = old.below k d low in omega (arith, less)) (omega arith));
          }
      | else-is_free w ↦
          let is : c.if-is_free.replies.items ≡ rs =
          ap (λ (x : Vec Reply Global). x.items) w.replies-is in
          record {
            each = subst (λ (xs : List Reply). All IsReply xs) (sym is) old.each;
            ascend = subst (λ (xs : List Reply). ascend_from 0 (map (λ (s : Reply). s.point) xs)
                ≡ true) (sym is) old.ascend;
            below = subst (λ (xs : List Reply). All (λ (s : Reply). s.point < v + 1) xs) (sym is)
                (λ k d low. let less = old.below k d low in omega (arith, less));
          }
    ]
