use Rattle.std.proofs.Common.{Vec, Global, ℕ, [], not, sym, ap, ◌∙◌}
use Rattle.pg_match.proofs.Common.{get_or_read, list_any, contains, is_touched}
use Rattle.pg_match.proofs.Asking.{numbers-with, numbers-without}
use Rattle.pg_match.proofs.meant.lines_without.Goals as goal
use Rattle.pg_match.proofs.meant.lines_without.Goals.{then-not-meets+in_ok-push, else-not-meets}

pub loop-j-preserved : goal.loop-j-preserved
loop-j-preserved c =
    let line = get_or_read c.as_slice-lines.result.now c.loop-j.j c.index-lines-j.result
    c.loop-j-test.true c.index-lines-j.is [] in
    let touched =
    c.meets.ensures ∙ ap (list_any (contains c.args.own.now)) (c.as_slice.ensures ∙ line) in
    elim c.if-not-meets.branch [
      | then-not-meets+in_ok-push w ↦ numbers-with (λ line. not (is_touched c.args.own.now line))
          c.as_slice-lines.result.now c.loop-j.j c.loop-j.wanted.items _ c.loop-j-test.true
          (ap not (sym touched ∙ w.if-not-meets.true))
          (ap (λ (xs : Vec ℕ Global). xs.items) w.wanted-is ∙ w.in_ok-push.ensures.items)
          c.loop-j.invariant
      | else-not-meets w ↦ numbers-without (λ line. not (is_touched c.args.own.now line))
          c.as_slice-lines.result.now c.loop-j.j c.loop-j.wanted.items _ c.loop-j-test.true
          (ap not (sym touched ∙ w.if-not-meets.false))
          (ap (λ (xs : Vec ℕ Global). xs.items) w.wanted-is) c.loop-j.invariant
    ]
