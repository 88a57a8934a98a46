use Rattle.std.proofs.Common.{Global, Vec, ap, subst, sym, ◌∙◌}
use Rattle.std.proofs.lemmas.List.Elements.{All-push}
use Rattle.pg_shared.specs.Prelude.{All, Contains}
use Rattle.pg_shared.specs.declared.lines.OpenLine.{OpenLine}
use Rattle.pg_shared.proofs.lines.least_lines.Goals as goal
use Rattle.pg_shared.proofs.lines.least_lines.Goals.{then-not-is_needless+in_ok-push}
use Rattle.pg_shared.proofs.lines.least_lines.Goals.{else-not-is_needless}

pub loop-i-preserved : goal.loop-i-preserved
loop-i-preserved c = elim c.if-not-is_needless.branch [
  | then-not-is_needless+in_ok-push w ↦
      subst (All (Contains c.args.lines.now))
      (sym (ap (λ (xs : Vec OpenLine Global). xs.items) w.kept-is ∙ w.in_ok-push.ensures.items))
      (All-push (Contains c.args.lines.now) c.loop-i.kept.items w.index-lines-i.result
      c.loop-i.invariant (c.loop-i.i, c.loop-i-test.true, sym w.index-lines-i.is))
  | else-not-is_needless w ↦
      subst (All (Contains c.args.lines.now))
      (sym (ap (λ (xs : Vec OpenLine Global). xs.items) w.kept-is)) c.loop-i.invariant
]
