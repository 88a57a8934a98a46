use Rattle.std.proofs.Common.{sym, ◌∙◌}
use Rattle.pg_vec_player.proofs.JudgeLemmas.{ending-goes_on, ending-y, left-spans}
use Rattle.pg_vec_player.proofs.judge.VecJudge.ending.Goals as goal

pub returns-then-spans_target-2-clause-ending : goal.returns-then-spans_target-2-clause-ending
returns-then-spans_target-2-clause-ending c = ending-goes_on c.args.g.now c.args.p.now
    (sym c.spans_target.ensures.spans ∙ c.if-spans_target.false)
    (left-spans c.args.g.now c.args.p.now c.kept-left.result c.target_of.result
    c.spans_target-2.result c.target_of.ensures.number c.kept-left.ensures
    c.spans_target-2.ensures.spans
    ∙ c.if-spans_target-2.true)

pub returns-else-spans_target-2-clause-ending : goal.returns-else-spans_target-2-clause-ending
returns-else-spans_target-2-clause-ending c =
    ending-y c.args.g.now c.args.p.now (sym c.spans_target.ensures.spans ∙ c.if-spans_target.false)
    (left-spans c.args.g.now c.args.p.now c.kept-left.result c.target_of.result
    c.spans_target-2.result c.target_of.ensures.number c.kept-left.ensures
    c.spans_target-2.ensures.spans
    ∙ c.if-spans_target-2.false)
