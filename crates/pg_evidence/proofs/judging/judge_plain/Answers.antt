use Rattle.std.proofs.Common.{refl, subst}
use Rattle.pg_judge.specs.Judged.{StandsAgainst}
use Rattle.pg_judge.specs.declared.fault.JudgeFault.{JudgeFault}
use Rattle.pg_evidence.specs.declared.evidence.Evidence.TheVariants.{Plain}
use Rattle.pg_evidence.proofs.Judged.{bad_plain, held_bad, held_ok, said_plain}
use Rattle.pg_evidence.proofs.judging.judge_plain.Goals as goal

pub returns-in-Ok-clause-judged : goal.returns-in-Ok-clause-judged
returns-in-Ok-clause-judged c text stands none =
    let v = c.in-Ok.ensures text stands in
    (Plain v.0, held_ok text (Plain v.0) (said_plain text v.0 none v.1), ((v.0, refl, v.2), v.3))

pub returns-in-Err-Reject-clause-judged : goal.returns-in-Err-Reject-clause-judged
returns-in-Err-Reject-clause-judged c text stands none =
    let v = subst (λ (f : JudgeFault). StandsAgainst c.args.judging.told.checking.game.now text f)
    c.in-Err-Reject.field-0-is (c.in-Err-Reject.ensures text stands) in
    (Plain v.0, held_ok text (Plain v.0) (said_plain text v.0 none v.1), v.2)

pub returns-in-Err-Form-clause-judged : goal.returns-in-Err-Form-clause-judged
returns-in-Err-Form-clause-judged c text stands none =
    let bad = subst (λ (f : JudgeFault). StandsAgainst c.args.judging.told.checking.game.now text f)
    c.in-Err-Form.field-0-is (c.in-Err-Form.ensures text stands) in
    held_bad text c.in-Err-Form.number c.in-Err-Form.line
    (bad_plain text c.in-Err-Form.number c.in-Err-Form.line none bad)
