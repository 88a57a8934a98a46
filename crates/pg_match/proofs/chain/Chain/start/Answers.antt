use Rattle.std.proofs.lemmas.Result.{on_ok_weaker}
use Rattle.pg_match.proofs.Entering.{first-steps, first-marks}
use Rattle.pg_match.proofs.chain.Chain.start.Goals as goal

pub returns-clause-steps : goal.returns-clause-steps
returns-clause-steps c = on_ok_weaker c.enter.result
    (λ h. first-steps _ _ _ _ _ c.clear.ensures.items c.empty-self.ensures h) c.enter.ensures.steps

pub returns-clause-entered : goal.returns-clause-entered
returns-clause-entered c = on_ok_weaker c.enter.result
    (λ h. first-marks _ _ _ c.empty-self.ensures h) c.enter.ensures.entered
