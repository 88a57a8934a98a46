use Rattle.std.proofs.Common.{◌∙◌}
use Rattle.pg_judge.proofs.Steps.{heads-all}
use Rattle.pg_judge.proofs.told.Told.finish.Goals as goal

pub returns : goal.returns
returns c = λ cert limits told.
    (c.in_ok-finish.ensures cert limits told.checked, told.heads ∙ heads-all cert)
