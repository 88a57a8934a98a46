use Rattle.std.proofs.Common.{◌∙◌, Some}
use Rattle.pg_leaf.proofs.Common.{Threat}
use Rattle.pg_leaf.proofs.criteria.attack_leaf.Goals as goal

pub returns : goal.returns
returns c =
    λ i. Some (c.answer_for.ensures i, Threat ((c.from_vec.ensures ∙ c.in_ok-points.ensures) i))
