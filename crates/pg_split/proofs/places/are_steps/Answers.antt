use Rattle.std.proofs.Common.{◌∙◌, sym}
use Rattle.pg_split.proofs.Planned.{steps_are}
use Rattle.pg_split.proofs.places.are_steps.Goals as goal

pub returns : goal.returns
returns c = λ e. steps_are c.args.count c.args.steps.now c.requires (sym c.all_steps.ensures ∙ e)
