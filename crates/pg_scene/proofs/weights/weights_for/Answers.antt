use Rattle.pg_captions.proofs.Lightest.{IsBaseOf-base}
use Rattle.std.proofs.Common.{◌∙◌}
use Rattle.pg_scene.proofs.weights.weights_for.Goals as goal

pub weigh-requires : goal.weigh-requires
weigh-requires c = IsBaseOf-base c.args.g.now c.from.result (c.from.ensures ∙ c.base_of.ensures)
