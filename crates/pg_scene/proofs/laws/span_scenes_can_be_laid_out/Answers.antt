use Rattle.pg_scene.proofs.SpanWithin.{IsScene-span, IsScene-span_game}
use Rattle.pg_scene.proofs.laws.span_scenes_can_be_laid_out.Goals as goal

pub returns-clause-games : goal.returns-clause-games
returns-clause-games c = IsScene-span_game

pub returns-clause-claims : goal.returns-clause-claims
returns-clause-claims c = IsScene-span
