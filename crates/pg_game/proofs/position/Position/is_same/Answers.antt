use Rattle.std.proofs.Common.{◌∙◌, sym}
use Rattle.pg_game.specs.PositionLemmas.{equal_positions-decides}
use Rattle.pg_game.proofs.position.Position.is_same.Goals as goal

pub returns : goal.returns
returns c =
    let decides = equal_positions-decides c.args.self.now c.args.other.now in
    (λ on. decides.0 (sym c.eq.ensures ∙ on), λ same. c.eq.ensures ∙ decides.1 same)
