use Rattle.std.proofs.Common.{◌≡◌, ◌∙◌, ◌+◌, sym, arith}
use Rattle.pg_game.specs.PositionLemmas.{equal_positions-decides}
use Rattle.pg_check.proofs.node.is_root.Goals as goal

pub returns : goal.returns
returns c =
    let decides = equal_positions-decides c.args.p.now c.with_turn.result in
    let last : c.args.k + 1 ≡ c.args.claim.now.count = omega arith in (
      λ on _. decides.0 (sym c.eq.ensures ∙ on) ∙ c.with_turn.ensures,
      λ h. c.eq.ensures ∙ decides.1 (h last ∙ sym c.with_turn.ensures),
    )
