use Rattle.std.proofs.Common.{◌≡◌, ◌∙◌, sym, ap}
use Rattle.pg_leaf.proofs.Common.{points_of}
use Rattle.pg_base.specs.declared.side.Side.TheVariants.{Y}
use Rattle.pg_game.specs.Potential.{total_weight}
use Rattle.pg_leaf.specs.Ahead.{is_avoiding}
use Rattle.pg_leaf.proofs.Foreseeing.{avoider-parts, other-base}
use Rattle.pg_leaf.proofs.ahead.total_of.Goals as goal

pub returns-then-is_avoiding : goal.returns-then-is_avoiding
returns-then-is_avoiding c = λ d is.
    let g = c.args.b.now.game in
    let p = c.args.b.now.stand.position in
    let on = sym (ap is_avoiding c.kind.ensures.exact) ∙ sym c.is_avoiding.ensures
    ∙ c.if-is_avoiding.true in
    let parts = avoider-parts g.kind g.bias d on in
    let side : c.args.breaker ≡ Y = is ∙ parts.1 in
    c.avoider_total.ensures ∙ sym (λ i. total_weight (parts.0 i) g (points_of p (side i)) p)

pub returns : goal.returns
returns c = λ d is.
    let g = c.args.b.now.game in
    let p = c.args.b.now.stand.position in
    let off = sym (ap is_avoiding c.kind.ensures.exact) ∙ sym c.is_avoiding.ensures
    ∙ c.if-is_avoiding.false in
    let base = other-base g.kind g.bias off in
    c.total.ensures ∙ sym (λ i. total_weight (base i) g (points_of p c.args.breaker) p)
