use Rattle.std.proofs.Common.{◌≡◌, ◌+◌, ◌∙◌, sym, ap}
use Rattle.pg_leaf.proofs.Common.{points_of}
use Rattle.pg_base.specs.declared.side.Side.TheVariants.{Y}
use Rattle.pg_game.specs.Potential.{point_weight}
use Rattle.pg_leaf.specs.Ahead.{is_avoiding}
use Rattle.pg_leaf.proofs.Foreseeing.{avoider-parts, other-base}
use Rattle.pg_leaf.proofs.ahead.Ahead.weight.Goals as goal

pub returns-then-is_avoiding : goal.returns-then-is_avoiding
returns-then-is_avoiding c =
    let g = c.args.b.now.game in
    let p = c.args.b.now.stand.position in
    let a = c.args.self.now in
    let w = c.requires.weighed in
    let on = sym (ap is_avoiding c.kind.ensures.exact) ∙ sym c.is_avoiding.ensures
    ∙ c.if-is_avoiding.true in
    let parts = avoider-parts g.kind g.bias a.defender on in
    let base : a.base ≡ 2 = w.base ∙ parts.0 in
    let side : a.breaker ≡ Y = w.breaker ∙ parts.1 in
    c.avoider_weight.ensures
    ∙ sym (λ i. point_weight (base i) g (points_of p (side i)) p c.args.v)

pub returns : goal.returns
returns c =
    let g = c.args.b.now.game in
    let p = c.args.b.now.stand.position in
    let a = c.args.self.now in
    let off = sym (ap is_avoiding c.kind.ensures.exact) ∙ sym c.is_avoiding.ensures
    ∙ c.if-is_avoiding.false in
    let base : a.base ≡ 1 + g.bias = c.requires.weighed.base ∙ other-base g.kind g.bias off in
    c.weight.ensures ∙ sym (λ i. point_weight (base i) g (points_of p a.breaker) p c.args.v)
