use Rattle.std.proofs.Common.{◌∙◌, ◌+◌, ◌-◌, ◌*◌, ℕ, sym, ap, arith}
use Rattle.pg_base.specs.Side.{is_same_side}
use Rattle.pg_leaf.proofs.Foreseeing.{after-few, total-mine, total-yours}
use Rattle.pg_leaf.proofs.ahead.Ahead.total_after.Goals as goal

pub overflow_sub-result : goal.overflow_sub-result
overflow_sub-result c =
    let m = c.requires.moves in
    let mine = sym (ap (is_same_side c.args.self.now.breaker) c.turn.ensures)
    ∙ sym c.is_same.ensures ∙ c.if-is_same.true in
    omega (
      arith,
      c.weight-weight.ensures,
      total-mine c.args.b.now m.0 c.args.v m.1 c.args.self.now c.requires.weighed mine,
    )

pub overflow_mul-result : goal.overflow_mul-result
overflow_mul-result c =
    let m = c.requires.moves in
    let yours = sym (ap (is_same_side c.args.self.now.breaker) c.turn.ensures)
    ∙ sym c.is_same.ensures ∙ c.if-is_same.false in
    omega (
      arith,
      ap (λ (k : ℕ). (c.args.self.now.base - 1) * k) c.weight-weight.ensures,
      total-yours c.args.b.now m.0 c.args.v m.1 c.args.self.now c.requires.weighed yours,
      after-few c.args.b.now m.0 c.args.v m.1 c.args.self.now c.requires.weighed,
    )

pub overflow_add-result : goal.overflow_add-result
overflow_add-result c =
    let m = c.requires.moves in
    let yours = sym (ap (is_same_side c.args.self.now.breaker) c.turn.ensures)
    ∙ sym c.is_same.ensures ∙ c.if-is_same.false in
    omega (
      arith,
      ap (λ (k : ℕ). (c.args.self.now.base - 1) * k) c.weight-weight.ensures,
      total-yours c.args.b.now m.0 c.args.v m.1 c.args.self.now c.requires.weighed yours,
      after-few c.args.b.now m.0 c.args.v m.1 c.args.self.now c.requires.weighed,
    )

pub returns-then-is_same : goal.returns-then-is_same
returns-then-is_same c = λ q m.
    let mine = sym (ap (is_same_side c.args.self.now.breaker) c.turn.ensures)
    ∙ sym c.is_same.ensures ∙ c.if-is_same.true in
    omega (
      arith,
      c.weight-weight.ensures,
      total-mine c.args.b.now q c.args.v m c.args.self.now c.requires.weighed mine,
    )

pub returns-else-is_same : goal.returns-else-is_same
returns-else-is_same c = λ q m.
    let yours = sym (ap (is_same_side c.args.self.now.breaker) c.turn.ensures)
    ∙ sym c.is_same.ensures ∙ c.if-is_same.false in
    ap (λ (k : ℕ). c.args.self.now.total + (c.args.self.now.base - 1) * k) c.weight-weight.ensures
    ∙ sym (total-yours c.args.b.now q c.args.v m c.args.self.now c.requires.weighed yours)

pub weight-weight-requires-clause-range : goal.weight-weight-requires-clause-range
weight-weight-requires-clause-range c = c.requires.moves.1.range
