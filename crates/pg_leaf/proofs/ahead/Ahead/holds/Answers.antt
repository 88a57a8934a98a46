use Rattle.std.proofs.Common.{◌≡◌, ◌∙◌, ◌-◌, length, true, false, refl, sym, ap}
use Rattle.std.proofs.Common.{arith}
use Rattle.std.proofs.lemmas.Bool.{lt-ltb}
use Rattle.pg_leaf.proofs.Common.{breaker_of, free_points, Game}
use Rattle.pg_leaf.specs.Ahead.{is_avoiding}
use Rattle.pg_game.specs.Avoider.{x_takes_last}
use Rattle.pg_leaf.proofs.Foreseeing.{avoider-by, avoiding-is, avoiding-not, heavy-fails}
use Rattle.pg_leaf.proofs.Foreseeing.{light-holds, limit-few, move-free, scant-few, scant-holds}
use Rattle.pg_leaf.proofs.ahead.Ahead.holds.Goals as goal

pub returns-then-total-self : goal.returns-then-total-self
returns-then-total-self c = λ t is.
    let g = c.args.b.now.game in
    let a = c.args.self.now in
    let w = c.requires.weighed in
    heavy-fails g t c.args.q.now a.breaker a.base c.args.total a.limit c.requires.total w.limit
    g.kind (w.breaker ∙ ap (breaker_of g.kind) is) w.base c.if-total-self.true

pub overflow_sub-free : goal.overflow_sub-free
overflow_sub-free c =
    let m = c.requires.moves in
    omega (arith, c.free_count-free.ensures, move-free c.args.b.now c.args.q.now m.0 m.1)

pub overflow_mul-result : goal.overflow_mul-result
overflow_mul-result c = omega (
  arith,
  c.if-total-self.false,
  limit-few c.args.b.now c.args.self.now c.requires.weighed,
)

pub returns-then-x_takes_last : goal.returns-then-x_takes_last
returns-then-x_takes_last c = λ t is.
    let g = c.args.b.now.game in
    let q = c.args.q.now in
    let a = c.args.self.now in
    let w = c.requires.weighed in
    let m = c.requires.moves in
    let kind = avoiding-is g.kind (sym (ap is_avoiding c.kind.ensures.exact)
    ∙ sym c.is_avoiding.ensures
    ∙ c.if-is_avoiding.true) in
    let bias = c.from.ensures ∙ ap (λ (k : Game). k.bias) c.game.ensures in
    let free : c.free_count-free.result - 1 ≡ length (free_points g q) =
    omega (arith, c.free_count-free.ensures, move-free c.args.b.now q m.0 m.1) in
    let last = sym c.if-x_takes_last.true
    ∙ c.x_takes_last.ensures
    ∙ (λ i. x_takes_last (bias i) q.turn (c.from-then-is_avoiding.ensures i) (free i)) in
    avoider-by g t q a.breaker a.base c.args.total a.limit c.requires.total w.limit g.kind true _
    kind (w.breaker ∙ ap (breaker_of g.kind) is) w.base last refl

pub returns-then-is_avoiding : goal.returns-then-is_avoiding
returns-then-is_avoiding c = λ t is.
    let g = c.args.b.now.game in
    let q = c.args.q.now in
    let a = c.args.self.now in
    let w = c.requires.weighed in
    let m = c.requires.moves in
    let kind = avoiding-is g.kind (sym (ap is_avoiding c.kind.ensures.exact)
    ∙ sym c.is_avoiding.ensures
    ∙ c.if-is_avoiding.true) in
    let bias = c.from.ensures ∙ ap (λ (k : Game). k.bias) c.game.ensures in
    let free : c.free_count-free.result - 1 ≡ length (free_points g q) =
    omega (arith, c.free_count-free.ensures, move-free c.args.b.now q m.0 m.1) in
    let last = sym c.if-x_takes_last.false
    ∙ c.x_takes_last.ensures
    ∙ (λ i. x_takes_last (bias i) q.turn (c.from-then-is_avoiding.ensures i) (free i)) in
    avoider-by g t q a.breaker a.base c.args.total a.limit c.requires.total w.limit g.kind false
    true kind (w.breaker ∙ ap (breaker_of g.kind) is) w.base last
    (sym (lt-ltb c.args.total a.limit c.if-total-self.false))

pub returns-then-q-bias : goal.returns-then-q-bias
returns-then-q-bias c = λ t is.
    let g = c.args.b.now.game in
    let q = c.args.q.now in
    let a = c.args.self.now in
    let w = c.requires.weighed in
    let m = c.requires.moves.1 in
    let other = avoiding-not g.kind (sym (ap is_avoiding c.kind.ensures.exact)
    ∙ sym c.is_avoiding.ensures
    ∙ c.if-is_avoiding.false) in
    light-holds g t q a.breaker a.base c.args.total a.limit c.requires.total w.limit g.kind other
    m.lines (w.breaker ∙ ap (breaker_of g.kind) is) w.base (sym c.is_same.ensures
    ∙ c.if-is_same.true) (c.if-q-bias.true ∙ ap (λ (k : Game). k.bias) c.game.ensures)
    c.if-total-self.false

pub overflow_mul-most : goal.overflow_mul-most
overflow_mul-most c = omega (
  arith,
  scant-few c.args.b.now c.args.self.now c.args.total c.requires.weighed c.if-total-self.false,
)

pub returns-then-most-self : goal.returns-then-most-self
returns-then-most-self c = λ t is.
    let g = c.args.b.now.game in
    let a = c.args.self.now in
    let w = c.requires.weighed in
    let m = c.requires.moves.1 in
    let other = avoiding-not g.kind (sym (ap is_avoiding c.kind.ensures.exact)
    ∙ sym c.is_avoiding.ensures
    ∙ c.if-is_avoiding.false) in
    scant-holds g t c.args.q.now a.breaker a.base c.args.total a.limit c.requires.total w.limit
    g.kind other m.lines (w.breaker ∙ ap (breaker_of g.kind) is) w.base c.if-most-self.true
