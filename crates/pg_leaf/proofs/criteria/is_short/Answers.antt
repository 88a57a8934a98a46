use Rattle.std.proofs.Common.{◌≡◌, ◌∙◌, ℕ, ◌<◌, ◌/◌, false, length, ap, arith}
use Rattle.pg_leaf.proofs.Common.{false_from_ne_true, ltb-true, Side, Game, Position, free_points}
use Rattle.pg_leaf.proofs.Common.{breaker_of, pairs_exist, live_lines, live_with}
use Rattle.pg_leaf.proofs.ShortCounts.{few-lines, none-short}
use Rattle.pg_leaf.proofs.criteria.is_short.Goals as goal

many : (g : Game) (p : Position) (side breaker : Side) (count free : ℕ)
    → breaker ≡ breaker_of g.kind side
    → count ≡ length (live_lines g p breaker)
    → free ≡ length (free_points g p)
    → free / 2 < count
    → pairs_exist g p side ≡ false
many g p side breaker count free is counted points more =
    false_from_ne_true (pairs_exist g p side) (λ exist.
    let few = few-lines g p side exist in
    let same : length (live_lines g p breaker) ≡ length (live_lines g p (breaker_of g.kind side)) =
    ap (λ s. length (live_lines g p s)) is in
    omega (arith, few, same, counted, points, more))

short : (g : Game) (p : Position) (side breaker : Side) (k count : ℕ)
    → k < 2
    → breaker ≡ breaker_of g.kind side
    → count ≡ live_with g p breaker k
    → 0 < count
    → pairs_exist g p side ≡ false
short g p side breaker k count few is counted some =
    false_from_ne_true (pairs_exist g p side) (λ exist.
    let none = none-short g p side exist k few in
    let same : live_with g p breaker k ≡ live_with g p (breaker_of g.kind side) k =
    ap (λ s. live_with g p s k) is in
    omega (arith, none, same, counted, some))

pub returns-then-live_count-from : goal.returns-then-live_count-from
returns-then-live_count-from c = λ _.
    let is =
    c.breaker_of-breaker.ensures ∙ ap (λ k. breaker_of k c.args.side) c.kind.ensures.exact in
    many c.args.b.now.game c.args.b.now.stand.position c.args.side c.breaker_of-breaker.result
    c.live_count.result c.free_count.result is c.live_count.ensures c.free_count.ensures
    (omega (arith, c.from.ensures, c.if-live_count-from.true))

pub returns-then-live_with-gt0 : goal.returns-then-live_with-gt0
returns-then-live_with-gt0 c = λ _.
    let is =
    c.breaker_of-breaker.ensures ∙ ap (λ k. breaker_of k c.args.side) c.kind.ensures.exact in
    short c.args.b.now.game c.args.b.now.stand.position c.args.side c.breaker_of-breaker.result 0
    c.live_with.result (omega arith) is c.live_with.ensures c.if-live_with-gt0.true

pub returns : goal.returns
returns c = λ some.
    let is =
    c.breaker_of-breaker.ensures ∙ ap (λ k. breaker_of k c.args.side) c.kind.ensures.exact in
    short c.args.b.now.game c.args.b.now.stand.position c.args.side c.breaker_of-breaker.result 1
    c.live_with-2.result (omega arith) is c.live_with-2.ensures
    (ltb-true 0 c.live_with-2.result some)
