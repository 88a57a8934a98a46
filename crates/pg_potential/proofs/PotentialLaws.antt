-- A potential that holds forces the claim: a win for Breaker, and a draw at least for either side
-- of Maker-Maker.
use Rattle.std.proofs.Common.{◌≡◌, ◌≢◌, ℕ, ◌+◌, ◌-◌, ◌*◌, ◌<◌, ◌≤◌, Bool, true, false}
use Rattle.std.proofs.Common.{◌==◌, if◌then◌else◌, List, [], ◌∷◌, map, unwrap_or, eqb-true}
use Rattle.std.proofs.Common.{eq-eqb, refl, sym, ap, ◌∙◌, subst, inl, inr, arith}
use Rattle.pg_potential.proofs.Common.{cases_lt, mul-le-mul_left, add-mul}
use Rattle.pg_potential.proofs.Common.{Contains, find, Win, MakerBreaker, MakerMaker, Side, X, Y}
use Rattle.pg_potential.proofs.Common.{other, is_same_side, Game, Position, is_free, points_of}
use Rattle.pg_potential.proofs.Common.{point_count, bias_of, free_points, has_filled, outcome}
use Rattle.pg_potential.proofs.Common.{after, IsPosition, total, weight, limit, greatest}
use Rattle.pg_potential.proofs.Common.{greatest_weight, times_counted, PotentialHolds, total_weight}
use Rattle.pg_potential.proofs.Common.{point_weight, potential_answer, reaches, Forces, free-member}
use Rattle.pg_potential.proofs.Common.{member-free, member-within, greatest-le, greatest-ge}
use Rattle.pg_potential.proofs.Common.{greatest-at, find-some, FinSet, nat_cmp}
use Rattle.pg_base.specs.declared.goal.Goal.{Goal}
use Rattle.pg_base.specs.declared.goal.Goal.TheVariants.{Draw as AtLeastDraw}
use Rattle.pg_game.specs.Strategy.{Keeps}
use Rattle.pg_game.proofs.Moves.{points_of-mover, points_of-waiter, turn-stays, left-falls}
use Rattle.pg_game.proofs.Moves.{turn-passes, left-passes, turn-replied, free-was, other_other}
use Rattle.pg_game.proofs.Moves.{IsPosition-after}
use Rattle.pg_game.proofs.Strategy.{Forces-from_keeps, free_point}
use Rattle.pg_game.proofs.Unfilled.{unfilled-breaker, unfilled-draw, maker_bias, claims_one}
use Rattle.pg_game.proofs.LineWeights.{stand_once, total-grown, total-taken, weight-falls}
use Rattle.pg_game.proofs.LineWeights.{unfilled-below}

-- ---- sums

step-own : (c t after w most L : ℕ)
    → after + w ≡ t
    → most ≤ w
    → t + c * w < L
    → after + (c + 1) * most < L
step-own c t after w most L taken le below =
    let times = mul-le-mul_left {m = most} {n = w} (c + 1) le in
    let split = add-mul c 1 w in
    omega (arith, taken, times, split, below)

step-theirs : (q t after w most L : ℕ) → t + q * w ≡ after → w ≤ most → t + q * most < L → after < L
step-theirs q t after w most L grown le below =
    let times = mul-le-mul_left {m = w} {n = most} q le in
    omega (arith, grown, times, below)

-- ---- whose turn it is

turn_of-own : (side turn : Side) → turn ≡ side → is_same_side side turn ≡ true
turn_of-own X X e = refl
turn_of-own Y Y e = refl
turn_of-own X Y e = absurd (y≢x e)
  where
    y≢x : Y ≢ X
    y≢x e = cc
turn_of-own Y X e = absurd (x≢y e)
  where
    x≢y : X ≢ Y
    x≢y e = cc

turn_of-other : (side : Side) → is_same_side side (other side) ≡ false
turn_of-other X = refl
turn_of-other Y = refl

times-own : (g : Game) (p : Position) (side : Side)
    → p.turn ≡ side
    → times_counted g p side ≡ g.bias - p.left
times-own g p side mine =
    ap (λ (b : Bool). if b then g.bias - p.left else g.bias) (turn_of-own side p.turn mine)

times-theirs : (g : Game) (p : Position) (side : Side)
    → p.turn ≡ other side
    → times_counted g p side ≡ g.bias
times-theirs g p side yours = ap (λ (b : Bool). if b then g.bias - p.left else g.bias)
    (ap (is_same_side side) yours ∙ turn_of-other side)

-- ---- the answer

-- where a point is free, the answer is free and of greatest weight
pub answer-heaviest : (g : Game) (p : Position) (side : Side) (v : ℕ)
    → v < point_count g
    → is_free p v ≡ true
    → Contains (free_points g p) (potential_answer g p side)
    × (weight g p side (potential_answer g p side) ≡ greatest_weight g p side)
unfolding potential_answer
answer-heaviest g p side v within free =
    let best = heaviest (free_points g p) (free-member g p v within free) in
    let found = find-some (λ u. weight g p side u == greatest_weight g p side)
    (free_points g p) best.0 best.1 (eq-eqb _ _ best.2) in
    let is : unwrap_or (find (λ u. weight g p side u == greatest_weight g p side) (free_points g p))
    0 ≡ found.0 = ap (λ o. unwrap_or o 0) found.1 in
    subst (λ (n : ℕ). Contains (free_points g p) n × (weight g p side n ≡ greatest_weight g p side))
    (sym is) (found.2, eqb-true _ _ found.3)
  where
    heaviest : (xs : List ℕ)
        → Contains xs v
        → (w : ℕ) × Contains xs w × (weight g p side w ≡ greatest (map (weight g p side) xs))
    heaviest [] c = absurd (omega (arith, c.1))
    heaviest (x ∷ xs) c = greatest-at (weight g p side) x xs

-- ---- moves

module _ (g : Game) (side : Side) (one : bias_of g (other side) ≡ 1)
    (whole : bias_of g side ≡ g.bias) where
  total-theirs : (p : Position) (v : ℕ)
      → p.turn ≡ other side
      → is_free p v ≡ true
      → total g p side + g.bias * weight g p side v ≡ total g (after g p v) side
  total-theirs p v yours free = total-grown g (stand_once g) g.bias (points_of p side) p v free
      ∙ ap (λ (s : FinSet nat_cmp). total_weight (1 + g.bias) g s (after g p v))
      (sym (points_of-waiter g p side v yours))

  total-own : (p : Position) (v : ℕ)
      → p.turn ≡ side
      → is_free p v ≡ true
      → total g (after g p v) side + weight g p side v ≡ total g p side
  total-own p v mine free =
      ap (λ (s : FinSet nat_cmp). total_weight (1 + g.bias) g s (after g p v) + weight g p side v)
      (points_of-mover g p side v mine)
      ∙ total-taken g (stand_once g) (1 + g.bias) (points_of p side) p v free

  weight-own : (p : Position) (v u : ℕ)
      → p.turn ≡ side
      → is_free p v ≡ true
      → weight g (after g p v) side u ≤ weight g p side u
  weight-own p v u mine free = subst
      (λ (s : FinSet nat_cmp). point_weight (1 + g.bias) g s (after g p v) u ≤ weight g p side u)
      (sym (points_of-mover g p side v mine))
      (weight-falls g (stand_once g) (1 + g.bias) (points_of p side) p v u free)

  greatest-own : (p : Position) (v : ℕ)
      → p.turn ≡ side
      → is_free p v ≡ true
      → greatest_weight g (after g p v) side ≤ greatest_weight g p side
  greatest-own p v mine free = greatest-le (weight g (after g p v) side)
      (free_points g (after g p v)) (greatest_weight g p side) (λ u c.
      let was = free-was g p v u (member-free g (after g p v) u c) in
      let le = greatest-ge (weight g p side) (free_points g p) u
      (free-member g p u (member-within g (after g p v) u c) was.0) in
      omega (arith, le, weight-own p v u mine free))

  -- a point of the side counts the greatest weight once more
  times-after : (p : Position) (v : ℕ)
      → IsPosition g p
      → p.turn ≡ side
      → times_counted g (after g p v) side ≡ (g.bias - p.left) + 1
  times-after p v is mine =
      let few : p.left ≤ bias_of g side =
      subst (λ (s : Side). p.left ≤ bias_of g s) mine is.few_left in
      elim (cases_lt 1 p.left) [
        | inl more ↦
            let times = times-own g (after g p v) side (turn-stays g p v more ∙ mine) in
            omega (arith, times, left-falls g p v more, few, whole)
        | inr last ↦
            let times =
            times-theirs g (after g p v) side (turn-passes g p v last ∙ ap other mine) in
            omega (arith, times, last, is.some_left, few, whole)
      ]

  -- a point of greatest weight keeps the potential
  pub kept-own : (p : Position) (v : ℕ)
      → IsPosition g p
      → PotentialHolds g p side
      → p.turn ≡ side
      → is_free p v ≡ true
      → weight g p side v ≡ greatest_weight g p side
      → PotentialHolds g (after g p v) side
  kept-own p v is holds mine free heavy =
      let taken = total-own p v mine free in
      let before : total g p side + (g.bias - p.left) * weight g p side v < limit g =
      subst (λ (n : ℕ). total g p side + n * weight g p side v < limit g) (times-own g p side mine)
      (subst (λ (n : ℕ). total g p side + times_counted g p side * n < limit g)
      (sym heavy) holds) in
      let le : greatest_weight g (after g p v) side ≤ weight g p side v =
      omega (arith, greatest-own p v mine free, heavy) in
      subst
      (λ (n : ℕ). total g (after g p v) side + n * greatest_weight g (after g p v) side < limit g)
      (sym (times-after p v is mine))
      (step-own (g.bias - p.left) (total g p side) (total g (after g p v) side) (weight g p side v)
      (greatest_weight g (after g p v) side) (limit g) taken le before)

  -- so does every point of the other side
  pub kept-theirs : (p : Position) (v : ℕ)
      → IsPosition g p
      → PotentialHolds g p side
      → p.turn ≡ other side
      → v < point_count g
      → is_free p v ≡ true
      → PotentialHolds g (after g p v) side
  kept-theirs p v is holds yours within free =
      let few : p.left ≤ bias_of g (other side) =
      subst (λ (s : Side). p.left ≤ bias_of g s) yours is.few_left in
      let last : p.left ≤ 1 = omega (arith, few, one) in
      let grown = total-theirs p v yours free in
      let le = greatest-ge (weight g p side) (free_points g p) v (free-member g p v within free) in
      let before : total g p side + g.bias * greatest_weight g p side < limit g =
      subst (λ (n : ℕ). total g p side + n * greatest_weight g p side < limit g)
      (times-theirs g p side yours) holds in
      let below = step-theirs g.bias (total g p side) (total g (after g p v) side)
      (weight g p side v) (greatest_weight g p side) (limit g) grown le before in
      let fresh : (after g p v).left ≡ g.bias =
      left-passes g p v last ∙ ap (bias_of g) (ap other yours ∙ other_other side) ∙ whole in
      let times : times_counted g (after g p v) side ≡ 0 =
      (let is_own = times-own g (after g p v) side (turn-replied g p side v last yours) in
      omega (arith, is_own, fresh)) in
      subst
      (λ (n : ℕ). total g (after g p v) side + n * greatest_weight g (after g p v) side < limit g)
      (sym times) (omega (arith, below))

  -- ---- the invariant

  record Weighed (p : Position) : Type 0 where
    pub position : IsPosition g p
    pub holds : PotentialHolds g p side

  keeps-weighed : (goal : Goal)
      → ((p : Position) → has_filled g p (other side) ≡ false
      → reaches side goal (outcome g p) ≡ true)
      → Keeps g side goal Weighed
  keeps-weighed goal good = record {
    ends = λ p i over. good p
        (unfilled-below (1 + g.bias) g side p i.position.disjoint (omega (arith, i.holds)));
    own = λ p i going mine.
        let point = free_point g p going in
        let best = answer-heaviest g p side point.0 point.1 point.2 in
        let v = potential_answer g p side in
        let within = member-within g p v best.0 in
        let free = member-free g p v best.0 in (
          v,
          within,
          free,
          record {
            position = IsPosition-after g p v i.position within free;
            holds = kept-own p v i.position i.holds mine free best.1;
          },
        );
    theirs = λ p i going yours v within free. record {
      position = IsPosition-after g p v i.position within free;
      holds = kept-theirs p v i.position i.holds yours within free;
    };
  }

  Forces-potential : (goal : Goal)
      → ((p : Position) → has_filled g p (other side) ≡ false
      → reaches side goal (outcome g p) ≡ true)
      → (p : Position) → IsPosition g p
      → PotentialHolds g p side
      → Forces g p side goal
  Forces-potential goal good p position holds = Forces-from_keeps g side goal
      (keeps-weighed goal good) p (record { position = position; holds = holds })

-- ---- Maker-Breaker

-- Breaker wins, whoever is to move and however many points it claims a turn
pub Forces-potential_breaker : (g : Game) (p : Position)
    → g.kind ≡ MakerBreaker
    → IsPosition g p
    → PotentialHolds g p Y
    → Forces g p Y Win
Forces-potential_breaker g p kind position holds =
    Forces-potential g Y refl refl Win (λ q none. unfilled-breaker g q kind none) p position holds

-- ---- Maker-Maker

-- either side gets a draw at least, whoever is to move
pub Forces-potential_draw : (g : Game) (p : Position) (side : Side)
    → g.kind ≡ MakerMaker
    → IsPosition g p
    → PotentialHolds g p side
    → Forces g p side AtLeastDraw
Forces-potential_draw g p side kind position holds =
    let single = maker_bias g kind in
    Forces-potential g side (claims_one g (other side) single)
    (claims_one g side single ∙ sym single) AtLeastDraw
    (λ q none. unfilled-draw g side q kind none) p position holds

-- ---- what keeps it

pub kept-answer_breaker : (g : Game) (p : Position) (v : ℕ)
    → g.kind ≡ MakerBreaker
    → IsPosition g p
    → PotentialHolds g p Y
    → p.turn ≡ Y
    → is_free p v ≡ true
    → weight g p Y v ≡ greatest_weight g p Y
    → PotentialHolds g (after g p v) Y
kept-answer_breaker g p v kind is holds mine free heavy =
    kept-own g Y refl refl p v is holds mine free heavy

pub kept-answer_draw : (g : Game) (p : Position) (side : Side) (v : ℕ)
    → g.kind ≡ MakerMaker
    → IsPosition g p
    → PotentialHolds g p side
    → p.turn ≡ side
    → is_free p v ≡ true
    → weight g p side v ≡ greatest_weight g p side
    → PotentialHolds g (after g p v) side
kept-answer_draw g p side v kind is holds mine free heavy =
    let single = maker_bias g kind in
    kept-own g side (claims_one g (other side) single)
    (claims_one g side single ∙ sym single) p v is holds mine free heavy

pub kept-reply_breaker : (g : Game) (p : Position) (v : ℕ)
    → g.kind ≡ MakerBreaker
    → IsPosition g p
    → PotentialHolds g p Y
    → p.turn ≡ X
    → v < point_count g
    → is_free p v ≡ true
    → PotentialHolds g (after g p v) Y
kept-reply_breaker g p v kind is holds yours within free =
    kept-theirs g Y refl refl p v is holds yours within free

pub kept-reply_draw : (g : Game) (p : Position) (side : Side) (v : ℕ)
    → g.kind ≡ MakerMaker
    → IsPosition g p
    → PotentialHolds g p side
    → p.turn ≡ other side
    → v < point_count g
    → is_free p v ≡ true
    → PotentialHolds g (after g p v) side
kept-reply_draw g p side v kind is holds yours within free =
    let single = maker_bias g kind in
    kept-theirs g side (claims_one g (other side) single)
    (claims_one g side single ∙ sym single) p v is holds yours within free
