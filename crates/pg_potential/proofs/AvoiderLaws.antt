-- Avoider's potential, where it holds, forces a win of Avoider.
use Rattle.std.proofs.Common.{◌≡◌, ◌≢◌, ℕ, ◌+◌, ◌*◌, ◌<◌, ◌≤◌, Bool, true, false, ◌==◌}
use Rattle.std.proofs.Common.{if◌then◌else◌, List, [], ◌∷◌, map, length, get_or, unwrap_or}
use Rattle.std.proofs.Common.{eqb-true, eq-eqb, refl, sym, ap, ap₂, ◌∙◌, subst, inl, inr, ◌⊎◌}
use Rattle.std.proofs.Common.{arith}
use Rattle.pg_potential.proofs.Common.{cases_Bool, cases_lt, false≢true, Contains, find, list_any}
use Rattle.pg_potential.proofs.Common.{Win, AvoiderEnforcer, Switching, XWins, X, Y, Side, other}
use Rattle.pg_potential.proofs.Common.{Game, Position, FinSet, nat_cmp, is_free, point_count}
use Rattle.pg_potential.proofs.Common.{bias_of, free_points, has_filled, is_filled, is_empty}
use Rattle.pg_potential.proofs.Common.{is_full, is_over, outcome, outcome_by, short_joins, after}
use Rattle.pg_potential.proofs.Common.{lines_of, IsPosition, total_weight, point_weight}
use Rattle.pg_potential.proofs.Common.{x_takes_last, avoider_ends, avoider_total, avoider_weight}
use Rattle.pg_potential.proofs.Common.{avoider_limit, AvoiderHolds, least, avoider_answer, reaches}
use Rattle.pg_potential.proofs.Common.{Forces, length-free_points-after, first_free, free-member}
use Rattle.pg_potential.proofs.Common.{member-free, member-within, few_points-lines, find-some}
use Rattle.pg_potential.proofs.Common.{find_same}
use Rattle.pg_base.specs.declared.kind.Kind.{Kind}
use Rattle.pg_game.specs.Strategy.{Keeps}
use Rattle.pg_game.proofs.Moves.{points_of-mover, points_of-waiter, turn-stays, left-falls}
use Rattle.pg_game.proofs.Moves.{turn-passes, left-passes, turn-after_x, free-was, ShareNone-after}
use Rattle.pg_game.proofs.Moves.{IsPosition-after}
use Rattle.pg_game.proofs.Strategy.{Forces-from_keeps, free_point}
use Rattle.pg_game.proofs.LineSums.{weight-le-total}
use Rattle.pg_game.proofs.Unfilled.{unfilled-avoider}
use Rattle.pg_game.proofs.LineWeights.{stand_once, total-grown, total-taken, weight-rises}
use Rattle.pg_game.proofs.LineWeights.{unfilled-below}
use Rattle.pg_game.proofs.LastPoint.{last-within_turn, last-after_y, last-after_x, last-only}
use Rattle.pg_potential.proofs.Least.{least-le, least-at, least-same}

-- ---- what holding means

pub below-limit : (g : Game) (p : Position) → AvoiderHolds g p → avoider_total g p < avoider_limit g
below-limit g p holds = elim (cases_Bool (avoider_ends g p)) [
  | inl ends ↦
      let twice : 2 * avoider_total g p < avoider_limit g = subst (λ (b : Bool).
      (if b then 2 * avoider_total g p else avoider_total g p) < avoider_limit g) ends holds in
      omega (arith, twice)
  | inr not_last ↦ subst (λ (b : Bool).
      (if b then 2 * avoider_total g p else avoider_total g p) < avoider_limit g) not_last holds
]

pub twice-below : (g : Game) (p : Position)
    → AvoiderHolds g p
    → avoider_ends g p ≡ true
    → 2 * avoider_total g p < avoider_limit g
twice-below g p holds ends =
    subst (λ (b : Bool). (if b then 2 * avoider_total g p else avoider_total g p) < avoider_limit g)
    ends holds

holds-from : (g : Game) (p : Position)
    → avoider_total g p < avoider_limit g
    → (avoider_ends g p ≡ true → 2 * avoider_total g p < avoider_limit g)
    → AvoiderHolds g p
holds-from g p below twice = elim (cases_Bool (avoider_ends g p)) [
  | inl ends ↦ subst
      (λ (b : Bool). (if b then 2 * avoider_total g p else avoider_total g p) < avoider_limit g)
      (sym ends) (twice ends)
  | inr not_last ↦ subst
      (λ (b : Bool). (if b then 2 * avoider_total g p else avoider_total g p) < avoider_limit g)
      (sym not_last) below
]

-- ---- the answer

-- where a point is free, the answer is free and of least weight
pub answer-lightest : (g : Game) (p : Position) (v : ℕ)
    → v < point_count g
    → is_free p v ≡ true
    → Contains (free_points g p) (avoider_answer g p)
    × (avoider_weight g p (avoider_answer g p) ≡ least (map (avoider_weight g p) (free_points g p)))
unfolding avoider_answer
answer-lightest g p v within free =
    let best = lightest (free_points g p) (free-member g p v within free) in
    let found =
    find-some (λ u. avoider_weight g p u == least (map (avoider_weight g p) (free_points g p)))
    (free_points g p) best.0 best.1 (eq-eqb _ _ best.2) in
    let is : unwrap_or
    (find (λ u. avoider_weight g p u == least (map (avoider_weight g p) (free_points g p)))
    (free_points g p)) 0 ≡ found.0 = ap (λ o. unwrap_or o 0) found.1 in
    subst
    (λ (n : ℕ). Contains (free_points g p) n
    × (avoider_weight g p n ≡ least (map (avoider_weight g p) (free_points g p)))) (sym is)
    (found.2, eqb-true _ _ found.3)
  where
    lightest : (xs : List ℕ)
        → Contains xs v
        → (w : ℕ) × Contains xs w × (avoider_weight g p w ≡ least (map (avoider_weight g p) xs))
    lightest [] c = absurd (omega (arith, c.1))
    lightest (x ∷ xs) c = least-at (avoider_weight g p) x xs

-- ---- totals

module _ (g : Game) where
  -- a point of Avoider adds its weight
  total-x : (p : Position) (v : ℕ)
      → p.turn ≡ X
      → is_free p v ≡ true
      → avoider_total g p + avoider_weight g p v ≡ avoider_total g (after g p v)
  total-x p v mine free =
      let grown = total-grown g (stand_once g) 1 p.y p v free in
      let same = ap (λ (s : FinSet nat_cmp). total_weight 2 g s (after g p v))
      (points_of-waiter g p Y v mine) in
      omega (arith, grown, same)

  weight-x : (p : Position) (v u : ℕ)
      → p.turn ≡ X
      → is_free p v ≡ true
      → avoider_weight g p u ≤ avoider_weight g (after g p v) u
  weight-x p v u mine free =
      let rises = weight-rises g (stand_once g) 1 p.y p v u free in
      let same = ap (λ (s : FinSet nat_cmp). point_weight 2 g s (after g p v) u)
      (points_of-waiter g p Y v mine) in
      omega (arith, rises, same)

  -- a point of Enforcer takes its weight away
  total-y : (p : Position) (v : ℕ)
      → p.turn ≡ Y
      → is_free p v ≡ true
      → avoider_total g (after g p v) + avoider_weight g p v ≡ avoider_total g p
  total-y p v yours free =
      let taken = total-taken g (stand_once g) 2 p.y p v free in
      let same = ap (λ (s : FinSet nat_cmp). total_weight 2 g s (after g p v))
      (points_of-mover g p Y v yours) in
      omega (arith, taken, same)

  -- ---- who takes the last point

  ends-at : (p : Position) (side : Side)
      → p.turn ≡ side
      → avoider_ends g p ≡ x_takes_last g.bias side p.left (length (free_points g p))
  ends-at p side e = ap (λ (s : Side). x_takes_last g.bias s p.left (length (free_points g p))) e

  -- where Avoider takes the last point after a point of Enforcer, so it did before
  ends-y : (p : Position) (v : ℕ)
      → IsPosition g p
      → p.turn ≡ Y
      → v < point_count g
      → is_free p v ≡ true
      → avoider_ends g (after g p v) ≡ true
      → avoider_ends g p ≡ true
  ends-y p v is yours within free ends =
      let fewer = length-free_points-after g p v within free in
      elim (cases_lt 1 p.left) [
        | inl more ↦ ends-at p Y yours
            ∙ last-within_turn g.bias (after g p v).left (length (free_points g (after g p v)))
            p.left (length (free_points g p)) (left-falls g p v more) fewer
            (sym (ends-at (after g p v) Y (turn-stays g p v more ∙ yours)) ∙ ends)
        | inr few ↦ ends-at p Y yours
            ∙ last-after_y g.bias (after g p v).left (length (free_points g (after g p v))) p.left
            (length (free_points g p)) (omega (arith, few, is.some_left)) fewer
            (sym (ends-at (after g p v) X (turn-passes g p v few ∙ ap other yours)) ∙ ends)
      ]

  x-claims_one : (p : Position) → IsPosition g p → p.turn ≡ X → p.left ≤ 1
  x-claims_one p is mine = subst (λ (s : Side). p.left ≤ bias_of g s) mine is.few_left

  ends-x : (p : Position) (v : ℕ)
      → IsPosition g p
      → p.turn ≡ X
      → v < point_count g
      → is_free p v ≡ true
      → avoider_ends g (after g p v) ≡ true
      → avoider_ends g p ≡ true
  ends-x p v is mine within free ends =
      let fewer = length-free_points-after g p v within free in
      let fresh : (after g p v).left ≡ g.bias =
      left-passes g p v (x-claims_one p is mine) ∙ ap (λ (s : Side). bias_of g (other s)) mine in
      ends-at p X mine
      ∙ last-after_x g.bias (after g p v).left (length (free_points g (after g p v))) p.left
      (length (free_points g p)) fresh fewer
      (sym (ends-at (after g p v) Y (turn-after_x g p v is mine)) ∙ ends)

  ends-last : (p : Position) (v : ℕ)
      → p.turn ≡ X
      → v < point_count g
      → is_free p v ≡ true
      → length (free_points g (after g p v)) ≡ 0
      → avoider_ends g p ≡ true
  ends-last p v mine within free none =
      let fewer = length-free_points-after g p v within free in
      ends-at p X mine
      ∙ last-only g.bias p.left (length (free_points g p)) (omega (arith, fewer, none))

  -- ---- the invariant

  -- Avoider has just claimed a point of least weight: the total was lower before
  pub record Moved (p : Position) : Type 0 where
    pub yours : p.turn ≡ Y
    pub before : ℕ
    pub lightest : ℕ
    pub sum : before + lightest ≡ avoider_total g p
    pub small : lightest ≤ before
    pub each : (u : ℕ) → u < point_count g → is_free p u ≡ true → lightest ≤ avoider_weight g p u
    pub below : before < avoider_limit g
    pub ends : avoider_ends g p ≡ true → 2 * before < avoider_limit g
    pub last : length (free_points g p) ≡ 0 → 2 * before < avoider_limit g

  record Safe (p : Position) : Type 0 where
    pub position : IsPosition g p
    pub state : AvoiderHolds g p ⊎ Moved p

  no_length : (xs : List ℕ) → is_empty xs ≡ true → length xs ≡ 0
  no_length [] e = refl
  no_length (x ∷ xs) e = absurd (false≢true e)

  same-x : (p : Position) (v : ℕ) → p.turn ≡ Y → has_filled g (after g p v) X ≡ has_filled g p X
  same-x p v yours = ap (λ (s : FinSet nat_cmp). list_any (is_filled s) (lines_of g))
      (points_of-waiter g p X v yours)

  pub unfilled-moved : (p : Position) → IsPosition g p → Moved p → has_filled g p X ≡ false
  unfilled-moved p is m = elim (cases_Bool (is_empty (free_points g p))) [
    | inl full ↦
        unfilled-below 2 g Y p is.disjoint (let twice = m.last (no_length (free_points g p) full) in
        omega (arith, twice, m.sum, m.small))
    | inr some ↦
        let point = first_free g p some in
        let taken = total-y p point.0 m.yours point.2 in
        let least_of = m.each point.0 point.1 point.2 in
        sym (same-x p point.0 m.yours)
        ∙ unfilled-below 2 g Y (after g p point.0) (ShareNone-after g p point.0 is.disjoint point.2)
        (omega (arith, taken, least_of, m.sum, m.below))
  ]

  unfilled : (p : Position) → Safe p → has_filled g p X ≡ false
  unfilled p i = elim i.state [
    | inl holds ↦ unfilled-below 2 g Y p i.position.disjoint (below-limit g p holds)
    | inr m ↦ unfilled-moved p i.position m
  ]

  -- a point of least weight
  pub moved : (p : Position) (v : ℕ)
      → IsPosition g p
      → AvoiderHolds g p
      → p.turn ≡ X
      → v < point_count g
      → is_free p v ≡ true
      → ((u : ℕ) → u < point_count g → is_free p u ≡ true
      → avoider_weight g p v ≤ avoider_weight g p u)
      → Moved (after g p v)
  moved p v is holds mine within free lightest = record {
    yours = turn-after_x g p v is mine;
    before = avoider_total g p;
    lightest = avoider_weight g p v;
    sum = total-x p v mine free;
    small = weight-le-total 2 g p.y p v;
    each = λ u lt on.
        let le = lightest u lt (free-was g p v u on).0 in
        omega (arith, le, weight-x p v u mine free);
    below = below-limit g p holds;
    ends = λ last. twice-below g p holds (ends-x p v is mine within free last);
    last = λ none. twice-below g p holds (ends-last p v mine within free none);
  }

  -- a point of Enforcer, after which it holds
  pub kept-moved : (p : Position) (v : ℕ)
      → IsPosition g p
      → Moved p
      → v < point_count g
      → is_free p v ≡ true
      → AvoiderHolds g (after g p v)
  kept-moved p v is m within free =
      let taken = total-y p v m.yours free in
      let least_of = m.each v within free in
      holds-from g (after g p v) (omega (arith, taken, least_of, m.sum, m.below)) (λ last.
      let twice = m.ends (ends-y p v is m.yours within free last) in
      omega (arith, taken, least_of, m.sum, twice))

  pub kept-y : (p : Position) (v : ℕ)
      → IsPosition g p
      → AvoiderHolds g p
      → p.turn ≡ Y
      → v < point_count g
      → is_free p v ≡ true
      → AvoiderHolds g (after g p v)
  kept-y p v is holds yours within free =
      let taken = total-y p v yours free in
      let below = below-limit g p holds in
      holds-from g (after g p v) (omega (arith, taken, below)) (λ last.
      let twice = twice-below g p holds (ends-y p v is yours within free last) in
      omega (arith, taken, twice))

  -- the answer is such a point
  pub moved-answer : (p : Position)
      → IsPosition g p
      → AvoiderHolds g p
      → p.turn ≡ X
      → (w : ℕ) → w < point_count g
      → is_free p w ≡ true
      → Moved (after g p (avoider_answer g p))
  moved-answer p is holds mine w lt on =
      let best = answer-lightest g p w lt on in
      let v = avoider_answer g p in
      moved p v is holds mine (member-within g p v best.0) (member-free g p v best.0)
      (λ u within free.
      let le = least-le (avoider_weight g p) (free_points g p) u (free-member g p u within free) in
      omega (arith, le, best.1))

  y≢x : Y ≢ X
  y≢x e = cc

  own : (p : Position)
      → Safe p
      → is_over g p ≡ false
      → p.turn ≡ X
      → (v : ℕ) × (v < point_count g) × (is_free p v ≡ true) × Safe (after g p v)
  own p i going mine = elim i.state [
    | inl holds ↦
        let point = free_point g p going in
        let best = answer-lightest g p point.0 point.1 point.2 in
        let v = avoider_answer g p in
        let within = member-within g p v best.0 in
        let free = member-free g p v best.0 in (
          v,
          within,
          free,
          record {
            position = IsPosition-after g p v i.position within free;
            state = inr (moved-answer p i.position holds mine point.0 point.1 point.2);
          },
        )
    | inr m ↦ absurd (y≢x (sym m.yours ∙ mine))
  ]

  keeps-safe : ((p : Position) → has_filled g p X ≡ false → reaches X Win (outcome g p) ≡ true)
      → Keeps g X Win Safe
  keeps-safe good = record {
    ends = λ p i over. good p (unfilled p i);
    own = λ p i going mine. own p i going mine;
    theirs = λ p i going yours v within free. record {
      position = IsPosition-after g p v i.position within free;
      state = inl (elim i.state [
        | inl holds ↦ kept-y p v i.position holds yours within free
        | inr m ↦ kept-moved p v i.position m within free
      ]);
    };
  }

-- Avoider wins, whoever is to move and however many points Enforcer claims a turn
pub Forces-avoider : (g : Game) (p : Position)
    → g.kind ≡ AvoiderEnforcer
    → IsPosition g p
    → AvoiderHolds g p
    → Forces g p X Win
Forces-avoider g p kind position holds =
    Forces-from_keeps g X Win (keeps-safe g (λ q none. unfilled-avoider g q kind none)) p (record {
      position = position;
      state = inl holds;
    })

-- ---- the answer

pub answer-is : (g : Game) (p : Position) (points : List ℕ) (lowest r : ℕ)
    → g.kind ≢ Switching
    → ((v : ℕ) → v < 256 → get_or points v 0 ≡ avoider_weight g p v)
    → lowest ≡ least (map (λ v. get_or points v 0) (free_points g p))
    → r ≡ unwrap_or (find (λ v. get_or points v 0 == lowest) (free_points g p)) 0
    → r ≡ avoider_answer g p
unfolding avoider_answer
answer-is g p points lowest r on_lines each is_least is =
    let here : (v : ℕ) → Contains (free_points g p) v → get_or points v 0 ≡ avoider_weight g p v =
    λ v c. each v (omega (arith, member-within g p v c, few_points-lines g on_lines)) in
    let same =
    is_least ∙ least-same (λ v. get_or points v 0) (avoider_weight g p) (free_points g p) here in
    is
    ∙ ap (λ o. unwrap_or o 0)
    (find_same (λ v. get_or points v 0 == lowest)
    (λ v. avoider_weight g p v == least (map (avoider_weight g p) (free_points g p)))
    (free_points g p) (λ v c. ap₂ (λ (a b : ℕ). a == b) (here v c) same))

-- where some point is free the answer is
pub answer-free : (g : Game) (p : Position)
    → is_full g p ≡ false
    → (avoider_answer g p < point_count g) × (is_free p (avoider_answer g p) ≡ true)
answer-free g p some =
    let point = first_free g p some in
    let best = answer-lightest g p point.0 point.1 point.2 in
    (member-within g p (avoider_answer g p) best.0, member-free g p (avoider_answer g p) best.0)

-- after the answer X has filled no line
pub answer-wins : (g : Game) (p : Position)
    → g.kind ≡ AvoiderEnforcer
    → IsPosition g p
    → is_full g p ≡ false
    → p.turn ≡ X
    → AvoiderHolds g p
    → outcome g (after g p (avoider_answer g p)) ≡ XWins
unfolding outcome
answer-wins g p kind is some mine holds =
    let point = first_free g p some in
    let m = moved-answer g p is holds mine point.0 point.1 point.2 in
    let here = answer-free g p some in
    let q = after g p (avoider_answer g p) in
    let none = unfilled-moved g q (IsPosition-after g p (avoider_answer g p) is here.0 here.1) m in
    ap₂ (λ (k : Kind) (x : Bool). outcome_by k x (has_filled g q Y) (short_joins g q)) kind none

-- after it every point of Enforcer brings the potential back
pub answer-keeps : (g : Game) (p : Position)
    → IsPosition g p
    → is_full g p ≡ false
    → p.turn ≡ X
    → AvoiderHolds g p
    → (u : ℕ) → u < point_count g
    → is_free (after g p (avoider_answer g p)) u ≡ true
    → AvoiderHolds g (after g (after g p (avoider_answer g p)) u)
answer-keeps g p is some mine holds u within free =
    let point = first_free g p some in
    let m = moved-answer g p is holds mine point.0 point.1 point.2 in
    let here = answer-free g p some in
    kept-moved g (after g p (avoider_answer g p)) u
    (IsPosition-after g p (avoider_answer g p) is here.0 here.1) m within free
