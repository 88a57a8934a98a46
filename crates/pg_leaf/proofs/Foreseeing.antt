-- What counts at a position say of the position after a move.
use Rattle.std.proofs.Common.{◌≡◌, ◌≢◌, ℕ, ◌+◌, ◌-◌, ◌*◌, ◌<◌, ◌≤◌, Bool, true, false, not}
use Rattle.std.proofs.Common.{◌==◌}
use Rattle.std.proofs.Common.{◌⊎◌, List, [], ◌∷◌, length, refl, sym, ap, ◌∙◌, subst, inl, inr}
use Rattle.std.proofs.Common.{arith, cond, if◌then◌else◌, ltb, ◌^◌}
use Rattle.pg_leaf.proofs.Common.{cases_Bool, cases_eq, false≢true, cond-true}
use Rattle.pg_leaf.proofs.Common.{false_from_ne_true, count_by}
use Rattle.pg_leaf.proofs.Common.{range_with_len, MakerBreaker, MakerMaker, AvoiderEnforcer}
use Rattle.pg_leaf.proofs.Common.{Switching, Score, Side, Game, Position, View, has_filled}
use Rattle.pg_leaf.proofs.Common.{short_joins, after, points_of, is_touched, lines_of}
use Rattle.pg_leaf.proofs.Common.{free_points, IsPosition, IsThreatLine, may_attack, defender}
use Rattle.pg_leaf.proofs.Common.{defends, attack_wins, pairs_exist, breaker_of, live_lines}
use Rattle.pg_leaf.proofs.Common.{live_with, line_at, member-from_any}
use Rattle.pg_leaf.proofs.Common.{same_some}
use Rattle.std.specs.Prelude.{Option, Some, None, IfSome}
use Rattle.std.specs.FinSet.{FinSet, contains, insert}
use Rattle.std.specs.List.{list_all, sum_by}
use Rattle.std.specs.Ordering.{nat_cmp}
use Rattle.std.proofs.lemmas.Bool.{le-ltb, lt-ltb, or_parts, and_parts, not-true, not_from_false}
use Rattle.std.proofs.lemmas.Bool.{eq-eqb}
use Rattle.std.proofs.Math.Nat.{add-mul, mul-le-mul_left, mul-le-mul_right}
use Rattle.std.proofs.lemmas.List.Sums.{length-filter, sum_by-cons}
use Rattle.pg_base.specs.declared.kind.Kind.{Kind}
use Rattle.pg_base.specs.declared.side.Side.TheVariants.{X, Y}
use Rattle.pg_base.specs.Side.{other, is_same_side}
use Rattle.pg_board.specs.Board.{degree}
use Rattle.pg_board.proofs.Digits.{count-all}
use Rattle.pg_game.specs.Avoider.{avoider_holds, x_takes_last}
use Rattle.pg_game.specs.Decided.{greatest_depth}
use Rattle.pg_game.specs.Game.{all_touched, can_join, is_full, is_empty, is_over, is_over_by}
use Rattle.pg_game.specs.Potential.{IsBaseOf, full_weight, greatest_length, greatest_weight, is_on}
use Rattle.pg_game.specs.Potential.{line_weight, point_weight, potential_holds, times_counted}
use Rattle.pg_game.specs.Potential.{total_weight, weight}
use Rattle.pg_game.proofs.FreePoints.{length-free_points-after}
use Rattle.pg_game.proofs.Greatest.{greatest-le}
use Rattle.pg_game.proofs.LineSums.{line_weight-touched, weight-le-total}
use Rattle.pg_game.proofs.LineWeights.{stand_once, total-grown, total-taken, unfilled-below}
use Rattle.pg_game.proofs.Members.{false-at, list_any-one}
use Rattle.pg_game.proofs.Moves.{IsPosition-after, other_other, points-from}
use Rattle.pg_game.proofs.Moves.{points_of-mover, points_of-waiter, turn-alternates}
use Rattle.pg_game.proofs.ThreatLaws.{filled-waits, near-filled}
use Rattle.pg_game.proofs.WeightBounds.{IsBaseOf-bias, IsBaseOf-two}
use Rattle.pg_game.proofs.WeightBounds.{bias-le, total-few}
use Rattle.pg_game.specs.Threat.{is_race}
use Rattle.pg_threat.proofs.Deciding.{attack_wins-biased, attack_wins-not, attack_wins-passed}
use Rattle.pg_threat.proofs.Deciding.{attack_wins-served, bound-after}
use Rattle.pg_threat.specs.Search.{points_of_line}
use Rattle.pg_threat.specs.Serving.{IsApart, IsBound}
use Rattle.pg_threat.specs.declared.line.ThreatLine.{ThreatLine}
use Rattle.pg_threat.proofs.LineCounts.{none-lacking, one-lacked}
use Rattle.pg_leaf.specs.Ahead.{base_for, is_avoiding, IsAhead, IsKnownAt, IsMoveOf, IsNext}
use Rattle.pg_leaf.specs.Ahead.{IsWeighed}
use Rattle.pg_leaf.specs.declared.ahead.Ahead.{Ahead}
use Rattle.pg_leaf.specs.declared.ahead.Next.{Next}
use Rattle.pg_leaf.specs.declared.ahead.Next.TheVariants.{Unknown, Quiet, Line}
use Rattle.pg_leaf.proofs.ShortCounts.{few-lines, none-counted}

-- ---- sides

pub same-side : (a c : Side) → is_same_side a c ≡ true → a ≡ c
same-side X X h = refl
same-side X Y h = absurd (false≢true h)
same-side Y X h = absurd (false≢true h)
same-side Y Y h = refl

other-side : (a c : Side) → is_same_side a c ≡ false → a ≡ other c
other-side X X h = absurd (false≢true (sym h))
other-side X Y h = refl
other-side Y X h = refl
other-side Y Y h = absurd (false≢true (sym h))

different : (a c : Side) → is_same_side a c ≡ false → a ≡ c → ⊥
different X X h e = false≢true (sym h)
different X Y h e = absurd cc
different Y X h e = absurd cc
different Y Y h e = false≢true (sym h)

-- what is said of a value where there is one
pub held : (b : Bool) (o : Option Bool) (r : Bool) → o ≡ Some r → IfSome o (λ s. s ≡ b) → r ≡ b
held b None r is h = absurd cc
held b (Some s) r is h = sym (same_some is) ∙ h

-- ---- kinds

pub no-race : (kind : Kind) → is_race kind ≡ false → kind ≢ MakerMaker
no-race kind off e = false≢true (sym off ∙ ap is_race e)

pub avoiding-is : (kind : Kind) → is_avoiding kind ≡ true → kind ≡ AvoiderEnforcer
avoiding-is AvoiderEnforcer on = refl
avoiding-is MakerBreaker on = absurd (false≢true on)
avoiding-is MakerMaker on = absurd (false≢true on)
avoiding-is Switching on = absurd (false≢true on)

pub avoiding-not : (kind : Kind) → is_avoiding kind ≡ false → kind ≢ AvoiderEnforcer
avoiding-not kind off e = false≢true (sym off ∙ ap is_avoiding e)

-- the base and the side of Avoider's weights, and the base of others
pub avoider-parts : (kind : Kind) (bias : ℕ) (d : Side)
    → is_avoiding kind ≡ true
    → (base_for kind bias ≡ 2) × (breaker_of kind d ≡ Y)
avoider-parts AvoiderEnforcer bias d on = (refl, refl)
avoider-parts MakerBreaker bias d on = absurd (false≢true on)
avoider-parts MakerMaker bias d on = absurd (false≢true on)
avoider-parts Switching bias d on = absurd (false≢true on)

pub other-base : (kind : Kind) (bias : ℕ)
    → is_avoiding kind ≡ false
    → base_for kind bias ≡ 1 + bias
other-base AvoiderEnforcer bias off = absurd (false≢true (sym off))
other-base MakerBreaker bias off = refl
other-base MakerMaker bias off = refl
other-base Switching bias off = refl

-- ---- the potential, by the total

fails-by : (total rest limit : ℕ) → limit ≤ total → ltb (total + rest) limit ≡ false
fails-by total rest limit heavy = le-ltb (total + rest) limit (omega arith)

risk-fails : (b : Bool) (total limit : ℕ)
    → limit ≤ total
    → ltb (if b then 2 * total else total) limit ≡ false
risk-fails true total limit heavy = le-ltb (2 * total) limit (omega arith)
risk-fails false total limit heavy = le-ltb total limit heavy

holds-by : (total times most limit : ℕ)
    → times ≡ 0
    → total < limit
    → ltb (total + times * most) limit ≡ true
holds-by total times most limit none light = rw none (lt-ltb (total + 0 * most) limit (omega arith))

-- at the beginning of the side's turn the greatest weight doesn't count
none-counted_times : (g : Game) (q : Position) (s : Side)
    → is_same_side q.turn s ≡ true
    → q.left ≡ g.bias
    → times_counted g q s ≡ 0
none-counted_times g q s turn left =
    let same = same-side q.turn s turn in
    let mine : is_same_side s q.turn ≡ true = ap (is_same_side s) same ∙ self-same s in
    cond-true _ _ _ mine ∙ omega (arith, left)
  where
    self-same : (a : Side) → is_same_side a a ≡ true
    self-same X = refl
    self-same Y = refl

-- the greatest weight counts at most as often as Y claims points a turn
times-few : (g : Game) (q : Position) (s : Side) → times_counted g q s ≤ g.bias
times-few g q s = elim (cases_Bool (is_same_side s q.turn)) [
  | inl mine ↦ rw mine (omega arith)
  | inr yours ↦ rw yours (omega arith)
]

-- and no point weighs more than all lines
scant-potential : (g : Game) (q : Position) (s : Side)
    → (1 + g.bias) * total_weight (1 + g.bias) g (points_of q s) q < full_weight (1 + g.bias) g
    → potential_holds g q s ≡ true
unfolding potential_holds
scant-potential g q s light =
    let sum = total_weight (1 + g.bias) g (points_of q s) q in
    let most = greatest_weight g q s in
    let le : most ≤ sum = greatest-le (weight g q s) (free_points g q) sum
    (λ v c. weight-le-total (1 + g.bias) g (points_of q s) q v) in
    let first : times_counted g q s * most ≤ g.bias * most =
    mul-le-mul_right most (times-few g q s) in
    let second : g.bias * most ≤ g.bias * sum = mul-le-mul_left g.bias le in
    lt-ltb (sum + times_counted g q s * most) (full_weight (1 + g.bias) g)
    (omega (arith, light, first, second, add-mul 1 g.bias sum))

module _ (g : Game) (t : Score) (q : Position) (side : Side) (base total limit : ℕ)
    (total_is : total ≡ total_weight base g (points_of q side) q)
    (limit_is : limit ≡ full_weight base g) where
  total-at : (n : ℕ) (s : Side)
      → base ≡ n
      → side ≡ s
      → total ≡ total_weight n g (points_of q s) q
  total-at n s bases sides =
      total_is ∙ (λ i. total_weight (bases i) g (points_of q (sides i)) q)

  limit-at : (n : ℕ) → base ≡ n → limit ≡ full_weight n g
  limit-at n bases = limit_is ∙ ap (λ m. full_weight m g) bases

  scant-at : (s : Side)
      → side ≡ s
      → base ≡ 1 + g.bias
      → base * total < limit
      → (1 + g.bias) * total_weight (1 + g.bias) g (points_of q s) q < full_weight (1 + g.bias) g
  scant-at s sides bases light =
      let total_eq = total-at (1 + g.bias) s bases sides in
      let limit_eq = limit-at (1 + g.bias) bases in
      let product : base * total
      ≡ (1 + g.bias) * total_weight (1 + g.bias) g (points_of q s) q =
      λ i. bases i * total_eq i in
      omega (arith, product, limit_eq, light)

  -- where the total isn't below the limit, it doesn't hold
  pub heavy-fails : (kind : Kind)
      → side ≡ breaker_of kind (defender kind t)
      → base ≡ base_for kind g.bias
      → limit ≤ total
      → false ≡ defends kind g t q
  unfolding potential_holds avoider_holds
  heavy-fails MakerBreaker sides bases heavy =
      let total_eq = total-at (1 + g.bias) Y bases sides in
      let limit_eq = limit-at (1 + g.bias) bases in
      let most : full_weight (1 + g.bias) g ≤ total_weight (1 + g.bias) g (points_of q Y) q =
      omega (arith, total_eq, limit_eq, heavy) in
      sym (fails-by _ _ _ most)
  heavy-fails MakerMaker sides bases heavy =
      let total_eq = total-at (1 + g.bias) (defender MakerMaker t) bases sides in
      let limit_eq = limit-at (1 + g.bias) bases in
      let most : full_weight (1 + g.bias) g
      ≤ total_weight (1 + g.bias) g (points_of q (defender MakerMaker t)) q =
      omega (arith, total_eq, limit_eq, heavy) in
      sym (fails-by _ _ _ most)
  heavy-fails AvoiderEnforcer sides bases heavy =
      let total_eq = total-at 2 Y bases sides in
      let limit_eq = limit-at 2 bases in
      let most : full_weight 2 g ≤ total_weight 2 g (points_of q Y) q =
      omega (arith, total_eq, limit_eq, heavy) in
      sym (risk-fails _ _ _ most)
  heavy-fails Switching sides bases heavy = refl

  -- where it is, and the side that defends begins its turn, it does
  pub light-holds : (kind : Kind)
      → kind ≢ AvoiderEnforcer
      → kind ≢ Switching
      → side ≡ breaker_of kind (defender kind t)
      → base ≡ base_for kind g.bias
      → is_same_side q.turn side ≡ true
      → q.left ≡ g.bias
      → total < limit
      → true ≡ defends kind g t q
  unfolding potential_holds
  light-holds MakerBreaker no_ae no_sw sides bases turn left light =
      let total_eq = total-at (1 + g.bias) Y bases sides in
      let limit_eq = limit-at (1 + g.bias) bases in
      let below : total_weight (1 + g.bias) g (points_of q Y) q < full_weight (1 + g.bias) g =
      omega (arith, total_eq, limit_eq, light) in
      sym
      (holds-by _ _ _ _
      (none-counted_times g q Y (sym (ap (is_same_side q.turn) sides) ∙ turn) left) below)
  light-holds MakerMaker no_ae no_sw sides bases turn left light =
      let s = defender MakerMaker t in
      let total_eq = total-at (1 + g.bias) s bases sides in
      let limit_eq = limit-at (1 + g.bias) bases in
      let below : total_weight (1 + g.bias) g (points_of q s) q < full_weight (1 + g.bias) g =
      omega (arith, total_eq, limit_eq, light) in
      sym
      (holds-by _ _ _ _
      (none-counted_times g q s (sym (ap (is_same_side q.turn) sides) ∙ turn) left) below)
  light-holds AvoiderEnforcer no_ae no_sw sides bases turn left light = absurd (no_ae refl)
  light-holds Switching no_ae no_sw sides bases turn left light = absurd (no_sw refl)

  -- and it does where it would if a point weighed as much as all lines
  pub scant-holds : (kind : Kind)
      → kind ≢ AvoiderEnforcer
      → kind ≢ Switching
      → side ≡ breaker_of kind (defender kind t)
      → base ≡ base_for kind g.bias
      → base * total < limit
      → true ≡ defends kind g t q
  scant-holds MakerBreaker no_ae no_sw sides bases light =
      sym (scant-potential g q Y (scant-at Y sides bases light))
  scant-holds MakerMaker no_ae no_sw sides bases light =
      sym (scant-potential g q (defender MakerMaker t)
      (scant-at (defender MakerMaker t) sides bases light))
  scant-holds AvoiderEnforcer no_ae no_sw sides bases light = absurd (no_ae refl)
  scant-holds Switching no_ae no_sw sides bases light = absurd (no_sw refl)

  -- Avoider's, by who takes the last point
  pub avoider-by : (kind : Kind) (b r : Bool)
      → kind ≡ AvoiderEnforcer
      → side ≡ breaker_of kind (defender kind t)
      → base ≡ base_for kind g.bias
      → b ≡ x_takes_last g.bias q.turn q.left (length (free_points g q))
      → r ≡ ltb (if b then 2 * total else total) limit
      → r ≡ defends kind g t q
  unfolding avoider_holds
  avoider-by AvoiderEnforcer b r is sides bases last risk =
      let total_eq = total-at 2 Y bases sides in
      let limit_eq = limit-at 2 bases in
      risk ∙ (λ i. ltb (if last i then 2 * total_eq i else total_eq i) (limit_eq i))
  avoider-by MakerBreaker b r is sides bases last risk = absurd cc
  avoider-by MakerMaker b r is sides bases last risk = absurd cc
  avoider-by Switching b r is sides bases last risk = absurd cc

-- ---- the end

empty-length : (xs : List ℕ) → 1 ≤ length xs → is_empty xs ≡ false
empty-length [] some = absurd (omega arith)
empty-length (x ∷ xs) some = refl

over-parts : (kind : Kind) (x y touched full joined joinable : Bool)
    → kind ≢ Switching
    → is_over_by kind x y touched full joined joinable ≡ false
    → (x ≡ false) × (kind ≡ MakerMaker → y ≡ false)
over-parts MakerBreaker x y touched full joined joinable lines going =
    ((or_parts x _ going).0, λ e. absurd cc)
over-parts AvoiderEnforcer x y touched full joined joinable lines going =
    ((or_parts x _ going).0, λ e. absurd cc)
over-parts MakerMaker x y touched full joined joinable lines going =
    let parts = or_parts x _ going in (parts.0, λ e. (or_parts y _ parts.1).0)
over-parts Switching x y touched full joined joinable lines going = absurd (lines refl)

going-by : (kind : Kind) (x y touched full joined joinable : Bool)
    → kind ≢ Switching
    → x ≡ false
    → (kind ≡ MakerMaker → y ≡ false)
    → (kind ≢ MakerMaker → touched ≡ false)
    → full ≡ false
    → is_over_by kind x y touched full joined joinable ≡ false
going-by MakerBreaker x y touched full joined joinable lines a b c d =
    let clear = c (λ e. absurd cc) in rw (a, clear, d) refl
going-by AvoiderEnforcer x y touched full joined joinable lines a b c d =
    let clear = c (λ e. absurd cc) in rw (a, clear, d) refl
going-by MakerMaker x y touched full joined joinable lines a b c d =
    let theirs = b refl in rw (a, theirs, d) refl
going-by Switching x y touched full joined joinable lines a b c d = absurd (lines refl)

-- lines that are all touched weigh nothing
touched-nothing : (base k : ℕ) (s : FinSet nat_cmp) (q : Position) (lines : List (List ℕ))
    → list_all (is_touched s) lines ≡ true
    → sum_by (line_weight base k s q) lines ≡ 0
touched-nothing base k s q [] all = refl
touched-nothing base k s q (line ∷ lines) all =
    let parts = and_parts (is_touched s line) _ all in
    let here = line_weight-touched base k s q line parts.0 in
    let rest = touched-nothing base k s q lines parts.1 in
    omega (arith, here, rest, sum_by-cons (line_weight base k s q) line lines)

pub untouched-some : (base : ℕ) (g : Game) (q : Position)
    → total_weight base g (points_of q Y) q ≢ 0
    → all_touched g q ≡ false
unfolding total_weight
untouched-some base g q some = false_from_ne_true (all_touched g q) (λ all.
    some (touched-nothing base (greatest_length (lines_of g)) q.y q (lines_of g) all))

-- ---- the base of the weights

pub base-fits : (g : Game) (kind : Kind) (n : ℕ) → n ≡ base_for kind g.bias → IsBaseOf n g
base-fits g AvoiderEnforcer n is = subst (λ (m : ℕ). IsBaseOf m g) (sym is) (IsBaseOf-two g)
base-fits g MakerBreaker n is =
    subst (λ (m : ℕ). IsBaseOf m g) (sym is) (IsBaseOf-bias g g.bias refl)
base-fits g MakerMaker n is =
    subst (λ (m : ℕ). IsBaseOf m g) (sym is) (IsBaseOf-bias g g.bias refl)
base-fits g Switching n is =
    subst (λ (m : ℕ). IsBaseOf m g) (sym is) (IsBaseOf-bias g g.bias refl)

pub limit-few : (b : View) (a : Ahead) → IsWeighed b a → a.limit ≤ 2 ^ 100
limit-few b a w =
    let ok = base-fits b.game b.game.kind a.base w.base in omega (arith, w.limit, ok.few)

-- no base is greater than 8
base-small : (kind : Kind) (bias : ℕ) → bias ≤ 7 → base_for kind bias ≤ 8
base-small AvoiderEnforcer bias few = omega arith
base-small MakerBreaker bias few = omega arith
base-small MakerMaker bias few = omega arith
base-small Switching bias few = omega arith

-- nor does such a product reach a limit of words
pub scant-few : (b : View) (a : Ahead) (total : ℕ)
    → IsWeighed b a
    → total < a.limit
    → a.base * total < 2 ^ 128
scant-few b a total w light =
    let few : a.base ≤ 8 =
    omega (arith, w.base, base-small b.game.kind b.game.bias (bias-le b.game)) in
    let product : a.base * total ≤ 8 * total = mul-le-mul_right total few in
    omega (arith, product, light, limit-few b a w)

-- ---- counts

-- what passes the first test passes one of the others
count-split : {A : Type 0} (f h k : A → Bool) (xs : List A)
    → ((x : A) → f x ≡ true → (h x ≡ true) ⊎ (k x ≡ true))
    → count_by f xs ≤ count_by h xs + count_by k xs
count-split f h k [] each = omega arith
count-split f h k (x ∷ xs) each =
    let rest = count-split f h k xs each in
    omega (
      arith,
      rest,
      here (f x) (h x) (k x) (each x),
      sum_by-cons (λ y. cond (f y) 1 0) x xs,
      sum_by-cons (λ y. cond (h y) 1 0) x xs,
      sum_by-cons (λ y. cond (k y) 1 0) x xs,
    )
  where
    here : (a b c : Bool)
        → (a ≡ true → (b ≡ true) ⊎ (c ≡ true))
        → cond a 1 0 ≤ cond b 1 0 + cond c 1 0
    here false b c one = omega arith
    here true true c one = omega arith
    here true false true one = omega arith
    here true false false one =
        elim (one refl) [ inl off ↦ absurd (false≢true off) | inr off ↦ absurd (false≢true off) ]

-- ---- after a move

module _ (b : View) (q : Position) (v : ℕ) (m : IsMoveOf b q v) where
  abbrev g : Game
  g = b.game

  abbrev p : Position
  p = b.stand.position

  abbrev next : Position
  next = after g p v

  going-parts : (has_filled g p X ≡ false) × (g.kind ≡ MakerMaker → has_filled g p Y ≡ false)
  unfolding is_over
  going-parts = over-parts g.kind (has_filled g p X) (has_filled g p Y) (all_touched g p)
      (is_full g p) (short_joins g p) (can_join g p) m.lines m.going

  next-position : IsPosition g next
  next-position = IsPosition-after g p v m.position m.range m.free

  pub move-position : IsPosition b.game q
  move-position = subst (λ (x : Position). IsPosition g x) (sym m.leads) next-position

  -- one free point fewer
  pub move-free : length (free_points b.game q) + 1 ≡ length (free_points b.game b.stand.position)
  move-free = ap (λ (x : Position). length (free_points g x) + 1) m.leads
      ∙ length-free_points-after g p v m.range m.free

  not-full : 2 ≤ length (free_points g p) → is_full g q ≡ false
  not-full some = empty-length (free_points g q) (omega (arith, some, move-free))

  -- a side that isn't to move fills no line, nor one that lacks more than one point of each
  waits : (side : Side)
      → p.turn ≡ other side
      → has_filled g p side ≡ false
      → has_filled g q side ≡ false
  waits side turn none =
      ap (λ (x : Position). has_filled g x side) m.leads ∙ filled-waits g p side v turn ∙ none

  fills-none : (side : Side)
      → p.turn ≡ side
      → has_filled g p side ≡ false
      → live_with g p (other side) 1 ≡ 0
      → has_filled g q side ≡ false
  fills-none side turn none few = ap (λ (x : Position). has_filled g x side) m.leads
      ∙ false_from_ne_true (has_filled g next side) (λ on.
      let near = near-filled g p side v turn m.free none on in
      false≢true
      (sym (none-lacking g p side 1 few v) ∙ one-lacked g p side m.position.disjoint v near))

  -- by the counts alone, one of the sides
  filled-none : (side : Side)
      → has_filled g p side ≡ false
      → live_with g p (other p.turn) 1 ≡ 0
      → has_filled g q side ≡ false
  filled-none side none few = elim (cases_Bool (is_same_side p.turn side)) [
    | inl mine ↦
        let turn : p.turn ≡ side = same-side p.turn side mine in
        fills-none side turn none (ap (λ (s : Side). live_with g p (other s) 1) (sym turn) ∙ few)
    | inr yours ↦ waits side (other-side p.turn side yours) none
  ]

  -- with two free points the game goes on if X has filled no line, in Maker-Maker Y none either,
  -- and else some line has no point of Y
  going-on : 2 ≤ length (free_points g p)
      → has_filled g q X ≡ false
      → (g.kind ≡ MakerMaker → has_filled g q Y ≡ false)
      → (g.kind ≢ MakerMaker → all_touched g q ≡ false)
      → is_over g q ≡ false
  unfolding is_over
  going-on some x y touched = going-by g.kind (has_filled g q X) (has_filled g q Y)
      (all_touched g q) (is_full g q) (short_joins g q) (can_join g q) m.lines x y touched
      (not-full some)

  module _ (t : Score) (a : Ahead) (w : IsAhead t b a) (total : ℕ)
      (total_is : total ≡ total_weight a.base b.game (points_of q a.breaker) q)
      (positive : total ≢ 0) (some : 2 ≤ length (free_points b.game b.stand.position)) where
    breaks : g.kind ≢ MakerMaker → a.breaker ≡ Y
    breaks no_mm = w.weighed.breaker ∙ ap (breaker_of g.kind) w.defends ∙ at g.kind no_mm m.lines
      where
        at : (kind : Kind)
            → kind ≢ MakerMaker
            → kind ≢ Switching
            → breaker_of kind (defender kind t) ≡ Y
        at MakerBreaker apart lines = refl
        at AvoiderEnforcer apart lines = refl
        at MakerMaker apart lines = absurd (apart refl)
        at Switching apart lines = absurd (lines refl)

    clear : g.kind ≢ MakerMaker → all_touched g q ≡ false
    clear no_mm = untouched-some a.base g q (λ none.
        positive
        (total_is ∙ ap (λ (s : Side). total_weight a.base g (points_of q s) q) (breaks no_mm)
        ∙ none))

    -- where the total is below the limit, X has filled no line
    pub on-light : g.kind ≢ MakerMaker → total < a.limit → is_over b.game q ≡ false
    on-light no_mm light =
        let below : total_weight a.base g (points_of q a.breaker) q < full_weight a.base g =
        omega (arith, total_is, w.weighed.limit, light) in
        let filled = unfilled-below a.base g a.breaker q move-position.disjoint below in
        going-on some (sym (ap (λ (s : Side). has_filled g q (other s)) (breaks no_mm)) ∙ filled)
        (λ mm. absurd (no_mm mm)) clear

    -- nor where Y moved
    pub on-waiting : g.kind ≢ MakerMaker → p.turn ≡ Y → is_over b.game q ≡ false
    on-waiting no_mm turn =
        going-on some (waits X turn going-parts.0) (λ mm. absurd (no_mm mm)) clear

    -- nor where the side that moved lacked more than one point of each line
    pub on-few : live_with b.game b.stand.position (other b.stand.position.turn) 1 ≡ 0
        → is_over b.game q ≡ false
    on-few few = going-on some (filled-none X going-parts.0 few)
        (λ mm. filled-none Y (going-parts.1 mm) few) clear

  -- ---- the total

  module _ (a : Ahead) (w : IsWeighed b a) where
    abbrev own : FinSet nat_cmp
    own = points_of p a.breaker

    ok : IsBaseOf a.base g
    ok = base-fits g g.kind a.base w.base

    -- where the move makes lines harmless
    pub total-mine : is_same_side a.breaker b.stand.position.turn ≡ true
        → total_weight a.base b.game (points_of q a.breaker) q
        + point_weight a.base b.game (points_of b.stand.position a.breaker) b.stand.position v
        ≡ a.total
    total-mine mine =
        let turn : p.turn ≡ a.breaker = sym (same-side a.breaker p.turn mine) in
        let taken = total-taken g (stand_once g) a.base own p v m.free in
        let at : total_weight a.base g (points_of q a.breaker) q
        ≡ total_weight a.base g (insert own v) next =
        ap (λ (x : Position). total_weight a.base g (points_of x a.breaker) x) m.leads
        ∙ ap (λ (s : FinSet nat_cmp). total_weight a.base g s next)
        (points_of-mover g p a.breaker v turn) in
        omega (arith, taken, at, w.total)

    -- where it makes none harmless
    pub total-yours : is_same_side a.breaker b.stand.position.turn ≡ false
        → total_weight a.base b.game (points_of q a.breaker) q
        ≡ a.total + (a.base - 1)
        * point_weight a.base b.game (points_of b.stand.position a.breaker) b.stand.position v
    total-yours yours =
        let turn : p.turn ≡ other a.breaker = sym
        (ap other (other-side a.breaker p.turn yours) ∙ other_other p.turn) in
        let n = a.base - 1 in
        let one : 1 + n ≡ a.base = omega (arith, ok.some) in
        let grown = subst (λ (k : ℕ). total_weight k g own p + n * point_weight k g own p v
        ≡ total_weight k g own next) one (total-grown g (stand_once g) n own p v m.free) in
        let at : total_weight a.base g (points_of q a.breaker) q ≡ total_weight a.base g own next =
        ap (λ (x : Position). total_weight a.base g (points_of x a.breaker) x) m.leads
        ∙ ap (λ (s : FinSet nat_cmp). total_weight a.base g s next)
        (points_of-waiter g p a.breaker v turn) in
        omega (arith, grown, at, w.total)

    pub after-few : total_weight a.base b.game (points_of q a.breaker) q ≤ 2 ^ 115
    after-few = total-few a.base g (points_of q a.breaker) q ok.some ok.few

    pub base-some : 1 ≤ a.base
    base-some = ok.some

  -- ---- threats

  next-turn : g.bias ≡ 1 → q.turn ≡ other p.turn
  next-turn one =
      ap (λ (x : Position). x.turn) m.leads ∙ turn-alternates g p v m.position one

  -- the next side has no short threat line if it has none where the turn passes to it
  pub no-attack : IsNext b Quiet → is_over b.game q ≡ false → attack_wins b.game q ≡ false
  no-attack none going = elim (cases_eq g.bias 1) [
    | inr ne ↦ attack_wins-biased g q ne
    | inl one ↦ elim (cases_Bool (may_attack g.kind (other p.turn))) [
      | inr off ↦ attack_wins-not g q
          (subst (λ (s : Side). may_attack g.kind s ≡ false) (sym (next-turn one)) off)
      | inl may ↦ subst (λ (x : Position). attack_wins g x ≡ false) (sym m.leads)
          (attack_wins-passed g p v one m.position m.range m.free may m.going
          (subst (λ (x : Position). is_over g x ≡ false) m.leads going)
          (none (record { single = one; may = may })))
    ]
  ]

  -- and where it has one, it has that one after a move apart from it
  pub served : (line : ThreatLine)
      → IsNext b (Line line)
      → is_over b.game q ≡ false
      → IsApart b.game b.stand.position v (points_of_line line)
      → (attack_wins b.game q ≡ true) × IsThreatLine b.game q q.turn (points_of_line line)
  served line known going apart = subst (λ (x : Position).
      (attack_wins g x ≡ true) × IsThreatLine g x x.turn (points_of_line line)) (sym m.leads)
      (attack_wins-served g p v (points_of_line line) m.position m.range m.free known.0.may
      (subst (λ (x : Position). is_over g x ≡ false) m.leads going) apart known.1.first.line
      known.1.few)

  -- what is known of the next side's threat lines where the turn passes is so after the move
  pub known-after : (n : Next) → IsNext b n → IsKnownAt b.game q n
  known-after Unknown known = known
  known-after Quiet known = no-attack known
  known-after (Line line) known = λ going.
      let turn = sym (next-turn known.0.single) in record {
        single = known.0.single;
        may = subst (λ (s : Side). may_attack g.kind s ≡ true) turn known.0.may;
        bound = subst (λ (s : Side). IsBound g q s line) turn
            (subst (λ (x : Position). IsBound g x (other p.turn) line) (sym m.leads)
            (bound-after g p v greatest_depth line m.position m.range m.free known.0.may m.going
            (subst (λ (x : Position). is_over g x ≡ false) m.leads going) known.1));
      }

  -- ---- pairs

  live-length : (x : Position) (s : Side)
      → length (live_lines g x s)
      ≡ count_by (λ line. not (is_touched (points_of x s) line)) (lines_of g)
  unfolding live_lines
  live-length x s = length-filter (λ i. not (is_touched (points_of x s) (line_at g i)))
      (range_with_len 0 (length (lines_of g)))
      ∙ count-all (λ i. not (is_touched (points_of x s) (line_at g i)))
      (λ line. not (is_touched (points_of x s) line)) (lines_of g) (λ i low. refl)

  -- a line that a move touches is one through its point
  touched-by : (s : Side) (line : List ℕ)
      → not (is_touched (points_of p s) line) ≡ true
      → (not (is_touched (points_of next s) line) ≡ true)
      ⊎ ((is_on v line ≡ true) × (p.turn ≡ s))
  touched-by s line live = elim (cases_Bool (is_touched (points_of next s) line)) [
    | inr off ↦ inl (not_from_false _ off)
    | inl on ↦
        let found = member-from_any (contains (points_of next s)) line on in
        elim (points-from g p s v found.0 found.2) [
          | inl old ↦ absurd (false≢true
              (sym (false-at (contains (points_of p s)) line found.0 (not-true _ live) found.1)
              ∙ old))
          | inr new ↦ inr
              (list_any-one (λ r. r == v) line found.0 found.1 (eq-eqb found.0 v new.1), new.0)
        ]
  ]

  -- as many lines stay live as before but for those through the point
  live-left : (s : Side)
      → length (live_lines g p s) ≤ length (live_lines g q s) + degree g v
  live-left s =
      let split = count-split (λ line. not (is_touched (points_of p s) line))
      (λ line. not (is_touched (points_of next s) line)) (is_on v) (lines_of g) (λ line live.
      elim (touched-by s line live) [ inl same ↦ inl same | inr new ↦ inr new.0 ]) in
      let same = ap (λ (x : Position). length (live_lines g x s)) m.leads in
      omega (arith, split, same, live-length p s, live-length next s)

  live-stay : (s : Side)
      → is_same_side s p.turn ≡ false
      → length (live_lines g p s) ≤ length (live_lines g q s)
  live-stay s apart =
      let split = count-split (λ line. not (is_touched (points_of p s) line))
      (λ line. not (is_touched (points_of next s) line)) (λ line. false) (lines_of g) (λ line live.
      elim (touched-by s line live) [
        | inl same ↦ inl same
        | inr new ↦ absurd (different s p.turn apart (sym new.1))
      ]) in
      let none = none-counted (λ (line : List ℕ). false) (lines_of g) (λ line c. refl) in
      let same = ap (λ (x : Position). length (live_lines g x s)) m.leads in
      omega (arith, split, none, same, live-length p s, live-length next s)

  -- there are then too many lines for pairs
  pub no-pairs : (breaker side : Side) (live lost : ℕ)
      → breaker ≡ breaker_of b.game.kind side
      → live ≡ length (live_lines b.game b.stand.position breaker)
      → (is_same_side breaker b.stand.position.turn ≡ true → lost ≡ degree b.game v)
      → length (free_points b.game b.stand.position) + 2 * lost ≤ 2 * live
      → pairs_exist b.game q side ≡ false
  no-pairs breaker side live lost is live_is lost_is many =
      false_from_ne_true (pairs_exist g q side) (λ exist.
      let few = few-lines g q side exist in
      let same = ap (λ (s : Side). length (live_lines g q s)) is in
      elim (cases_Bool (is_same_side breaker p.turn)) [
        | inl mine ↦
            omega (arith, few, same, live_is, lost_is mine, live-left breaker, many, move-free)
        | inr yours ↦ omega (arith, few, same, live_is, live-stay breaker yours, many, move-free)
      ])
