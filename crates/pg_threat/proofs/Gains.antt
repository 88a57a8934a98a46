-- Where no line is left of which the side lacks two after an attack and its reply.
use Rattle.std.proofs.Common.{◌≡◌, ℕ, ◌+◌, ◌≤◌, Bool, true, false, not, ◌&&◌, ◌==◌, List, [], ◌∷◌}
use Rattle.std.proofs.Common.{length, refl, sym, ap, ◌∙◌, subst, inl, inr, arith, eqb-true, cond}
use Rattle.pg_threat.proofs.Common.{cases_Bool, and_parts, and_from, or_parts, not_from_false}
use Rattle.pg_threat.proofs.Common.{false≢true, eq-eqb, sum_by-cons, Contains, count_by, FinSet}
use Rattle.pg_threat.proofs.Common.{contains, insert, nat_cmp, in_insert, other, Side, Game}
use Rattle.pg_threat.proofs.Common.{Position, is_free, points_of, lines_of, is_touched, after}
use Rattle.pg_threat.proofs.Common.{is_on, IsAttack, IsAttacking, member-from_any, list_any-one}
use Rattle.pg_threat.proofs.Common.{other_other, free-of, points_of-mover, points_of-waiter}
use Rattle.pg_threat.proofs.Common.{turn-alternates, is_live_with, live_with, clear-any}
use Rattle.pg_threat.specs.Lacking.{is_gained, lacks, lacks_at, is_lacking, is_partner}
use Rattle.pg_threat.proofs.LineCounts.{count-insert, count-more, lacks-from, lacks-to}
use Rattle.pg_threat.proofs.LineCounts.{own-and_free, some-counted}

-- ---- lists

abbrev one_of : Bool → ℕ
one_of b = cond b 1 0

-- members that pass a test are counted by another test, too
count-split : {X : Type 0} (t s : X → Bool) (xs : List X)
    → count_by t xs ≡ count_by (λ x. t x && s x) xs + count_by (λ x. t x && not (s x)) xs
count-split t s [] = refl
count-split t s (x ∷ xs) =
    let rest = count-split t s xs in
    omega (
      arith,
      rest,
      by_cases (t x) (s x),
      sum_by-cons (λ y. one_of (t y)) x xs,
      sum_by-cons (λ y. one_of (t y && s y)) x xs,
      sum_by-cons (λ y. one_of (t y && not (s y))) x xs,
    )
  where
    by_cases : (a b : Bool) → one_of a ≡ one_of (a && b) + one_of (a && not b)
    by_cases true true = refl
    by_cases true false = refl
    by_cases false true = refl
    by_cases false false = refl

-- two members that pass, of which another test tells them apart
two-counted : {X : Type 0} (t s : X → Bool) (xs : List X) (x y : X)
    → Contains xs x
    → Contains xs y
    → t x ≡ true
    → t y ≡ true
    → s x ≡ true
    → s y ≡ false
    → 2 ≤ count_by t xs
two-counted t s xs x y at_x at_y on_x on_y on off =
    let first = some-counted (λ z. t z && s z) xs
    (list_any-one (λ z. t z && s z) xs x at_x (and_from _ _ on_x on)) in
    let second = some-counted (λ z. t z && not (s z)) xs
    (list_any-one (λ z. t z && not (s z)) xs y at_y (and_from _ _ on_y (not_from_false _ off))) in
    let split = count-split t s xs in
    omega (arith, first, second, split)

-- what isn't touched by a set with one point more isn't touched by the set, and misses the point
pub untouched-insert : (s : FinSet nat_cmp) (u : ℕ) (line : List ℕ)
    → is_touched (insert s u) line ≡ false
    → (is_touched s line ≡ false) × (is_on u line ≡ false)
untouched-insert s u [] h = (refl, refl)
untouched-insert s u (q ∷ line) h =
    let parts = or_parts (contains (insert s u) q) _ h in
    let here = or_parts (q == u) _ (sym (in_insert s u q) ∙ parts.0) in
    let rest = untouched-insert s u line parts.1 in
    (rw here.1 rest.0, rw here.0 rest.1)

-- ---- the lines that are left

module _ (g : Game) (p : Position) (side : Side) (single : g.bias ≡ 1)
    (attacking : IsAttacking g p side) (v u : ℕ) (at : IsAttack g p v) where
  turn-next : (after g p v).turn ≡ other side
  turn-next = turn-alternates g p v attacking.position single ∙ ap other attacking.turn

  pub mine-replied : points_of (after g (after g p v) u) side ≡ insert (points_of p side) v
  mine-replied =
      points_of-waiter g (after g p v) side u turn-next ∙ points_of-mover g p side v attacking.turn

  pub theirs-replied : points_of (after g (after g p v) u) (other side)
      ≡ insert (points_of p (other side)) u
  theirs-replied = points_of-mover g (after g p v) (other side) u turn-next
      ∙ ap (λ s. insert s u)
      (points_of-waiter g p (other side) v (attacking.turn ∙ sym (other_other side)))

  -- a line of which the side lacks two is one that the board counts
  counted : (line : List ℕ) → lacks p side 2 line ≡ true → is_live_with p (other side) 2 line ≡ true
  counted line h =
      let parts = lacks-from p side 2 line h in
      let free : count_by (is_free p) line ≡ 2 =
      omega (arith, parts.1, own-and_free p side line parts.0) in
      and_from _ _ (not_from_false _ parts.0) (eq-eqb _ _ free)

  -- where the attack's line is the only one of which the side lacks two, and those through it of
  -- which it lacks three hold the reply
  module _ (only : live_with g p (other side) 2 ≡ 1) (pair : is_partner g p side v u ≡ true)
      (held : (line : List ℕ) → Contains (lines_of g) line
      → is_on v line ≡ true
      → is_gained p side u line ≡ false) where
    none-left : (line : List ℕ)
        → Contains (lines_of g) line
        → lacks (after g (after g p v) u) side 2 line ≡ true
        → ⊥
    unfolding live_with is_partner
    none-left line listed h =
        let q = after g (after g p v) u in
        let s = points_of p side in
        let parts = lacks-from q side 2 line h in
        let clear = untouched-insert (points_of p (other side)) u line
        (subst (λ (xs : FinSet nat_cmp). is_touched xs line ≡ false) theirs-replied parts.0) in
        let count : count_by (contains (insert s v)) line + 2 ≡ length line =
        subst (λ (xs : FinSet nat_cmp). count_by (contains xs) line + 2 ≡ length line) mine-replied
        parts.1 in
        elim (cases_Bool (is_on v line)) [
          | inl on ↦
              let more = count-more g s v line listed (free-of p side v at.free) on in
              false≢true (sym (held line listed on)
              ∙ and_from _ _ (lacks-to p side 3 line clear.0 (omega (arith, more, count)))
              (not_from_false _ clear.1))
          | inr off ↦
              let zero : count_by (λ r. r == v) line ≡ 0 =
              eqb-true _ _ (clear-any (λ r. r == v) line ∙ not_from_false _ off) in
              let same = count-insert s v line (free-of p side v at.free) in
              let here =
              counted line (lacks-to p side 2 line clear.0 (omega (arith, same, zero, count))) in
              let found =
              member-from_any (λ other_line. is_on v other_line && lacks_at p side 2 u other_line)
              (lines_of g) (and_parts (not (u == v)) _ pair).1 in
              let there = and_parts (is_on v found.0) _ found.2 in
              let two = two-counted (is_live_with p (other side) 2) (is_on v)
              (lines_of g) found.0 line found.1 listed
              (counted found.0 (and_parts (lacks p side 2 found.0) _ there.1).0) here there.0 off in
              absurd (omega (arith, two, only))
        ]

    pub none-lacked : (w : ℕ) → is_lacking g (after g (after g p v) u) side 2 w ≡ false
    unfolding is_lacking
    none-lacked w = elim (cases_Bool (is_lacking g (after g (after g p v) u) side 2 w)) [
      | inl on ↦
          let found =
          member-from_any (lacks_at (after g (after g p v) u) side 2 w) (lines_of g) on in
          absurd
          (none-left found.0 found.1
          (and_parts (lacks (after g (after g p v) u) side 2 found.0) _ found.2).0)
      | inr off ↦ off
    ]
