-- How many numbers and how many free points pass a test, counted one after the other.
use Rattle.std.proofs.Common.{◌≡◌, ℕ, zero, suc, ◌+◌, Bool, true, false, ◌&&◌, if◌then◌else◌}
use Rattle.std.proofs.Common.{length, refl, sym, ap, ◌∙◌, inl, inr, arith}
use Rattle.pg_game.proofs.Common.{cases_Bool, filter, range_with_len}
use Rattle.pg_game.specs.declared.game.Game.{Game}
use Rattle.pg_game.specs.declared.position.Position.{Position}
use Rattle.pg_game.specs.Position.{is_free}
use Rattle.pg_game.specs.Game.{point_count, free_points}
use Rattle.pg_game.proofs.Members.{filter_both}

-- how many numbers below n pass
unfoldable pub passed : (ℕ → Bool) → ℕ → ℕ
passed t n = length (filter t (range_with_len 0 n))

range-next : (t : ℕ → Bool) (a n : ℕ)
    → length (filter t (range_with_len a (n + 1)))
    ≡ length (filter t (range_with_len a n)) + (if t (a + n) then 1 else 0)
range-next t a zero =
    let at : a + 0 ≡ a = omega arith in
    elim (cases_Bool (t a)) [ inl on ↦ rw (at, on) refl | inr off ↦ rw (at, off) refl ]
range-next t a (suc n) =
    let at : (a + 1) + n ≡ a + suc n = omega arith in
    let rest = range-next t (a + 1) n in
    let one : ℕ → ℕ = λ m. if t m then 1 else 0 in
    let same = ap one at in
    let step : suc n + 1 ≡ suc (n + 1) = omega arith in
    ap (λ m. length (filter t (range_with_len a m))) step
    ∙ elim (cases_Bool (t a)) [
      | inl on ↦ rw on (omega (arith, rest, same))
      | inr off ↦ rw off (omega (arith, rest, same))
    ]

passed-next : (t : ℕ → Bool) (n : ℕ) → passed t (n + 1) ≡ passed t n + (if t n then 1 else 0)
unfolding passed
passed-next t n =
    let at : 0 + n ≡ n = omega arith in
    let one : ℕ → ℕ = λ m. if t m then 1 else 0 in
    let same = ap one at in
    omega (arith, range-next t 0 n, same)

pub passed-none : (t : ℕ → Bool) → passed t 0 ≡ 0
unfolding passed
passed-none t = refl

-- the count with one number more, which passes or doesn't
pub passed-more : (t : ℕ → Bool) (v old now : ℕ)
    → old ≡ passed t v
    → t v ≡ true
    → now ≡ old + 1
    → now ≡ passed t (v + 1)
passed-more t v old now is on next =
    let one = ap {B = ℕ} (λ (b : Bool). if b then 1 else 0) on in
    omega (arith, passed-next t v, is, one, next)

pub passed-same : (t : ℕ → Bool) (v old now : ℕ)
    → old ≡ passed t v
    → t v ≡ false
    → now ≡ old
    → now ≡ passed t (v + 1)
passed-same t v old now is off next =
    let none = ap {B = ℕ} (λ (b : Bool). if b then 1 else 0) off in
    omega (arith, passed-next t v, is, none, next)

-- the count over all points of a game
pub passed-all : (g : Game) (p : Position) (n : ℕ)
    → n ≡ point_count g
    → passed (is_free p) n ≡ length (free_points g p)
unfolding passed free_points
passed-all g p n is = ap (λ m. length (filter (is_free p) (range_with_len 0 m))) is

pub passed-both : (g : Game) (p : Position) (t : ℕ → Bool) (n : ℕ)
    → n ≡ point_count g
    → passed (λ v. is_free p v && t v) n ≡ length (filter t (free_points g p))
unfolding passed free_points
passed-both g p t n is = ap (λ m. length (filter (λ v. is_free p v && t v) (range_with_len 0 m))) is
    ∙ ap length (sym (filter_both t (is_free p) (range_with_len 0 (point_count g))))
