-- What is told of a position from the moves to its free points, from one point on.
use Rattle.std.proofs.Common.{◌≡◌, ℕ, suc, ◌+◌, ◌-◌, ◌<◌, true, false, List, ◌∷◌, [], map, refl, ap}
use Rattle.std.proofs.Common.{◌∙◌, arith}
use Rattle.pg_plain.proofs.Common.{filter, range_with_len, Game, Position, point_count, free_points}
use Rattle.pg_plain.proofs.Common.{is_free}

-- what a list of answers tells, and each move's answer
module _ {A : Type 0} (g : Game) (p : Position) (of : List A → A) (answer : ℕ → A) where
  -- what the moves to the free points among so many from a on tell
  told_among : ℕ → ℕ → A
  told_among a k = of (map answer (filter (is_free p) (range_with_len a k)))

  -- the same of all points from a on
  pub told_from : ℕ → A
  told_from a = told_among a (point_count g - a)

  from-next : (a : ℕ)
      → a < point_count g
      → told_from a ≡ told_among a (suc (point_count g - (a + 1)))
  unfolding told_from
  from-next a within =
      let one : point_count g - a ≡ suc (point_count g - (a + 1)) = omega arith in
      ap (told_among a) one

  -- no point is left
  pub from-none : told_from (point_count g) ≡ of []
  unfolding told_from told_among
  from-none =
      let none : point_count g - point_count g ≡ 0 = omega arith in
      ap (told_among (point_count g)) none

  -- a free point more, where one answer more is joined
  pub from-free : (join : A → A → A)
      → ((one : A) (answers : List A) → of (one ∷ answers) ≡ join one (of answers))
      → (a : ℕ) → a < point_count g
      → is_free p a ≡ true
      → told_from a ≡ join (answer a) (told_from (a + 1))
  unfolding told_from told_among
  from-free join more a within free = from-next a within ∙ rw free (more (answer a) _)

  -- a point more that isn't free
  pub from-taken : (a : ℕ)
      → a < point_count g
      → is_free p a ≡ false
      → told_from a ≡ told_from (a + 1)
  unfolding told_from told_among
  from-taken a within taken = from-next a within ∙ rw taken refl

  -- all points
  pub from-all : told_from 0 ≡ of (map answer (free_points g p))
  unfolding told_from told_among free_points
  from-all = let whole : point_count g - 0 ≡ point_count g = omega arith in ap (told_among 0) whole
