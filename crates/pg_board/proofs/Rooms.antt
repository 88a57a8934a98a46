-- The room for a whole game.
use Rattle.std.proofs.Common.{◌≡◌, ℕ, ◌+◌, ◌≤◌, true, length, refl, arith, add-one, ap}
use Rattle.pg_board.proofs.Common.{length-filter, range_with_len, is_on}
use Rattle.pg_board.specs.Shape.{Shape, degree_in, lines_through, lines_holding, line_in}
use Rattle.pg_board.specs.Fits.{summed, entries_of}
use Rattle.pg_board.specs.Opening.{whole_room}
use Rattle.pg_board.proofs.Ranges.{count-few}

pub summed-none : (f : ℕ → ℕ) → summed f (λ _. true) 0 ≡ 0
unfolding summed
summed-none f = refl

pub summed-next : (f : ℕ → ℕ) (n : ℕ) → summed f (λ _. true) (n + 1) ≡ summed f (λ _. true) n + f n
unfolding summed
summed-next f n = rw add-one refl

pub degree-few : (s : Shape) (v : ℕ) → degree_in s v ≤ length s.lines
unfolding lines_through lines_holding
degree-few s v =
    let few = count-few (λ i. is_on v (line_in s i)) 0 (length s.lines) in
    omega (arith, length-filter (λ i. is_on v (line_in s i)) (range_with_len 0 (length s.lines)))

pub whole-is : (s : Shape) (n : ℕ)
    → n ≡ s.points
    → summed (entries_of s) (λ _. true) n + n + 1 ≡ whole_room s
unfolding whole_room
whole-is s n is = ap (λ m. summed (entries_of s) (λ _. true) m + m + 1) is
