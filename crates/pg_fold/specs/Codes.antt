-- Codes of positions, by which most of those that aren't known are told at once.
use Rattle.std.specs.Prelude.{◌≡◌, ℕ, zero, suc, ◌+◌, ◌*◌, ◌%◌, ◌^◌, ◌<◌, true, length, get_or}
use Rattle.std.specs.Prelude.{slice_get, Some}
use Rattle.pg_fold.specs.Prelude.{get, equal_positions, Position}
use Rattle.pg_base.specs.Words.{words_of}
use Rattle.pg_fold.specs.declared.known.Known.{Known}
use Rattle.pg_fold.specs.declared.known.TheConstants.{MIXER, ROWS}

-- the code with one word more
abbrev pub mixed : ℕ → ℕ → ℕ
mixed code word = (code * MIXER % 2 ^ 64 + word) % 2 ^ 64

-- the code by the first words of each side's points
abbrev pub code_by : ℕ → Position → ℕ
code_by zero p = 0
code_by (suc k) p =
    mixed (mixed (code_by k p) (get_or (words_of p.x) k 0)) (get_or (words_of p.y) k 0)

abbrev pub code_of : Position → ℕ
code_of p = code_by ROWS p

-- the place of a position's mark among so many
abbrev pub place_of : Position → ℕ → ℕ
place_of p count = code_of p % count

-- there is a mark for each known position
pub record IsKnown (known : Known) : Type 0 where
  pub some : 0 < length known.marks.items
  pub marked : (p : Position) (j : ℕ)
      → get equal_positions known.places p ≡ Some j
      → slice_get known.marks.items (place_of p (length known.marks.items)) ≡ Some true
