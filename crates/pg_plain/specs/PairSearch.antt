-- A private pair for a line, point by point, where the other lines have pairs too.
use Rattle.std.specs.Prelude.{ℕ, Bool, not, ◌&&◌, nat_lt, List, filter}
use Rattle.pg_plain.specs.Prelude.{list_any, FinSet, nat_cmp, minus, is_touched, has_private_pairs}

-- the lines without a point of the set
abbrev pub untouched : FinSet nat_cmp → List (List ℕ) → List (List ℕ)
untouched own lines = filter (λ line. not (is_touched own line)) lines

-- whether each line without a point of the one set can have two of the test's points of its own
abbrev pub have_pairs : FinSet nat_cmp → List (List ℕ) → (ℕ → Bool) → Bool
have_pairs own lines free = has_private_pairs (untouched own lines) free

-- whether a and the greater point b can be a line's pair, so that the other lines have pairs of
-- what is left
abbrev pub is_pair : FinSet nat_cmp → List (List ℕ) → (ℕ → Bool) → ℕ → ℕ → Bool
is_pair own others free a b = nat_lt a b && have_pairs own others (minus (minus free a) b)

-- whether a can be the lesser point of the pair of a line
abbrev pub is_lesser : FinSet nat_cmp → List (List ℕ) → (ℕ → Bool) → List ℕ → ℕ → Bool
is_lesser own others free line a = list_any (is_pair own others free a) (filter free line)
