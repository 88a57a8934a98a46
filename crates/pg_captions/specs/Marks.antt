-- Which marks of sides, and which of two sets, are seen, and how they look.
use Rattle.std.specs.Prelude.{ℕ, Bool, true, false, ◌||◌, List, [], ◌∷◌, ◌++◌, codes}
use Rattle.std.specs.FinSet.{difference}
use Rattle.pg_captions.specs.Prelude.{FinSet, contains, list_any, nat_cmp, range_with_len, Position}
use Rattle.pg_captions.specs.Prelude.{Side}
use Rattle.pg_base.specs.declared.side.Side.TheVariants.{X, Y}
use Rattle.pg_captions.specs.declared.marks.Seen.{Seen}

-- the line, if the test holds
abbrev pub said_if : Bool → List ℕ → List (List ℕ)
said_if true line = line ∷ []
said_if false line = []

-- whether a point below n is in the set
abbrev pub has_below : FinSet nat_cmp → ℕ → Bool
has_below s n = list_any (contains s) (range_with_len 0 n)

-- ---- marks

-- whether points below n of a side are seen; a point that both sides have is X's
abbrev pub are_marked : Position → ℕ → Side → Bool
are_marked p n X = has_below p.x n
are_marked p n Y = has_below (difference p.y p.x) n

-- how the points of the two sides look, in these words for X and for Y, if they are seen
abbrev pub marks_by : List ℕ → List ℕ → Bool → Bool → List (List ℕ)
marks_by x y true true = (x ++ (codes "; " ++ y)) ∷ []
marks_by x y true false = x ∷ []
marks_by x y false true = y ∷ []
marks_by x y false false = []

abbrev pub marks_lines : List ℕ → List ℕ → Position → ℕ → List (List ℕ)
marks_lines x y p n = marks_by x y (are_marked p n X) (are_marked p n Y)

-- ---- sets

-- what is seen of two sets of edges or vectors, whose numbers are below n: whether the first has a
-- further member, and whether each has others
abbrev pub seen_sets : Bool → ℕ → FinSet nat_cmp → FinSet nat_cmp → Seen
seen_sets further n first second = record {
  further = further;
  first = has_below first n;
  second = has_below second n;
}

-- how the sets look, in these words for the first and the second, if they are seen
abbrev pub seen_lines : Seen → List ℕ → List ℕ → List (List ℕ)
seen_lines seen first second =
    said_if (seen.further || seen.first) first ++ said_if seen.second second
