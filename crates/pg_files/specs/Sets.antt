-- Lists of numbers and the sets of their members.
use Rattle.std.specs.Prelude.{ℕ, Bool, false, ◌||◌, List, [], ◌∷◌}
use Rattle.pg_files.specs.Prelude.{FinSet, contains, insert, from_list, nat_cmp, members}

-- the set of the numbers of a list
abbrev pub set_of : List ℕ → FinSet nat_cmp
set_of ns = from_list {R = nat_cmp} ns

-- the numbers of a list in ascending order, each once
abbrev pub ascending : List ℕ → List ℕ
ascending ns = members (set_of ns)

-- whether a number of the list is in the set, or stands twice in the list
abbrev pub repeats : FinSet nat_cmp → List ℕ → Bool
repeats s [] = false
repeats s (n ∷ ns) = contains s n || repeats (insert s n) ns
