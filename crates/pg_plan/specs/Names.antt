-- The names of the files in a plan's folder.
use Rattle.std.specs.Prelude.{ℕ, ◌/◌, ◌%◌, ◌∷◌, ◌++◌}
use Rattle.pg_plan.specs.Prelude.{Bytes, decimal}

-- a name in a folder
abbrev pub name_in : Bytes → Bytes → Bytes
name_in folder name = folder ++ 47 ∷ name

-- the last five digits of a number
abbrev pub five_digits : ℕ → Bytes
five_digits n = decimal (n / 10000 % 10) ++ (decimal (n / 1000 % 10) ++ (decimal (n / 100 % 10)
    ++ (decimal (n / 10 % 10) ++ decimal (n % 10))))

-- the name of a numbered file with this ending
abbrev pub numbered_name : Bytes → ℕ → Bytes → Bytes
numbered_name folder n ending = name_in folder (five_digits n ++ ending)
