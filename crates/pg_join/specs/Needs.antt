-- What is printed of the positions that are needed.
use Rattle.std.specs.Prelude.{ℕ, ◌/◌, ◌%◌, List, ◌++◌, codes, decimal, length}
use Rattle.std.specs.List.{flat_map}
use Rattle.pg_backing.specs.declared.report.Lack.{Lack}
use Rattle.pg_backing.specs.declared.report.Lack.TheVariants.{Faulty, Foreign, Missing, Open}
use Rattle.pg_backing.specs.declared.report.Need.{Need}
use Rattle.pg_text.specs.Text.{Bytes}

-- why a certificate doesn't count
abbrev pub lack_word : Lack → Bytes
lack_word Missing = codes "missing"
lack_word Faulty = codes "faulty"
lack_word Foreign = codes "foreign"
lack_word Open = codes "open"

-- the last five digits of a number, and then these bytes
abbrev pub digits_then : ℕ → Bytes → Bytes
digits_then n rest = decimal (n / 10000 % 10) ++ (decimal (n / 1000 % 10)
    ++ (decimal (n / 100 % 10) ++ (decimal (n / 10 % 10) ++ (decimal (n % 10) ++ rest))))

-- the line of a position: the name of its game file, and why its certificate doesn't count
abbrev pub need_line : Need → Bytes
need_line need =
    digits_then need.file (codes ".game " ++ (lack_word need.lack ++ codes "\n"))

abbrev pub need_lines : List Need → Bytes
need_lines needs = flat_map need_line needs

-- THE TEXT: how many positions are needed, and the line of each
abbrev pub needs_text : List Need → Bytes
needs_text needs =
    (codes "needed " ++ (decimal (length needs) ++ codes " positions\n")) ++ need_lines needs
