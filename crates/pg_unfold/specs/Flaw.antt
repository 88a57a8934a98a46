-- The numbers of the flaws of nodes.
use Rattle.std.specs.Prelude.{ℕ}
use Rattle.pg_unfold.specs.declared.flaw.Flaw.{Flaw}
use Rattle.pg_unfold.specs.declared.flaw.Flaw.TheVariants.{Child, Map, Marks}

-- the number of a flaw's code
abbrev pub flaw_number : Flaw → ℕ
flaw_number Child = 1
flaw_number Map = 2
flaw_number Marks = 3
