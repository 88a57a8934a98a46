-- Of two truths just one.
use Rattle.std.specs.Prelude.{Bool, true, false, not}

abbrev pub xor : Bool → Bool → Bool
xor true b = not b
xor false b = b
