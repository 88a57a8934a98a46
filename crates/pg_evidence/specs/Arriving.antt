-- A certificate that comes piece by piece and is gathered, while it isn't known yet in which form.
use Rattle.std.specs.Prelude.{◌++◌}
use Rattle.pg_evidence.specs.Prelude.{Bytes, HasGathered}
use Rattle.pg_evidence.specs.Incoming.{IsKept}
use Rattle.pg_evidence.specs.declared.arriving.Arriving.{Arriving}

-- this text came, and was gathered whole
pub record HasArrived (a : Arriving) (text : Bytes) : Type 0 where
  pub gathered : HasGathered a.gathering text
  pub kept : IsKept a.kept text text

-- some text came
pub record IsArriving (a : Arriving) : Type 0 where
  pub text : Bytes
  pub arrived : HasArrived a text

-- from the first state to the second, these bytes came
abbrev pub Arrives : Arriving → Arriving → Bytes → Type 0
Arrives first now bytes = (text : Bytes) → HasArrived first text → HasArrived now (text ++ bytes)
