-- Calls that are to fail.
use Rattle.std.specs.Prelude.{◌≡◌, ◌+◌, ◌-◌, ◌^◌, min, Result, IsErr, OnErr}
use Rattle.std.specs.List.{Contains}
use Rattle.pg_io.specs.declared.failing.Failing.{Failing}

-- the next call is one of those listed
abbrev pub FailsNext : Failing → Type 0
FailsNext failing = Contains failing.numbers.items failing.made

-- one call more was made, up to the last value of a counter of 64 bits; the list stays
abbrev pub CountsOne : Failing → Failing → Type 0
CountsOne before now =
    (now.numbers.items ≡ before.numbers.items) × (now.made ≡ min (before.made + 1) (2 ^ 64 - 1))

-- a listed call fails, and each call counts
pub record FailsAsListed {T E : Type 0} (before now : Failing) (result : Result T E) : Type 0 where
  pub listed : FailsNext before → IsErr result
  pub counted : CountsOne before now

-- a listed call fails, and no other; each call counts
pub record FailsJustAsListed {T E : Type 0} (before now : Failing)
    (result : Result T E) : Type 0 where
  pub listed : FailsNext before → IsErr result
  pub unlisted : OnErr result (FailsNext before)
  pub counted : CountsOne before now
