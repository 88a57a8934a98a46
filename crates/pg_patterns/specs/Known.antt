-- What a search knows: patterns by their numbers, and what is kept of positions.
use Rattle.std.specs.Prelude.{◌≡◌, ℕ, ◌+◌, Bool, List, [], ◌∷◌, ◌++◌, length, Option, None, Some}
use Rattle.std.specs.Prelude.{option_map, slice_get, vec_len}
use Rattle.std.specs.HashMap.{HashMap, get, hash_map_len}
use Rattle.std.specs.declared.hash.BuildHasherDefault.{BuildHasherDefault}
use Rattle.std.specs.declared.hash.FoldHasher.{FoldHasher}
use Rattle.pg_base.specs.declared.side.Side.{Side}
use Rattle.pg_patterns.specs.contracts.spot.SpotPartialEq.TheImpl.{ghosts}
use Rattle.pg_patterns.specs.declared.known.Entry.{Entry}
use Rattle.pg_patterns.specs.declared.known.Entry.TheVariants as entries
use Rattle.pg_patterns.specs.declared.known.Glimpse.{Glimpse}
use Rattle.pg_patterns.specs.declared.known.Glimpse.TheVariants as glimpses
use Rattle.pg_patterns.specs.declared.known.Known.{Known}
use Rattle.pg_limits.specs.declared.limits.Limits.{Limits}
use Rattle.pg_patterns.specs.declared.pattern.Pattern.{Pattern}
use Rattle.pg_patterns.specs.declared.spot.Spot.{Spot}

-- what the search may use
abbrev pub limits_of : Known → Limits
limits_of known = known.limits

-- how many positions are expanded
abbrev pub expanded_of : Known → ℕ
expanded_of known = known.expanded

-- the patterns, in the order of their numbers
abbrev pub patterns_of : Known → List Pattern
patterns_of known = known.patterns.items

-- the positions, with what is kept of each
abbrev pub positions_of : Known → HashMap Spot Entry (BuildHasherDefault FoldHasher)
positions_of known = known.positions

-- how many patterns and positions are kept
abbrev pub entries_of : Known → ℕ
entries_of known = vec_len known.patterns + hash_map_len known.positions

-- who claims the pattern of a number
abbrev pub claimer_at : Known → ℕ → Option Side
claimer_at known number =
    option_map (λ (pattern : Pattern). pattern.claimer) (slice_get (patterns_of known) number)

-- whether two positions are one, as `==` says
abbrev pub is_same_spot : Spot → Spot → Bool
is_same_spot = ghosts.eq

-- what is kept of a position
abbrev pub entry_at : Known → Spot → Option Entry
entry_at known spot = get is_same_spot (positions_of known) spot

-- a summary of what is kept of a position
abbrev pub summary_of : Option Entry → Glimpse
summary_of (Some (entries.Decided number)) = glimpses.Decided number
summary_of (Some (entries.Undecided going)) = glimpses.Undecided going.numbers
summary_of None = glimpses.Unmet

-- a pattern that is kept has the next number; without a number the patterns stay
abbrev pub IsAdded : Pattern → List Pattern → List Pattern → Option ℕ → Type 0
IsAdded pattern old new (Some number) = (number ≡ length old) × (new ≡ old ++ pattern ∷ [])
IsAdded pattern old new None = new ≡ old
