-- Budgets: how much a finder may use.
use Rattle.std.specs.Prelude.{ℕ, ◌≤◌, ◌&&◌, nat_le, if◌then◌else◌, Option, Some, None}
use Rattle.std.specs.Prelude.{option_and_then, option_map}
use Rattle.pg_settle.specs.Prelude.{MAX_NODES}
use Rattle.pg_settle.specs.declared.budget.Budget.{Budget}
use Rattle.pg_settle.specs.declared.budget.TheConstants.{DEFAULT_ENTRIES, DEFAULT_EXPANDED}
use Rattle.pg_settle.specs.declared.budget.TheConstants.{MAX_ENTRIES, MAX_EXPANDED, MIN_BUDGET}

-- a number of a budget that is at most this
abbrev pub IsPart : ℕ → ℕ → Type 0
IsPart most n = (MIN_BUDGET ≤ n) × (n ≤ most)

-- each number is in its range
pub record IsBudget (budget : Budget) : Type 0 where
  pub positions : IsPart MAX_EXPANDED budget.positions
  pub entries : IsPart MAX_ENTRIES budget.entries
  pub nodes : IsPart MAX_NODES budget.nodes

-- the number that is asked for, where it is in its range, and the usual one where none is
abbrev pub part_for : ℕ → ℕ → Option ℕ → Option ℕ
part_for usual most None = Some usual
part_for usual most (Some n) = if nat_le MIN_BUDGET n && nat_le n most then Some n else None

abbrev pub budget_of : ℕ → ℕ → ℕ → Budget
budget_of positions entries nodes =
    record { positions = positions; entries = entries; nodes = nodes }

-- the budget of the numbers that are asked for, where each is in its range
abbrev pub budget_for : Option ℕ → Option ℕ → Option ℕ → Option Budget
budget_for positions entries nodes =
    option_and_then (λ p. option_and_then (λ e. option_map (λ n. budget_of p e n)
    (part_for MAX_NODES MAX_NODES nodes)) (part_for DEFAULT_ENTRIES MAX_ENTRIES entries))
    (part_for DEFAULT_EXPANDED MAX_EXPANDED positions)
