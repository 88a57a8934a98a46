-- What joining may bring.
use Rattle.std.specs.Prelude.{◌≡◌, ◌≤◌, ℕ, ⊤}
use Rattle.pg_cert.specs.Limits.{node_count}
use Rattle.pg_settle.specs.declared.budget.Budget.{Budget}
use Rattle.pg_settle.specs.declared.finding.Finding.{Finding}
use Rattle.pg_settle.specs.declared.finding.Finding.TheVariants.{Certificate, Open}
use Rattle.pg_settle.specs.declared.finding.Outcome.{Outcome}

-- a certificate that was found has at most so many nodes
abbrev pub HasFewNodes : ℕ → Finding → Type 0
HasFewNodes most (Certificate score c) = node_count c.claims ≤ most
HasFewNodes most Open = ⊤

-- no position was expanded, and a certificate has no more nodes than the budget allows
pub record IsJoined (budget : Budget) (outcome : Outcome) : Type 0 where
  pub expanded : outcome.expanded ≡ 0
  pub few : HasFewNodes budget.nodes outcome.finding
