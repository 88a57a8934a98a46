use Rattle.std.proofs.Common.{◌≡◌, ℕ, ◌<◌, ◌≤◌, false}
use Rattle.pg_characters.specs.Bridges.{is_bridge}
use Rattle.pg_characters.proofs.bridges.paper_rows.Given as goal

-- no board so far is the graph
abbrev pub invariant-loop-rows : goal.invariant-loop-rows
invariant-loop-rows l =
    (k : ℕ) → 1 ≤ k → k < l.rows → is_bridge l.graph k ≡ false
