use Rattle.std.proofs.Common.{ℕ, ◌<◌, ◌∷◌, []}
use Rattle.pg_scene.specs.Limits.{IsBridge}
use Rattle.pg_scene.proofs.bridge.bridge_rows.Given as goal

abbrev pub invariant-loop-rows : goal.invariant-loop-rows
invariant-loop-rows l =
    (r : ℕ) → r < l.rows → IsBridge l.graph.vertices l.graph.ends (l.graph.s ∷ l.graph.t ∷ []) r → ⊥
