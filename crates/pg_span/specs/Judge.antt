-- What a judge of a connectivity game knows.
use Rattle.std.specs.Prelude.{◌≡◌, ℕ, Bool, true}
use Rattle.pg_span.specs.Prelude.{Graph, edge_count, first_end_of, second_end_of, IsMadeFor}
use Rattle.pg_span.specs.Prelude.{joins_all}
use Rattle.pg_span.specs.declared.game.SpanGame.{SpanGame}
use Rattle.pg_span.specs.declared.judge.SpanJudge.{SpanJudge}

-- whether the edges of the set join every two vertices
abbrev pub connects : Graph → (ℕ → Bool) → Bool
connects h set = joins_all (first_end_of h) (second_end_of h) (edge_count h) h.vertices set

-- the judge has room for the game's graph, and knows whether all its edges join every two vertices
pub record IsJudgeOf (judge : SpanJudge) (g : SpanGame) : Type 0 where
  pub made : IsMadeFor judge.joiner g.graph
  pub whole : judge.whole ≡ connects g.graph (λ _. true)
