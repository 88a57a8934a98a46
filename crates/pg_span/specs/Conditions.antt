-- Parts of the conditions on trees and on parts.
use Rattle.std.specs.Prelude.{◌≡◌, ◌<◌, ◌≤◌, ◌+◌, ◌*◌, ℕ, true, false}
use Rattle.pg_span.specs.Prelude.{FinSet, contains, nat_cmp, X, edge_count, is_free, Side, spare}
use Rattle.pg_span.specs.Game.{marks_at}
use Rattle.pg_span.specs.declared.game.SpanGame.{SpanGame}

-- the members are free edges of the game
abbrev pub AreFree : SpanGame → FinSet nat_cmp → Type 0
AreFree g set =
    (f : ℕ) → contains set f ≡ true → (f < edge_count g.graph) × (is_free (marks_at g X) f ≡ true)

-- disjoint sets of free edges
pub record AreFreePair (g : SpanGame) (a1 a2 : FinSet nat_cmp) : Type 0 where
  pub one : AreFree g a1
  pub two : AreFree g a2
  pub apart : (f : ℕ) → contains a1 f ≡ true → contains a2 f ≡ false

-- so few edges between so many parts are X's, and so few free, that X can't join the parts
abbrev pub AreFew : ℕ → ℕ → ℕ → Side → Type 0
AreFew taken free parts turn = (taken + 2 ≤ parts) × (free + 2 * taken + 4 ≤ 2 * parts + spare turn)
