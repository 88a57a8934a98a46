-- What a switching game looks at, said by walks.
use Rattle.std.specs.Prelude.{◌≡◌, ℕ, Bool, true, false, not, length}
use Rattle.pg_game.specs.Prelude.{contains, below, Switching, XWins, YWins, IsJoined, first_end}
use Rattle.pg_game.specs.Prelude.{second_end, Graph}
use Rattle.pg_game.specs.declared.game.Game.{Game}
use Rattle.pg_game.specs.declared.position.Position.{Position}
use Rattle.pg_game.specs.Game.{is_over, outcome}

-- a walk of edges of the graph, each one of the set, leads from one terminal to the other
abbrev pub AreConnected : Graph → (ℕ → Bool) → Type 0
AreConnected h set =
    IsJoined (first_end h.ends) (second_end h.ends) (below set (length h.ends)) h.s h.t

-- a walk of X's edges leads from one terminal to the other
abbrev pub HasJoined : Graph → Position → Type 0
HasJoined h p = AreConnected h (contains p.x)

-- a walk of edges that aren't Y's leads from one terminal to the other
abbrev pub CanJoin : Graph → Position → Type 0
CanJoin h p = AreConnected h (λ e. not (contains p.y e))

-- a game on the graph is a switching game; X has won where a walk of its edges joins the terminals,
-- Y where none of those that aren't its own does, and else the game isn't over
pub record IsJoiningGame (g : Game) (h : Graph) : Type 0 where
  pub kind : g.kind ≡ Switching
  pub x_wins : (p : Position) → HasJoined h p → (is_over g p ≡ true) × (outcome g p ≡ XWins)
  pub y_wins : (p : Position)
      → (CanJoin h p → ⊥)
      → (HasJoined h p → ⊥)
      → (is_over g p ≡ true) × (outcome g p ≡ YWins)
  pub goes_on : (p : Position) → (HasJoined h p → ⊥) → CanJoin h p → is_over g p ≡ false
