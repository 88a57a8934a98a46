-- Legal plays that go on, and turns that pass.
use Rattle.std.proofs.Common.{◌≡◌, ◌∙◌, ℕ, ◌≤◌, false, sym}
use Rattle.std.proofs.Common.{ap, subst, inl, inr, arith}
use Rattle.pg_player.proofs.Common.{cases_Bool, false≢true, other, Kind, Side, Game, Position}
use Rattle.pg_player.proofs.Common.{is_over, is_full, after, start}
use Rattle.pg_player.proofs.Common.{IsPosition, side≢other, turn-alternates}
use Rattle.pg_player.proofs.Common.{IsPosition-start, IsPosition-played}
use Rattle.pg_game.specs.Fit.{greatest_bias}
use Rattle.pg_game.proofs.Strategy.{over-where_full}
use Rattle.pg_player.specs.InPlay.{IsReached}

-- a position that is reached is one of the game
pub IsPosition-reached : (g : Game) (p : Position) → IsReached g p → IsPosition g p
IsPosition-reached g p h = subst (λ (q : Position). IsPosition g q) h.leads
    (IsPosition-played g (start g) h.moves (IsPosition-start g) h.legal)

-- in Maker-Maker and in switching Y claims one point a turn
pub single : (g : Game) (kind : Kind) → g.kind ≡ kind → greatest_bias kind ≡ 1 → g.bias ≡ 1
single g kind e greatest =
    let few : g.bias ≤ greatest_bias kind =
    subst (λ (k : Kind). g.bias ≤ greatest_bias k) e g.fits.few_bias in
    omega (arith, few, greatest, g.fits.some_bias)

-- where each side claims one point a turn, the side that moved isn't to move
pub not-again : (g : Game) (p : Position) (side : Side) (v : ℕ)
    → g.bias ≡ 1
    → IsPosition g p
    → p.turn ≡ side
    → (after g p v).turn ≡ side
    → ⊥
not-again g p side v one position turn again =
    side≢other side (sym again ∙ turn-alternates g p v position one ∙ ap other turn)

-- a game that goes on has a free point
pub not-full : (g : Game) (p : Position) → is_over g p ≡ false → is_full g p ≡ false
not-full g p going = elim (cases_Bool (is_full g p)) [
  | inl full ↦ absurd (false≢true (sym going ∙ over-where_full g p full))
  | inr some ↦ some
]
