-- A side that lets the other fill no line has reached its goal where the game is over.
use Rattle.std.proofs.Common.{◌≡◌, ◌≤◌, Bool, true, false, refl, ap₂, ◌∙◌, subst, arith}
use Rattle.pg_game.proofs.Common.{Win, Kind, MakerBreaker, MakerMaker, AvoiderEnforcer, Side, X, Y}
use Rattle.pg_game.proofs.Common.{other}
use Rattle.pg_base.specs.declared.goal.Goal.TheVariants.{Draw as AtLeastDraw}
use Rattle.pg_game.specs.declared.game.Game.{Game}
use Rattle.pg_game.specs.declared.position.Position.{Position}
use Rattle.pg_game.specs.Fit.{greatest_bias}
use Rattle.pg_game.specs.Game.{bias_of, has_filled, outcome, outcome_by, short_joins}
use Rattle.pg_game.specs.Value.{reaches}

pub unfilled-breaker : (g : Game) (p : Position)
    → g.kind ≡ MakerBreaker
    → has_filled g p X ≡ false
    → reaches Y Win (outcome g p) ≡ true
unfolding outcome
unfilled-breaker g p kind none = ap₂ (λ (k : Kind) (x : Bool).
    reaches Y Win (outcome_by k x (has_filled g p Y) (short_joins g p))) kind none

pub unfilled-avoider : (g : Game) (p : Position)
    → g.kind ≡ AvoiderEnforcer
    → has_filled g p X ≡ false
    → reaches X Win (outcome g p) ≡ true
unfolding outcome
unfilled-avoider g p kind none = ap₂ (λ (k : Kind) (x : Bool).
    reaches X Win (outcome_by k x (has_filled g p Y) (short_joins g p))) kind none

drawn-x : (x joined : Bool) → reaches X AtLeastDraw (outcome_by MakerMaker x false joined) ≡ true
drawn-x true joined = refl
drawn-x false joined = refl

drawn-y : (y joined : Bool) → reaches Y AtLeastDraw (outcome_by MakerMaker false y joined) ≡ true
drawn-y true joined = refl
drawn-y false joined = refl

pub unfilled-draw : (g : Game) (side : Side) (p : Position)
    → g.kind ≡ MakerMaker
    → has_filled g p (other side) ≡ false
    → reaches side AtLeastDraw (outcome g p) ≡ true
unfolding outcome
unfilled-draw g X p kind none = ap₂ (λ (k : Kind) (y : Bool).
    reaches X AtLeastDraw (outcome_by k (has_filled g p X) y (short_joins g p))) kind none
    ∙ drawn-x (has_filled g p X) (short_joins g p)
unfilled-draw g Y p kind none = ap₂ (λ (k : Kind) (x : Bool).
    reaches Y AtLeastDraw (outcome_by k x (has_filled g p Y) (short_joins g p))) kind none
    ∙ drawn-y (has_filled g p Y) (short_joins g p)

-- ---- each side claims one point a turn in Maker-Maker

pub maker_bias : (g : Game) → g.kind ≡ MakerMaker → g.bias ≡ 1
maker_bias g kind =
    let few : g.bias ≤ 1 = subst (λ (k : Kind). g.bias ≤ greatest_bias k) kind g.fits.few_bias in
    omega (arith, few, g.fits.some_bias)

pub claims_one : (g : Game) (side : Side) → g.bias ≡ 1 → bias_of g side ≡ 1
claims_one g X one = refl
claims_one g Y one = one
