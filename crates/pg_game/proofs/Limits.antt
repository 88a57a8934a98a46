-- What every game keeps: how many points there are, and what its lines are.
use Rattle.std.proofs.Common.{ℕ, ◌^◌, ◌<◌, ◌≤◌, ◌==◌, List, length, refl, inl, inr, arith}
use Rattle.pg_game.proofs.Common.{cases_Bool, All-weaker, sum_by-le, All, sum_by, Kind}
use Rattle.pg_game.specs.declared.field.Field.{Field}
use Rattle.pg_game.specs.declared.field.Field.TheVariants.{Lines, Graph as OnGraph}
use Rattle.pg_game.specs.declared.game.Game.{Game}
use Rattle.pg_game.specs.Field.{field_points, field_lines}
use Rattle.pg_game.specs.Fit.{IsLineOf, FieldFits, longest}
use Rattle.pg_game.specs.Game.{point_count, lines_of}

longest-le : (bias : ℕ) → longest bias ≤ 100
longest-le bias = elim (cases_Bool (bias == 1)) [
  | inl one ↦ rw one (omega arith)
  | inr not_one ↦ rw not_one (omega arith)
]

-- lines that fit have few points together
pub few_summed : (points bias : ℕ) (lines : List (List ℕ))
    → length lines ≤ 20000
    → All (IsLineOf points bias) lines
    → sum_by length lines < 2 ^ 64
few_summed points bias lines few all =
    let each = All-weaker (IsLineOf points bias) (λ line. length line ≤ 100)
    (λ line is. omega (arith, is.short, longest-le bias)) lines all in
    omega (arith, sum_by-le length 100 lines each)

-- a field within the limits has few points
pub few_points : (kind : Kind) (field : Field) (bias : ℕ)
    → FieldFits kind field bias
    → field_points field ≤ 1000
few_points kind (Lines f) bias fits = omega (arith, (fits.on_lines f refl).few_points)
few_points kind (OnGraph h) bias fits = (fits.on_graph h refl).few_edges

-- a game has at most a thousand points
pub point_count-le : (g : Game) → point_count g ≤ 1000
point_count-le g = few_points g.kind g.field g.bias g.fits.within

field_lines-fit : (kind : Kind) (field : Field) (bias : ℕ)
    → FieldFits kind field bias
    → All (IsLineOf (field_points field) bias) (field_lines field)
field_lines-fit kind (Lines f) bias fits = (fits.on_lines f refl).lines
field_lines-fit kind (OnGraph h) bias fits = λ k d h. absurd (omega arith)

-- the lines of a game are ascending points of it, at least one and not too many
pub lines-fit : (g : Game) → All (IsLineOf (point_count g) g.bias) (lines_of g)
lines-fit g = field_lines-fit g.kind g.field g.bias g.fits.within

-- the points of lines are points of the game
pub lines-range : (g : Game) → All (All (λ v. v < point_count g)) (lines_of g)
lines-range g = All-weaker (IsLineOf (point_count g) g.bias) (All (λ v. v < point_count g))
    (λ line is. is.range) (lines_of g) (lines-fit g)
