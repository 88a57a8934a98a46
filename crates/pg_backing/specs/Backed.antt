-- What is known of the values of a plan's positions, by what is known of each by itself and by
-- those of lower numbers.
use Rattle.std.specs.Prelude.{◌≡◌, ℕ, ◌==◌, ◌&&◌, Bool, true, false, if◌then◌else◌, List, []}
use Rattle.std.specs.Prelude.{◌∷◌}
use Rattle.std.specs.Prelude.{length, get_or, slice_get, take, Option, Some, None}
use Rattle.std.specs.List.{list_all, list_any}
use Rattle.pg_base.specs.declared.score.Score.TheVariants.{XWins, YWins}
use Rattle.pg_base.specs.declared.side.Side.{Side}
use Rattle.pg_base.specs.declared.side.Side.TheVariants.{X, Y}
use Rattle.pg_game.specs.Game.{free_points}
use Rattle.pg_game.specs.declared.game.Game.{Game}
use Rattle.pg_game.specs.declared.position.Position.{Position}
use Rattle.pg_plan.specs.declared.place.Place.{Place}
use Rattle.pg_plan.specs.declared.place.Place.TheVariants as places
use Rattle.pg_plan.specs.declared.place.Step.{Step}
use Rattle.pg_backing.specs.Spans.{all_scores, greater, lesser, meet, span_of}
use Rattle.pg_backing.specs.Ways.{may_take}
use Rattle.pg_backing.specs.declared.report.Own.{Own}
use Rattle.pg_backing.specs.declared.report.Own.TheVariants.{Lacks, Nothing, Says}
use Rattle.pg_backing.specs.declared.span.Span.{Span}

-- ---- choices

-- the span of the better of two values for the side
abbrev pub better : Side → Span → Span → Span
better X a b = span_of (greater a.low b.low) (greater a.high b.high)
better Y a b = span_of (lesser a.low b.low) (lesser a.high b.high)

-- the span of the best of some values, and of one more
abbrev pub with_next : Side → Option Span → Span → Option Span
with_next side None next = Some next
with_next side (Some span) next = Some (better side span next)

-- the span of the best value, where these are all values or the side may have a better one
abbrev pub chosen : Side → Option Span → Bool → Span
chosen side None all = all_scores
chosen side (Some span) true = span
chosen X (Some span) false = span_of span.low XWins
chosen Y (Some span) false = span_of YWins span.high

-- ---- moves

-- what is known of a number's value: for those that have no span, nothing
abbrev pub known_of : List Span → ℕ → Span
known_of spans i = get_or spans i all_scores

-- the span of the best of some values, and of those after the moves that may be taken
abbrev pub best_from : Game → Position → List Span → Option Span → List Step → Option Span
best_from g p spans best [] = best
best_from g p spans best (s ∷ steps) = best_from g p spans (if may_take g p s.point
    then with_next p.turn best (known_of spans s.place)
    else best) steps

-- whether the point is that of a move that may be taken
abbrev pub is_moved : Game → Position → List Step → ℕ → Bool
is_moved g p steps v = list_any (λ s. may_take g p s.point && (s.point == v)) steps

-- whether each free point is
abbrev pub has_all_moves : Game → Position → List Step → Bool
has_all_moves g p steps = list_all (is_moved g p steps) (free_points g p)

-- what the moves make known of a position's value
abbrev pub by_moves : Game → Position → List Span → List Step → Span
by_moves g p spans steps =
    chosen p.turn (best_from g p spans None steps) (has_all_moves g p steps)

-- ---- numbers

-- what is known of a value by itself
abbrev pub own_span : Own → Span
own_span Nothing = all_scores
own_span (Lacks lack) = all_scores
own_span (Says span) = span

-- what is known of the value of a position of this place
abbrev pub span_by : Game → List Span → Own → Place → Position → Span
span_by g spans own places.Decided p = own_span own
span_by g spans own (places.Image m j) p = known_of spans j
span_by g spans own (places.Game k steps) p = meet (own_span own) (by_moves g p spans steps)
span_by g spans own (places.Moves steps) p = by_moves g p spans steps

-- so where the position may be none
abbrev pub span_at : Game → List Span → Own → Place → Option Position → Span
span_at g spans own place None = own_span own
span_at g spans own place (Some p) = span_by g spans own place p

-- as many spans as places, each by what is known by itself and by the spans of lower numbers
pub record AreSpansOf (g : Game) (plan : List Place) (positions : List (Option Position))
    (own : List Own) (spans : List Span) : Type 0 where
  pub count : length spans ≡ length plan
  pub each : (i : ℕ) (place : Place)
      → slice_get plan i ≡ Some place
      → known_of spans i
      ≡ span_at g (take i spans) (get_or own i Nothing) place (get_or positions i None)
