-- What is known of a position's value.
use Rattle.std.specs.Prelude.{◌≡◌, Bool, true, not, if◌then◌else◌}
use Rattle.pg_base.specs.declared.goal.Goal.{Goal}
use Rattle.pg_base.specs.declared.goal.Goal.TheVariants.{Draw as AtLeastDraw, Win}
use Rattle.pg_base.specs.declared.score.Score.{Score}
use Rattle.pg_base.specs.declared.score.Score.TheVariants.{Draw, XWins, YWins}
use Rattle.pg_base.specs.declared.side.Side.{Side}
use Rattle.pg_base.specs.declared.side.Side.TheVariants.{X, Y}
use Rattle.pg_game.specs.Decided.{at_least}
use Rattle.pg_game.specs.Value.{reaches}
use Rattle.pg_backing.specs.declared.span.Span.{Span}

-- the greater and the lesser of two scores
abbrev pub greater : Score → Score → Score
greater a b = if at_least b a then a else b

abbrev pub lesser : Score → Score → Score
lesser a b = if at_least b a then b else a

-- the span from one score to another
abbrev pub span_of : Score → Score → Span
span_of low high = record { low = low; high = high }

-- the value is in the span
pub record IsWithin (value : Score) (span : Span) : Type 0 where
  pub low : at_least span.low value ≡ true
  pub high : at_least value span.high ≡ true

-- all scores
abbrev pub all_scores : Span
all_scores = span_of YWins XWins

-- those that reach the goal for the side
abbrev pub reached : Side → Goal → Span
reached X Win = span_of XWins XWins
reached X AtLeastDraw = span_of Draw XWins
reached Y Win = span_of YWins YWins
reached Y AtLeastDraw = span_of YWins Draw

-- those that are in both spans
abbrev pub meet : Span → Span → Span
meet a b = span_of (greater a.low b.low) (lesser a.high b.high)

-- whether the score in the span that is worst for the side reaches its goal
abbrev pub shows : Side → Goal → Span → Bool
shows X goal span = reaches X goal span.low
shows Y goal span = reaches Y goal span.high

-- whether more than one score is in the span
abbrev pub is_open : Span → Bool
is_open span = not (at_least span.high span.low)
