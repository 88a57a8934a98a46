-- What spans say, score by score.
use Rattle.std.proofs.Common.{◌≡◌, Bool, true, false, cond, refl}
use Rattle.pg_backing.specs.Spans.{IsWithin, all_scores, meet, reached, shows}
use Rattle.pg_backing.specs.declared.span.Span.{Span}
use Rattle.pg_base.specs.declared.goal.Goal.{Goal}
use Rattle.pg_base.specs.declared.goal.Goal.TheVariants.{Draw as AtLeastDraw, Win}
use Rattle.pg_base.specs.declared.score.Score.{Score}
use Rattle.pg_base.specs.declared.score.Score.TheVariants.{Draw, XWins, YWins}
use Rattle.pg_base.specs.declared.side.Side.{Side}
use Rattle.pg_base.specs.declared.side.Side.TheVariants.{X, Y}
use Rattle.pg_game.specs.Decided.{at_least}
use Rattle.pg_game.specs.Value.{reaches}

pub all_within : (value : Score) → IsWithin value all_scores
all_within XWins = record { low = refl; high = refl }
all_within Draw = record { low = refl; high = refl }
all_within YWins = record { low = refl; high = refl }

pub reached_within : (side : Side) (goal : Goal) (value : Score)
    → reaches side goal value ≡ true
    → IsWithin value (reached side goal)
reached_within X Win XWins e = record { low = refl; high = refl }
reached_within X Win Draw e = absurd (cc e)
reached_within X Win YWins e = absurd (cc e)
reached_within X AtLeastDraw XWins e = record { low = refl; high = refl }
reached_within X AtLeastDraw Draw e = record { low = refl; high = refl }
reached_within X AtLeastDraw YWins e = absurd (cc e)
reached_within Y Win XWins e = absurd (cc e)
reached_within Y Win Draw e = absurd (cc e)
reached_within Y Win YWins e = record { low = refl; high = refl }
reached_within Y AtLeastDraw XWins e = absurd (cc e)
reached_within Y AtLeastDraw Draw e = record { low = refl; high = refl }
reached_within Y AtLeastDraw YWins e = record { low = refl; high = refl }

-- one of two scores, by a test
above : (b : Bool) (x y value : Score)
    → at_least x value ≡ true
    → at_least y value ≡ true
    → at_least (cond b x y) value ≡ true
above true x y value one two = one
above false x y value one two = two

below : (b : Bool) (x y value : Score)
    → at_least value x ≡ true
    → at_least value y ≡ true
    → at_least value (cond b x y) ≡ true
below true x y value one two = one
below false x y value one two = two

pub met_within : (value : Score) (a b : Span)
    → IsWithin value a
    → IsWithin value b
    → IsWithin value (meet a b)
met_within value a b one two = record {
  low = above (at_least b.low a.low) a.low b.low value one.low two.low;
  high = below (at_least b.high a.high) b.high a.high value two.high one.high;
}

-- what is at least a score that reaches X's goal does so too, and what is at most one that reaches
-- Y's
x_reaches : (goal : Goal) (low value : Score)
    → reaches X goal low ≡ true
    → at_least low value ≡ true
    → reaches X goal value ≡ true
x_reaches Win XWins XWins e h = refl
x_reaches Win XWins Draw e h = absurd (cc h)
x_reaches Win XWins YWins e h = absurd (cc h)
x_reaches Win Draw value e h = absurd (cc e)
x_reaches Win YWins value e h = absurd (cc e)
x_reaches AtLeastDraw low XWins e h = refl
x_reaches AtLeastDraw low Draw e h = refl
x_reaches AtLeastDraw XWins YWins e h = absurd (cc h)
x_reaches AtLeastDraw Draw YWins e h = absurd (cc h)
x_reaches AtLeastDraw YWins YWins e h = absurd (cc e)

y_reaches : (goal : Goal) (high value : Score)
    → reaches Y goal high ≡ true
    → at_least value high ≡ true
    → reaches Y goal value ≡ true
y_reaches Win YWins YWins e h = refl
y_reaches Win YWins Draw e h = absurd (cc h)
y_reaches Win YWins XWins e h = absurd (cc h)
y_reaches Win Draw value e h = absurd (cc e)
y_reaches Win XWins value e h = absurd (cc e)
y_reaches AtLeastDraw high YWins e h = refl
y_reaches AtLeastDraw high Draw e h = refl
y_reaches AtLeastDraw YWins XWins e h = absurd (cc h)
y_reaches AtLeastDraw Draw XWins e h = absurd (cc h)
y_reaches AtLeastDraw XWins XWins e h = absurd (cc e)

pub shown_within : (side : Side) (goal : Goal) (value : Score) (span : Span)
    → shows side goal span ≡ true
    → IsWithin value span
    → reaches side goal value ≡ true
shown_within X goal value span e is = x_reaches goal span.low value e is.low
shown_within Y goal value span e is = y_reaches goal span.high value e is.high
