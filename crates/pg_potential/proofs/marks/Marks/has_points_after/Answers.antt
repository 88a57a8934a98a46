use Rattle.std.proofs.Common.{◌∙◌, sym}
use Rattle.std.proofs.lemmas.Bool.{false≢true}
use Rattle.pg_potential.proofs.marks.Marks.has_points_after.Goals as goal

pub returns-then-has_more : goal.returns-then-has_more
returns-then-has_more c = rw c.in-X.is (
  λ on. record { x = c.has_more.ensures.0 c.if-has_more.true; y = c.has_set.ensures.0 on },
  λ h. c.has_set.ensures.1 h.y,
)

pub returns-else-has_more : goal.returns-else-has_more
returns-else-has_more c = rw c.in-X.is (
  λ on. absurd (false≢true (sym c.if-has_more.false ∙ on)),
  λ h. c.has_more.ensures.1 h.x,
)

pub returns-then-has_set : goal.returns-then-has_set
returns-then-has_set c = rw c.in-Y.is (
  λ on. record {
    x = c.has_set-in-Y.ensures.0 c.if-has_set.true;
    y = c.has_more-then-has_set.ensures.0 on;
  },
  λ h. c.has_more-then-has_set.ensures.1 h.y,
)

pub returns-else-has_set : goal.returns-else-has_set
returns-else-has_set c = rw c.in-Y.is (
  λ on. absurd (false≢true (sym c.if-has_set.false ∙ on)),
  λ h. c.has_set-in-Y.ensures.1 h.x,
)
