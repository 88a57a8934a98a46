use Rattle.std.proofs.Common.{◌∙◌, sym}
use Rattle.std.proofs.lemmas.Bool.{false≢true}
use Rattle.pg_potential.proofs.marks.Marks.keeps_points.Goals as goal

pub returns-then-is_within : goal.returns-then-is_within
returns-then-is_within c = rw c.in-X.is (
  λ on. record {
    own = c.is_within.ensures.0 c.if-is_within.true;
    theirs = c.has_within.ensures.0 on;
  },
  λ h. c.has_within.ensures.1 h.theirs,
)

pub returns-else-is_within : goal.returns-else-is_within
returns-else-is_within c = rw c.in-X.is (
  λ on. absurd (false≢true (sym c.if-is_within.false ∙ on)),
  λ h. c.is_within.ensures.1 h.own,
)

pub returns-then-is_within-2 : goal.returns-then-is_within-2
returns-then-is_within-2 c = rw c.in-Y.is (
  λ on. record {
    own = c.is_within-in-Y.ensures.0 c.if-is_within-2.true;
    theirs = c.has_within-then-is_within-2.ensures.0 on;
  },
  λ h. c.has_within-then-is_within-2.ensures.1 h.theirs,
)

pub returns-else-is_within-2 : goal.returns-else-is_within-2
returns-else-is_within-2 c = rw c.in-Y.is (
  λ on. absurd (false≢true (sym c.if-is_within-2.false ∙ on)),
  λ h. c.is_within-in-Y.ensures.1 h.own,
)
