use Rattle.std.proofs.Common.{refl, sym, ◌∙◌, eq-eqb}
use Rattle.pg_threat.proofs.Common.{or_left, or_right, false≢true, in_insert}
use Rattle.pg_threat.proofs.lacking.Lacked.put.Goals as goal
use Rattle.pg_threat.proofs.lacking.Lacked.put.Goals.{then-has, else-has}

pub returns-clause-kept : goal.returns-clause-kept
returns-clause-kept c = elim c.if-has.branch [
  | then-has w ↦ λ q h. rw (w.self-is, w.put.ensures)
      (in_insert c.args.self.now.twice c.args.v q ∙ or_right _ _ h)
  | else-has w ↦ λ q h. rw w.self-is h
]

pub returns-clause-again : goal.returns-clause-again
returns-clause-again c = elim c.if-has.branch [
  | then-has w ↦
      λ h. rw (w.self-is, w.put.ensures) (in_insert c.args.self.now.twice c.args.v c.args.v
      ∙ or_left _ _ (eq-eqb c.args.v c.args.v refl))
  | else-has w ↦ λ h. absurd (false≢true (sym w.if-has.false ∙ c.has.ensures ∙ h))
]
