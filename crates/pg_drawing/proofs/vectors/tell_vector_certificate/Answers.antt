use Rattle.std.proofs.Common.{Err, ap, ◌∙◌}
use Rattle.pg_gf2.specs.declared.flaw.VecFault.{VecFault}
use Rattle.pg_drawing.proofs.vectors.tell_vector_certificate.Goals as goal

pub faulty-requires-clause-first : goal.faulty-requires-clause-first
faulty-requires-clause-first c = rw (
  c.in-Err-Reject.claim-is,
  c.in-Err-Reject.node-is,
  c.in-Err-Reject.why-is,
)
    (c.vec_check.ensures.reject c.in-Err-Reject.claim c.in-Err-Reject.node c.in-Err-Reject.why
    (c.in-Err-Reject.is ∙ ap (λ (f : VecFault). Err f) c.in-Err-Reject.field-0-is))
