use Rattle.std.proofs.Common.{Err, ap, ◌∙◌}
use Rattle.pg_check.specs.declared.checked.CheckFault.{CheckFault}
use Rattle.pg_drawing.proofs.picturing.tell_certificate.Goals as goal

pub faulty-requires : goal.faulty-requires
faulty-requires c = rw (c.in-Err-Reject.claim-is, c.in-Err-Reject.node-is, c.in-Err-Reject.why-is)
    (c.check.ensures.reject c.in-Err-Reject.claim c.in-Err-Reject.node c.in-Err-Reject.why
    (c.in-Err-Reject.is ∙ ap (λ (f : CheckFault). Err f) c.in-Err-Reject.field-0-is))
