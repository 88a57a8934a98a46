use Rattle.std.proofs.Common.{Err, ap}
use Rattle.pg_check.specs.declared.checked.CheckFault.{CheckFault}
use Rattle.pg_evidence.proofs.Tracing.{faulty_in, has_source}
use Rattle.pg_evidence.proofs.standing.check_standing.Goals as goal

pub source-requires : goal.source-requires
source-requires c = has_source c.args.game.now c.args.standing.now c.in-Err-Reject.claim
    c.in-Err-Reject.node c.in-Err-Reject.why c.requires
    (c.in-Err-Reject.ensures.reject c.in-Err-Reject.claim c.in-Err-Reject.node c.in-Err-Reject.why
    (ap (λ (f : CheckFault). Err f) c.in-Err-Reject.field-0-is))

pub returns-in-Err-Reject-clause-reject : goal.returns-in-Err-Reject-clause-reject
returns-in-Err-Reject-clause-reject c = faulty_in c.args.game.now c.args.standing.now
    c.in-Err-Reject.claim c.in-Err-Reject.node c.source.result c.in-Err-Reject.why
    (c.in-Err-Reject.ensures.reject c.in-Err-Reject.claim c.in-Err-Reject.node c.in-Err-Reject.why
    (ap (λ (f : CheckFault). Err f) c.in-Err-Reject.field-0-is)) c.source.ensures
