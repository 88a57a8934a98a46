use Rattle.std.proofs.Common.{◌∙◌, Err, ap}
use Rattle.pg_check.specs.declared.checked.CheckFault.{CheckFault}
use Rattle.pg_play_tree.proofs.tree.is_valid.Goals as goal

pub returns-in-Err-Reject-clause-faulty : goal.returns-in-Err-Reject-clause-faulty
returns-in-Err-Reject-clause-faulty c =
    let claim = c.in-Err-Reject.field-0-0 in
    let node = c.in-Err-Reject.field-0-1 in
    let why = c.in-Err-Reject.field-0-2 in
    let fault = c.check.ensures.reject claim node why
    (c.in-Err-Reject.is ∙ ap (λ (f : CheckFault). Err f) c.in-Err-Reject.field-0-is) in
    λ said valid. c.faults_are_told.ensures.none c.args.game.now c.args.cert.now valid claim node
    why fault
