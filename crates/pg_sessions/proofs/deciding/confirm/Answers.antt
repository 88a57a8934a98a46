use Rattle.std.proofs.Common.{◌∙◌, ℕ, Err, ap}
use Rattle.pg_sessions.proofs.Common.{IsFirstFault, IsValid, Cert, Game}
use Rattle.pg_check.specs.declared.checked.CheckFault.{CheckFault}
use Rattle.pg_sessions.proofs.deciding.confirm.Goals as goal

-- a valid certificate has no first fault
no_fault : (g : Game) (c : Cert)
    → IsValid g c
    → (claim node why : ℕ) → IsFirstFault g c claim node why
    → ⊥
no_fault g c valid claim node why h =
    h.least.fails (valid claim h.faulty h.claim_at node h.faulty_node h.node_at h.fault)

pub unreachable-requires : goal.unreachable-requires
unreachable-requires c =
    let reject = c.in-Err-Reject in
    no_fault c.args.game.now c.args.certificate.now c.requires.valid reject.field-0-0
    reject.field-0-1 reject.field-0-2
    (c.check.ensures.reject reject.field-0-0 reject.field-0-1 reject.field-0-2
    (reject.is ∙ ap (λ (fault : CheckFault). Err fault) reject.field-0-is))
