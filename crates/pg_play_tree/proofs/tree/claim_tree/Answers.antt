use Rattle.std.proofs.Common.{◌≢◌, ◌∙◌, Err, None, ap, inl, inr, min, subst, sym}
use Rattle.pg_check.specs.declared.checked.CheckFault.{CheckFault}
use Rattle.pg_play_tree.specs.Prelude.{Cert, Game, MAX_CLAIM_NODES, chosen_claim}
use Rattle.pg_play_tree.specs.Lines.{MeetsMore}
use Rattle.pg_play_tree.proofs.Choosing.{claim_chosen}
use Rattle.pg_play_tree.proofs.Within.{claim_turned}
use Rattle.pg_play_tree.proofs.tree.claim_tree.Goals as goal

pub played_claim-requires : goal.played_claim-requires
played_claim-requires c =
    let claim = c.args.claim.now in
    let at_turn = c.in-Ok.at_turn in
    subst (λ (k : Cert). chosen_claim at_turn.game.now k claim.side ≢ None)
    (sym c.in-Ok.ensures.cert)
    (claim_chosen at_turn.game.now c.args.checked.cert.now claim c.requires.claim.0
    (ap (λ (h : Game). h.turn) c.in-Ok.ensures.game ∙ c.in_ok-turned.ensures.same_turn)
    c.requires.claim.1 c.requires.claim.2)

pub returns-in-Ok-clause-tree : goal.returns-in-Ok-clause-tree
returns-in-Ok-clause-tree c = claim_turned c.args.checked.game.now c.in_ok-turned.turned
    c.in-Ok.at_turn.game.now c.args.checked.cert.now c.in-Ok.at_turn.cert.now c.args.claim.now
    c.played_claim.result c.in_ok-turned.ensures c.in-Ok.ensures.game c.in-Ok.ensures.cert
    c.played_claim.ensures.played

pub returns-in-Ok-clause-many : goal.returns-in-Ok-clause-many
returns-in-Ok-clause-many c = λ none.
    let claim = c.args.claim.now in
    let few = min c.args.most MAX_CLAIM_NODES in
    let more = c.played_claim.ensures.many none in (
      c.in_ok-turned.turned,
      c.in_ok-turned.ensures,
      inl (subst (λ (h : Game). MeetsMore h c.args.checked.cert.now claim.side few)
          c.in-Ok.ensures.game
          (subst (λ (k : Cert). MeetsMore c.in-Ok.at_turn.game.now k claim.side few)
          c.in-Ok.ensures.cert more)),
    )

pub returns-in-Err-Reject-clause-many : goal.returns-in-Err-Reject-clause-many
returns-in-Err-Reject-clause-many c = λ none.
    let claim = c.in-Err-Reject.field-0-0 in
    let node = c.in-Err-Reject.field-0-1 in
    let why = c.in-Err-Reject.field-0-2 in
    let fault = c.check.ensures.reject claim node why
    (c.in-Err-Reject.is ∙ ap (λ (f : CheckFault). Err f) c.in-Err-Reject.field-0-is) in (
      c.in_ok-turned.turned,
      c.in_ok-turned.ensures,
      inr (λ valid. c.faults_are_told.ensures.none c.in_ok-turned.turned c.args.checked.cert.now
          valid claim node why fault),
    )
