use Rattle.std.proofs.Common.{◌≡◌, ◌∙◌, ◌<◌, false, List, length, get_or, take_all, refl, sym, ap}
use Rattle.std.proofs.Common.{subst, arith, rules}
use Rattle.pg_sessions.proofs.Common.{All, false≢true, All-more, Claim}
use Rattle.pg_sessions.specs.Known.{HasNode}
use Rattle.pg_sessions.proofs.known.Known.holds_at.Goals as goal

pub returns-then-not-has_node : goal.returns-then-not-has_node
returns-then-not-has_node c =
    let claims = c.args.self.now.certificate.claims in
    let items = c.as_slice-claim-items in
    let claim = c.claim-item.result in
    let index = c.loop-claim.claim-index in
    let within : index < length claims = omega (arith, ap length items.ensures) in
    let there : claim ≡ get_or claims index claim =
    c.claim-item.is ∙ ap (λ (cs : List Claim). get_or cs index claim) items.ensures in
    let none : c.has_node.result ≡ false = search rules in (
      λ e. absurd (false≢true e),
      λ have. absurd (false≢true (sym none
          ∙ c.has_node.ensures.1
          (subst (HasNode c.args.position.now) (sym there) (have index claim within)))),
    )

pub loop-claim-preserved : goal.loop-claim-preserved
loop-claim-preserved c =
    let claims = c.args.self.now.certificate.claims in
    let items = c.as_slice-claim-items in
    let claim = c.claim-item.result in
    let index = c.loop-claim.claim-index in
    let within : index < length claims = omega (arith, ap length items.ensures) in
    let there : claim ≡ get_or claims index claim =
    c.claim-item.is ∙ ap (λ (cs : List Claim). get_or cs index claim) items.ensures in
    All-more (HasNode c.args.position.now) claims index claim within c.loop-claim.invariant
    (subst (HasNode c.args.position.now) there (c.has_node.ensures.0 (search rules)))

pub returns : goal.returns
returns c =
    let claims = c.args.self.now.certificate.claims in (
      λ _. subst (λ (cs : List Claim). All (HasNode c.args.position.now) cs)
          (take_all c.loop-claim.claim-index claims
          (omega (arith, ap length c.as_slice-claim-items.ensures))) c.loop-claim.invariant,
      λ _. refl,
    )
