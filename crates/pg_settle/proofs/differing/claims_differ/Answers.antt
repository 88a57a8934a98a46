use Rattle.std.proofs.Common.{◌≡◌, ◌∙◌, ◌≤◌, List, Some, length, slice_get, refl, sym, ap, subst}
use Rattle.std.proofs.Common.{arith}
use Rattle.pg_settle.proofs.Common.{Claim, HaveDifferentPositions, Node, false≢true}
use Rattle.pg_settle.proofs.Common.{slice_get_read}
use Rattle.pg_settle.proofs.Positions.{claims_all, differ_more}
use Rattle.pg_settle.proofs.differing.claims_differ.Goals as goal

pub loop-claim-init : goal.loop-claim-init
loop-claim-init c = λ i claim low there. absurd (omega (arith, low))

pub returns-then-not-differ : goal.returns-then-not-differ
returns-then-not-differ c =
    let items = c.as_slice-claim-items in
    let claim = c.claim-item.result in
    let index = c.loop-claim.claim-index in
    let at = subst (λ (cs : List Claim). slice_get cs index ≡ Some claim) items.ensures
    (slice_get_read items.result.now (length items.result.now) index claim refl
    c.loop-claim-test.true c.claim-item.is) in (
      λ e. absurd (false≢true e),
      λ each. absurd (false≢true (sym c.if-not-differ.true
          ∙ c.in_ok-differ.ensures.1 (subst (λ (ns : List Node). HaveDifferentPositions ns)
          (sym c.as_slice.ensures) (each index claim at)))),
    )

pub loop-claim-preserved : goal.loop-claim-preserved
loop-claim-preserved c =
    let items = c.as_slice-claim-items in
    let claim = c.claim-item.result in
    let index = c.loop-claim.claim-index in
    let at = subst (λ (cs : List Claim). slice_get cs index ≡ Some claim) items.ensures
    (slice_get_read items.result.now (length items.result.now) index claim refl
    c.loop-claim-test.true c.claim-item.is) in
    differ_more c.args.certificate.now.claims index claim c.loop-claim.invariant at
    (subst (λ (ns : List Node). HaveDifferentPositions ns) c.as_slice.ensures
    (c.in_ok-differ.ensures.0 c.if-not-differ.false))

pub returns : goal.returns
returns c =
    let claims = c.args.certificate.now.claims in
    let same = ap length c.as_slice-claim-items.ensures in
    let end = c.loop-claim-test.false in
    let past : length claims ≤ c.loop-claim.claim-index = omega (arith, same, end) in (
      λ _. claims_all claims c.loop-claim.claim-index past c.loop-claim.invariant,
      λ _. refl,
    )
