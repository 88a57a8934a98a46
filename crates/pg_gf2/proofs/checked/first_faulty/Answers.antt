use Rattle.std.proofs.Common.{◌≡◌, Option, Some, length, List, slice_get, unwrap_or, arith, inl}
use Rattle.std.proofs.Common.{inr, ap, sym, ◌∙◌, refl, subst}
use Rattle.pg_gf2.proofs.Common.{cases_eq, slice_get_read, Claim}
use Rattle.pg_gf2.specs.declared.flaw.VecFlaw.{VecFlaw}
use Rattle.pg_gf2.specs.Check.{IsVecClaimValid, IsClaimVerdict}
use Rattle.pg_gf2.proofs.checked.first_faulty.Goals as goal

pub loop-k-preserved : goal.loop-k-preserved
loop-k-preserved c i claim low at =
    let g = c.args.g.now in
    let cert = c.args.c.now in
    let here : slice_get cert.claims c.loop-k.k ≡ Some c.index-claims-k.result =
    subst (λ (claims : List Claim). slice_get claims c.loop-k.k ≡ Some c.index-claims-k.result)
    c.as_slice-claims.ensures
    (slice_get_read c.as_slice-claims.result.now (length c.as_slice-claims.result.now) c.loop-k.k
    c.index-claims-k.result refl c.loop-k-test.true c.index-claims-k.is) in
    let valid =
    subst (λ (v : Option VecFlaw). IsClaimVerdict g cert.version c.index-claims-k.result v)
    c.in_default.is c.in_ok-why.ensures in
    elim (cases_eq c.loop-k.k i) [
      | inl e ↦ subst (λ (k : Claim). IsVecClaimValid g cert.version k)
          (ap (λ (o : Option Claim). unwrap_or o c.index-claims-k.result)
          (sym here ∙ (ap (slice_get cert.claims) e ∙ at))) valid
      | inr d ↦ c.loop-k.invariant i claim (omega arith) at
    ]

pub returns-in-Some : goal.returns-in-Some
returns-in-Some c =
    let g = c.args.g.now in
    let cert = c.args.c.now in
    record {
      claims_before = c.loop-k.invariant;
      faulty = c.index-claims-k.result;
      claim_at = subst (λ (claims : List Claim).
          slice_get claims c.loop-k.k ≡ Some c.index-claims-k.result) c.as_slice-claims.ensures
          (slice_get_read c.as_slice-claims.result.now (length c.as_slice-claims.result.now)
          c.loop-k.k c.index-claims-k.result refl c.loop-k-test.true c.index-claims-k.is);
      node_first = refl;
      has_flaw =
          subst (λ (v : Option VecFlaw). IsClaimVerdict g cert.version c.index-claims-k.result v)
          c.in-Some.is c.in_ok-why.ensures;
    }
