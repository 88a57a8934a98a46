-- A certificate whose claims are all valid.
use Rattle.std.proofs.Common.{◌≡◌, ◌<◌, ◌≤◌, ℕ, Some, sym, ap, subst, arith}
use Rattle.std.specs.Prelude.{List, length, slice_get, get_or}
use Rattle.std.proofs.lemmas.Option.{slice_get-get_or}
use Rattle.pg_span.specs.Valid.{IsSpanClaimValid, IsSpanValid}
use Rattle.pg_span.specs.declared.cert.SpanCert.{SpanCert}
use Rattle.pg_span.specs.declared.cert.SpanClaim.{SpanClaim}
use Rattle.pg_span.specs.declared.game.SpanGame.{SpanGame}

-- where each claim was found valid the certificate is
pub valid-all : (g : SpanGame) (cert : SpanCert) (claims : List SpanClaim) (k : ℕ)
    → claims ≡ cert.claims
    → length claims ≤ k
    → ((i : ℕ) (c : SpanClaim) → i < k → slice_get claims i ≡ Some c → IsSpanClaimValid g c)
    → IsSpanValid g cert
valid-all g cert claims k same past each i d low =
    let many = ap length same in
    each i (get_or cert.claims i d) (omega (arith, low, past, many))
    (subst (λ (list : List SpanClaim). slice_get list i ≡ Some (get_or cert.claims i d)) (sym same)
    (slice_get-get_or cert.claims i d low))
