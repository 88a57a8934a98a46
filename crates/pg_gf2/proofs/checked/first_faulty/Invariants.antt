use Rattle.std.proofs.Common.{◌≡◌, ◌<◌, ℕ, Some, slice_get}
use Rattle.pg_cert.specs.declared.cert.Claim.{Claim}
use Rattle.pg_gf2.specs.Check.{IsVecClaimValid}
use Rattle.pg_gf2.proofs.checked.first_faulty.Given as goal

abbrev pub invariant-loop-k : goal.invariant-loop-k
invariant-loop-k l = (i : ℕ) (claim : Claim) → i < l.k
    → slice_get l.c.claims i ≡ Some claim
    → IsVecClaimValid l.g l.c.version claim
