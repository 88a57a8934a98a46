-- What the law on valid certificates says.
use Rattle.std.proofs.Common.{◌≡◌, ℕ, Some, slice_get}
use Rattle.pg_results.proofs.Common.{Cert, Claim, Forces, Game, IsValid, IsWithinLimits, with_turn}

-- each claim of a valid certificate within the limits is forced
abbrev pub ValidClaimsAreForced : Type 0
ValidClaimsAreForced = (g : Game) (c : Cert) → IsWithinLimits c
    → IsValid g c
    → (i : ℕ) (claim : Claim) → slice_get c.claims i ≡ Some claim
    → Forces g (with_turn g claim.turn) claim.side claim.goal
