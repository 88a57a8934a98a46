-- The nodes of some claims.
use Rattle.std.proofs.Common.{◌≡◌, ℕ, List, ◌+◌, ◌<◌, length, get_or, take, sym, ◌∙◌, ap}
use Rattle.pg_results.proofs.Common.{take_more, sum_by_push, node_count, Claim}

pub counted_more : (claims : List Claim) (k : ℕ) (claim : Claim)
    → k < length claims
    → claim ≡ get_or claims k claim
    → node_count (take (k + 1) claims) ≡ node_count (take k claims) + length claim.nodes
counted_more claims k claim in_range at = ap node_count (take_more claims k claim in_range)
    ∙ (sum_by_push (λ (c : Claim). length c.nodes) (take k claims) (get_or claims k claim)
    ∙ ap (λ (c : Claim). node_count (take k claims) + length c.nodes) (sym at))
