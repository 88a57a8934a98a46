-- The first page that leads to a node, and the first reply.
use Rattle.std.proofs.Common.{◌≡◌, ◌∙◌, ℕ, suc, ◌+◌}
use Rattle.std.proofs.Common.{Some, None, ap}
use Rattle.pg_cert.specs.declared.cert.Claim.{Claim}
use Rattle.pg_book_parts.specs.Origins.{first_of, origin_at}
unfoldable use Rattle.pg_book_parts.specs.Origins.{origin_from}
use Rattle.pg_book_parts.specs.declared.origins.Origin.{Origin}

-- ---- pages

pub origin-none : (claim : Claim) (count child page n : ℕ)
    → n ≡ 0
    → origin_from claim count child page n ≡ None
unfolding origin_from
origin-none claim count child page n is = ap (origin_from claim count child page) is

pub origin-here : (claim : Claim) (count child page n m : ℕ) (origin : Origin)
    → n ≡ suc m
    → origin_at claim count child page ≡ Some origin
    → origin_from claim count child page n ≡ Some origin
unfolding origin_from
origin-here claim count child page n m origin is at = ap (origin_from claim count child page) is
    ∙ ap (λ found. first_of found (origin_from claim count child (page + 1) m)) at

pub origin-later : (claim : Claim) (count child page n m : ℕ)
    → n ≡ suc m
    → origin_at claim count child page ≡ None
    → origin_from claim count child page n ≡ origin_from claim count child (page + 1) m
unfolding origin_from
origin-later claim count child page n m is at = ap (origin_from claim count child page) is
    ∙ ap (λ found. first_of found (origin_from claim count child (page + 1) m)) at
