-- A certificate that shows a class has no number that its file may not have.
use Rattle.std.proofs.Common.{◌≡◌, ℕ, ◌<◌, ◌≤◌, true, List, [], ◌∷◌, length, Option, Some, None, ap}
use Rattle.std.proofs.Common.{arith}
use Rattle.pg_families.proofs.Common.{All, All-weaker, Side, Position, edge_count, marks_at}
use Rattle.pg_families.proofs.Common.{AreDueClaims, ArePartsBelow, HavePartsBelow, IsBodyAt}
use Rattle.pg_families.proofs.Common.{IsSpanValid, SpanBody, SpanCert, SpanClaim, SpanGame}
use Rattle.pg_families.proofs.Common.{SpanClass, IsSmallBody, IsWithinRanges}
use Rattle.std.specs.FinSet.{FinSet}
use Rattle.std.specs.Ordering.{nat_cmp}
use Rattle.std.specs.Prelude.{IfSome, get_or}
use Rattle.pg_switch.specs.Span.{IsFirst}
use Rattle.pg_span.specs.declared.cert.SpanBody.TheVariants.{Trees, Parts}

-- the edge that is claimed first is an edge of the game
small_first : (m : ℕ) (p : Position) (a1 a2 : FinSet nat_cmp) (first : Option ℕ)
    → m ≤ 1000
    → IsFirst m p a1 a2 first
    → IfSome first (λ v. v ≤ 999)
small_first m p a1 a2 None few is = tt
small_first m p a1 a2 (Some v) few is = let lt = is.0 in omega (arith, lt, few)

-- a body that holds names edges of the game, or numbers of parts that are below the number of
-- vertices
small_body : (g : SpanGame) (p : Position) (side : Side) (body : SpanBody)
    → IsBodyAt g p side body
    → ArePartsBelow g.graph.vertices body
    → IsSmallBody body
small_body g p side (Trees first a1 a2) (own, holds) below =
    let few = g.fits.graph.few_edges in (
      small_first (edge_count g.graph) p a1 a2 first few holds.first_claimed,
      λ f has. (let lt = (holds.one_free f has).0 in omega (arith, lt, few)),
      λ f has. (let lt = (holds.two_free f has).0 in omega (arith, lt, few)),
    )
small_body g p side (Parts numbers) held below =
    let few = g.fits.few_vertices in
    All-weaker (λ n. n < g.graph.vertices) (λ n. n ≤ 999)
    (λ n lt. omega (arith, lt, few)) numbers below

-- two claims that hold, and whose numbers of parts are below the number of vertices
pub ranges_kept : (g : SpanGame) (class : SpanClass) (c : SpanCert)
    → AreDueClaims class c.claims
    → IsSpanValid g c
    → HavePartsBelow g.graph.vertices c.claims
    → IsWithinRanges c
ranges_kept g class c due valid below =
    let two : length c.claims ≡ 2 = ap length due.two in
    record {
      some = omega (arith, two);
      few = omega (arith, two);
      numbers = λ k d lt.
          let claim : SpanClaim = get_or c.claims k d in
          small_body g (marks_at g claim.turn) claim.side claim.body (valid k d lt) (below k d lt);
    }
