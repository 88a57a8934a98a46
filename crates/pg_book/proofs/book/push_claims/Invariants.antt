use Rattle.std.proofs.Common.{◌≡◌, ◌++◌, length}
use Rattle.std.specs.Prelude.{slice_get}
use Rattle.std.specs.List.{flat_map, range_with_len}
use Rattle.pg_book.specs.Books.{claim_by}
use Rattle.pg_book.proofs.book.push_claims.Given as goal

abbrev pub invariant-loop-i : goal.invariant-loop-i
invariant-loop-i l = l.pieces.items
    ≡ l.fn.pieces.items
    ++ flat_map
    (λ i. claim_by l.g l.layout l.depth (length l.cert.claims) i (slice_get l.cert.claims i))
    (range_with_len 0 l.i)
