-- Which identities the sections of a book have.
use Rattle.std.proofs.Common.{◌≡◌, ℕ, zero, suc, ◌+◌, ◌-◌, ◌<◌, ◌≤◌, true, List, [], ◌∷◌}
use Rattle.std.proofs.Common.{length, Option, Some, None, sym, subst, arith}
use Rattle.std.proofs.Common.{inl, inr}
use Rattle.std.specs.Prelude.{nat_lt, nat_le, slice_get}
use Rattle.std.specs.List.{Contains, flat_map, range_with_len}
use Rattle.std.proofs.lemmas.Bool.{and_parts, cases_eq}
use Rattle.std.proofs.lemmas.Bool.Decides.{nat_tests}
use Rattle.std.proofs.lemmas.List.Concat.{flat_map_single}
use Rattle.std.proofs.lemmas.List.Elements.{Contains-append_left, Contains-append_right}
use Rattle.pg_base.proofs.Stands.{some≢none}
use Rattle.pg_base.specs.Texts.{Bytes}
use Rattle.pg_cert.specs.declared.cert.Claim.{Claim}
use Rattle.pg_game.specs.declared.game.Game.{Game}
use Rattle.pg_game.proofs.Members.{Contains-head, Contains-tail}
use Rattle.pg_book.specs.Books.{chapter_of}
use Rattle.pg_book_parts.specs.Chapters.{has_page, page_id, page_of, shown}
use Rattle.pg_book.specs.Laws.{book_ids, chapter_ids, claim_ids}
use Rattle.pg_book_parts.specs.declared.chapter.Chapter.{Chapter}
use Rattle.pg_book.specs.declared.front.TheConstants.{LEGEND}

-- ---- lists

-- a list has a member at each place below its length
pub at-within : {A : Type 0} (xs : List A) (i : ℕ) → i < length xs → slice_get xs i ≡ None → ⊥
at-within [] i lt none = absurd (omega arith)
at-within (x ∷ xs) zero lt none = some≢none none
at-within (x ∷ xs) (suc i) lt none = at-within xs i (omega arith) none

-- a number of a range
range-has : (a n i : ℕ) → a ≤ i → i < a + n → Contains (range_with_len a n) i
range-has a zero i low high = absurd (omega arith)
range-has a (suc n) i low high = elim (cases_eq a i) [
  | inl same ↦ subst (Contains (range_with_len a (suc n))) same
      (Contains-head a (range_with_len (a + 1) n))
  | inr other ↦ Contains-tail a i (range_with_len (a + 1) n)
      (range-has (a + 1) n i (omega (arith, other)) (omega arith))
]

-- a member of what a member of a list gives
flat-has : {A B : Type 0} (f : A → List B) (xs : List A) (x : A) (y : B)
    → Contains xs x
    → Contains (f x) y
    → Contains (flat_map f xs) y
flat-has f [] x y at has = absurd (omega (arith, at.1))
flat-has {A} {B} f (z ∷ zs) x y (zero, lt, is) has =
    Contains-append_left (f z) (flat_map f zs) y
    (subst (λ (w : A). Contains (f w) y) (sym is) has)
flat-has f (z ∷ zs) x y (suc k, lt, is) has =
    Contains-append_right (f z) (flat_map f zs) y (flat-has f zs x y (k, omega arith, is) has)

-- ---- pages

-- the sections of a claim, a list for each page
pub single-ids : (chapter : Chapter)
    → flat_map (λ i. page_id chapter (i + 1) ∷ []) (range_with_len 0 (shown chapter))
    ≡ chapter_ids chapter
single-ids chapter =
    flat_map_single (λ i. page_id chapter (i + 1)) (range_with_len 0 (shown chapter))

pub page-listed : (chapter : Chapter) (i : ℕ)
    → i < shown chapter
    → Contains (chapter_ids chapter) (page_id chapter (i + 1))
page-listed chapter i lt = subst (λ ids. Contains ids (page_id chapter (i + 1)))
    (single-ids chapter)
    (flat-has (λ j. page_id chapter (j + 1) ∷ []) (range_with_len 0 (shown chapter)) i
    (page_id chapter (i + 1)) (range-has 0 (shown chapter) i (omega arith) (omega arith))
    (Contains-head (page_id chapter (i + 1)) []))

-- the page of a node is listed if the claim has the node, and the book the page
listed : (chapter : Chapter) (node : ℕ)
    → node < chapter.count
    → page_of chapter node ≤ chapter.room
    → Contains (chapter_ids chapter) (page_id chapter (page_of chapter node))
listed chapter node lt le =
    let page : chapter.count - node - 1 + 1 ≡ page_of chapter node = omega arith in
    subst (λ n. Contains (chapter_ids chapter) (page_id chapter n)) page
    (page-listed chapter (chapter.count - node - 1) (omega arith))

pub has-listed : (chapter : Chapter) (node : ℕ)
    → has_page chapter node ≡ true
    → Contains (chapter_ids chapter) (page_id chapter (page_of chapter node))
has-listed chapter node has =
    let parts = and_parts (nat_lt node chapter.count)
    (nat_le (page_of chapter node) chapter.room) has in
    let first = parts.0 in
    let second = parts.1 in
    listed chapter node (grind (arith, nat_tests)) (grind (arith, nat_tests))

-- ---- books

pub legend-listed : (g : Game) (depth : Option ℕ) (claims : List Claim)
    → Contains (book_ids g depth claims) LEGEND.now
legend-listed g depth claims =
    Contains-append_right
    (flat_map (λ i. claim_ids g depth (length claims) i (slice_get claims i))
    (range_with_len 0 (length claims)))
    (LEGEND.now ∷ []) LEGEND.now (Contains-head LEGEND.now [])

-- what a claim's sections have, the book has
pub claim-listed : (g : Game) (depth : Option ℕ) (claims : List Claim) (i : ℕ) (claim : Claim)
    (id : Bytes)
    → i < length claims
    → slice_get claims i ≡ Some claim
    → Contains (chapter_ids (chapter_of g depth (length claims) i claim)) id
    → Contains (book_ids g depth claims) id
claim-listed g depth claims i claim id lt at has =
    let ids : ℕ → List Bytes = λ j. claim_ids g depth (length claims) j (slice_get claims j) in
    let here : Contains (ids i) id =
    subst (λ (found : Option Claim). Contains (claim_ids g depth (length claims) i found) id)
    (sym at) has in
    Contains-append_left (flat_map ids (range_with_len 0 (length claims))) (LEGEND.now ∷ []) id
    (flat-has ids (range_with_len 0 (length claims)) i id
    (range-has 0 (length claims) i (omega arith) (omega arith)) here)
