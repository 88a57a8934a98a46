-- Which nodes a book shows, and on which pages.
use Rattle.std.proofs.Common.{◌≡◌, ◌∙◌, ℕ, suc, ◌-◌, ◌<◌, ◌≤◌, min, Bool, true, false}
use Rattle.std.proofs.Common.{◌&&◌, cond, List, [], ◌∷◌, All, Contains, Option, Some, None, ap, ap₂}
use Rattle.std.proofs.Common.{arith, drop, filter, get_or, inl, inr, le-leb, length, length-drop}
use Rattle.std.proofs.Common.{lt-ltb}
use Rattle.std.proofs.Common.{refl, subst, sym}
use Rattle.std.specs.Prelude.{nat_le, nat_lt, slice_get}
use Rattle.std.proofs.lemmas.Bool.{cases_lt, lt-leb}
use Rattle.std.proofs.lemmas.List.Elements.{All-map}
use Rattle.std.proofs.lemmas.Option.{slice_get_within}
use Rattle.pg_cert.specs.Limits.{IsClaim}
use Rattle.pg_cert.specs.declared.cert.Cert.{Cert}
use Rattle.pg_cert.specs.declared.cert.Claim.{Claim}
use Rattle.pg_cert.specs.declared.limits.TheConstants.{MAX_CLAIM_NODES}
use Rattle.pg_cert.specs.declared.node.Node.{Node}
use Rattle.pg_game.specs.declared.game.Game.{Game}
use Rattle.pg_near.proofs.Counts.{count-parts}
use Rattle.pg_near.proofs.Places.{arranged-count, arranged-length, far-counted, near-counted}
use Rattle.pg_near.proofs.Places.{node-moved}
use Rattle.pg_near.specs.Near.{arranged, arranged_claim, arranged_nodes, is_near, place_at}
use Rattle.pg_near.specs.Near.{places_of}
use Rattle.pg_book_parts.specs.Chapters.{has_page, page_id}
use Rattle.pg_book.specs.Depths.{is_within, share_of}
use Rattle.pg_book.specs.Laws.{IsPaged, chapter_ids, number_in, page_in, pages_in}
use Rattle.pg_book.proofs.Members.{has-listed}

-- ---- limits

pub nodes-limits : (claims : List Claim)
    → All IsClaim claims
    → All (λ (claim : Claim). length claim.nodes ≤ MAX_CLAIM_NODES) claims
nodes-limits claims limits k d lt = (limits k d lt).few

pub few-nodes : (g : Game) (moves : ℕ) (c : Cert)
    → All (λ (claim : Claim). length claim.nodes ≤ MAX_CLAIM_NODES) c.claims
    → All (λ (claim : Claim). length claim.nodes ≤ MAX_CLAIM_NODES) (arranged g moves c).claims
few-nodes g moves c few =
    All-map (λ (claim : Claim). length claim.nodes ≤ MAX_CLAIM_NODES) (arranged_claim g moves)
    c.claims (λ k d lt. same (get_or c.claims k d) (few k d lt)) where
      same : (claim : Claim)
          → length claim.nodes ≤ MAX_CLAIM_NODES
          → length (arranged_claim g moves claim).nodes ≤ MAX_CLAIM_NODES
      same claim le =
          let long = arranged-length (is_near g moves) claim.nodes in omega (arith, le, long)

-- ---- numbers

-- a book without a depth has all nodes
all-within : (g : Game) (nodes : List Node)
    → length (filter (is_within g None) nodes) ≡ length nodes
all-within g [] = refl
all-within g (x ∷ xs) = ap suc (all-within g xs)

-- a limit that isn't reached
min-above : (a s n : ℕ) → a ≤ n → nat_le a (min s n) ≡ nat_le a s
min-above a s n le = elim (cases_lt s a) [
  | inl lt ↦ lt-leb a (min s n) (omega arith) ∙ sym (lt-leb a s lt)
  | inr ge ↦ le-leb a (min s n) (omega arith) ∙ sym (le-leb a s (omega arith))
]

and-false : (b : Bool) → (b && false) ≡ false
and-false true = refl
and-false false = refl

-- ---- pages

-- without a depth
module _ (g : Game) (claims i : ℕ) (claim : Claim) (k : ℕ) (node : Node)
    (at : slice_get claim.nodes k ≡ Some node) where
  whole-page : length claim.nodes - k ≡ page_in g None claim k
  whole-page =
      let lt = slice_get_within claim.nodes k node at in
      let rest = all-within g (drop (suc k) claim.nodes) in
      let long = length-drop (suc k) claim.nodes in
      omega (arith, lt, rest, long)

  whole-paged : IsPaged g None claims i claim k node
  whole-paged = record {
    there = at;
    page = λ is. whole-page;
    shown = ap₂ (λ a b. a && b)
        (lt-ltb k (length claim.nodes) (slice_get_within claim.nodes k node at))
        (ap (λ n. nat_le n (share_of claims)) whole-page);
  }

-- with a depth
module _ (g : Game) (moves claims i : ℕ) (claim : Claim) (k : ℕ) (node : Node)
    (at : slice_get claim.nodes k ≡ Some node) where
  abbrev near : Node → Bool
  near = is_near g moves

  abbrev place : ℕ
  place = place_at (places_of near claim.nodes) k

  abbrev count : ℕ
  count = length (arranged_nodes near claim.nodes)

  near-page : near node ≡ true → count - place ≡ page_in g (Some moves) claim k
  near-page is = ap (λ n. n - place) (arranged-length near claim.nodes)
      ∙ near-counted near claim.nodes k node at is

  far-page : near node ≡ false → length (filter near claim.nodes) < count - place
  far-page is =
      let long = arranged-length near claim.nodes in
      let far = far-counted near claim.nodes k node at is in
      omega (arith, long, far)

  few-pages : near node ≡ true
      → page_in g (Some moves) claim k ≤ length (filter near claim.nodes)
  few-pages is =
      let parts = count-parts near claim.nodes k node at in
      let one : ◌≡◌ {A = ℕ} (cond (near node) 1 0) 1 = ap (λ b. cond b 1 0) is in
      omega (arith, parts, one)

  shown-by : (b : Bool)
      → near node ≡ b
      → has_page (pages_in g (Some moves) claims i claim) place
      ≡ (b && nat_le (page_in g (Some moves) claim k) (share_of claims))
  shown-by true is =
      let page = near-page is in
      let all = arranged-count g moves claim.nodes in
      let lt : place < count = omega (arith, page) in
      ap₂ (λ a b. a && b) (lt-ltb place count lt)
      (ap (λ n. nat_le n (min (share_of claims)
      (length (filter near (arranged_nodes near claim.nodes))))) page
      ∙ min-above (page_in g (Some moves) claim k) (share_of claims)
      (length (filter near (arranged_nodes near claim.nodes)))
      (let few = few-pages is in omega (arith, few, all)))
  shown-by false is =
      let all = arranged-count g moves claim.nodes in
      let far = far-page is in
      let most = min (share_of claims)
      (length (filter near (arranged_nodes near claim.nodes))) in
      let beyond : most < count - place = omega (arith, all, far) in
      ap (λ b. nat_lt place count && b) (lt-leb (count - place) most beyond)
      ∙ and-false (nat_lt place count)

  near-paged : IsPaged g (Some moves) claims i claim k node
  near-paged = record {
    there = node-moved near claim.nodes k node at;
    page = λ is. near-page is;
    shown = shown-by (near node) refl;
  }

pub paged : (g : Game) (depth : Option ℕ) (claims i : ℕ) (claim : Claim) (k : ℕ) (node : Node)
    → slice_get claim.nodes k ≡ Some node
    → IsPaged g depth claims i claim k node
paged g None claims i claim k node at = whole-paged g claims i claim k node at
paged g (Some moves) claims i claim k node at = near-paged g moves claims i claim k node at

-- the page of a node that is shown is among those of its claim
pub near-listed : (g : Game) (depth : Option ℕ) (claims i : ℕ) (claim : Claim) (k : ℕ)
    (node : Node)
    → slice_get claim.nodes k ≡ Some node
    → is_within g depth node ≡ true
    → page_in g depth claim k ≤ share_of claims
    → Contains (chapter_ids (pages_in g depth claims i claim))
    (page_id (pages_in g depth claims i claim) (page_in g depth claim k))
near-listed g depth claims i claim k node at is le =
    let p = paged g depth claims i claim k node at in
    let pages = pages_in g depth claims i claim in
    let has : has_page pages (number_in g depth claim k) ≡ true =
    p.shown
    ∙ ap₂ (λ a b. a && b) is (le-leb (page_in g depth claim k) (share_of claims) le) in
    subst (λ n. Contains (chapter_ids pages) (page_id pages n)) (p.page is)
    (has-listed pages (number_in g depth claim k) has)
