-- The identities that the sections of a book have.
use Rattle.std.specs.Prelude.{◌≡◌, ℕ, suc, ◌+◌, true, ◌&&◌, nat_le, List, [], ◌∷◌, ◌++◌, drop}
use Rattle.std.specs.Prelude.{filter, length, map, Option, Some, None, slice_get}
use Rattle.std.specs.List.{flat_map, range_with_len}
use Rattle.pg_base.specs.Texts.{Bytes}
use Rattle.pg_cert.specs.declared.cert.Claim.{Claim}
use Rattle.pg_cert.specs.declared.node.Node.{Node}
use Rattle.pg_game.specs.declared.game.Game.{Game}
use Rattle.pg_near.specs.Near.{is_near, moved, place_at, places_of}
use Rattle.pg_book_parts.specs.Chapters.{has_page, page_id, page_of, shown}
use Rattle.pg_book_parts.specs.declared.chapter.Chapter.{Chapter}
use Rattle.pg_book.specs.Books.{chapter_of}
use Rattle.pg_book.specs.Depths.{is_within, ordered_claim, share_of}
use Rattle.pg_book.specs.declared.front.TheConstants.{LEGEND}

-- those of a claim
abbrev pub chapter_ids : Chapter → List Bytes
chapter_ids chapter = map (λ i. page_id chapter (i + 1)) (range_with_len 0 (shown chapter))

abbrev pub claim_ids : Game → Option ℕ → ℕ → ℕ → Option Claim → List Bytes
claim_ids g depth claims i None = []
claim_ids g depth claims i (Some claim) = chapter_ids (chapter_of g depth claims i claim)

-- those of all claims, and the legend
abbrev pub book_ids : Game → Option ℕ → List Claim → List Bytes
book_ids g depth claims =
    flat_map (λ i. claim_ids g depth (length claims) i (slice_get claims i))
    (range_with_len 0 (length claims))
    ++ LEGEND.now ∷ []

-- ---- nodes

-- the number in a book of the node of number k of a claim
abbrev pub number_in : Game → Option ℕ → Claim → ℕ → ℕ
number_in g None claim k = k
number_in g (Some moves) claim k = place_at (places_of (is_near g moves) claim.nodes) k

-- a node in a book, where it names its children by their numbers there
abbrev pub node_in : Game → Option ℕ → Claim → Node → Node
node_in g None claim node = node
node_in g (Some moves) claim node = moved (places_of (is_near g moves) claim.nodes) node

-- the page that a node within the depth has by its order: one more than there are such nodes after
-- it
abbrev pub page_in : Game → Option ℕ → Claim → ℕ → ℕ
page_in g depth claim k = suc (length (filter (is_within g depth) (drop (suc k) claim.nodes)))

-- the pages of the claim of number i, of so many claims
abbrev pub pages_in : Game → Option ℕ → ℕ → ℕ → Claim → Chapter
pages_in g depth claims i claim = chapter_of g depth claims i (ordered_claim g depth claim)

-- where the node of number k is in a book, and whether it is shown: exactly if it is within the
-- depth, and its page within the claim's share
pub record IsPaged (g : Game) (depth : Option ℕ) (claims i : ℕ) (claim : Claim) (k : ℕ)
    (node : Node) : Type 0 where
  pub there : slice_get (ordered_claim g depth claim).nodes (number_in g depth claim k)
      ≡ Some (node_in g depth claim node)
  pub page : is_within g depth node ≡ true
      → page_of (pages_in g depth claims i claim) (number_in g depth claim k)
      ≡ page_in g depth claim k
  pub shown : has_page (pages_in g depth claims i claim) (number_in g depth claim k)
      ≡ (is_within g depth node && nat_le (page_in g depth claim k) (share_of claims))
