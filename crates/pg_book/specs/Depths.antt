-- How far a book reads on from the game's start, counted in points that are claimed.
use Rattle.std.specs.Prelude.{ℕ, ◌/◌, Bool, true, min, max, List, [], ◌++◌, codes, decimal, filter}
use Rattle.std.specs.Prelude.{length, Option, Some, None}
use Rattle.pg_base.specs.Texts.{Bytes}
use Rattle.pg_cert.specs.declared.cert.Cert.{Cert}
use Rattle.pg_cert.specs.declared.cert.Claim.{Claim}
use Rattle.pg_cert.specs.declared.node.Node.{Node}
use Rattle.pg_game.specs.declared.game.Game.{Game}
use Rattle.pg_near.specs.Near.{arranged, arranged_claim, is_near}
use Rattle.pg_page.specs.declared.piece.Piece.{Piece}
use Rattle.pg_book_parts.specs.Elements.{paragraph}
use Rattle.pg_book.specs.declared.front.TheConstants.{MAX_SECTIONS}

-- whether a node's position is within the depth, if there is one
abbrev pub is_within : Game → Option ℕ → Node → Bool
is_within g None node = true
is_within g (Some moves) node = is_near g moves node

-- the claim and the certificate whose last nodes a book shows: with a depth, the nodes within it
-- come last
abbrev pub ordered_claim : Game → Option ℕ → Claim → Claim
ordered_claim g None claim = claim
ordered_claim g (Some moves) claim = arranged_claim g moves claim

abbrev pub ordered : Game → Option ℕ → Cert → Cert
ordered g None c = c
ordered g (Some moves) c = arranged g moves c

-- how many pages each of so many claims may have: they share the room of the book
abbrev pub share_of : ℕ → ℕ
share_of claims = MAX_SECTIONS / max claims 1

-- how many pages a claim may have: with a depth, no more than it has nodes within it
abbrev pub room_of : Game → Option ℕ → ℕ → Claim → ℕ
room_of g None claims claim = share_of claims
room_of g (Some moves) claims claim =
    min (share_of claims) (length (filter (is_near g moves) claim.nodes))

-- what is said of the depth, if there is one
abbrev pub depth_words : ℕ → Bytes
depth_words moves = codes "Moves shown: "
    ++ (decimal moves ++ codes ". Later positions are not in this file.")

abbrev pub depth_pieces : Option ℕ → List Piece
depth_pieces None = []
depth_pieces (Some moves) = paragraph (depth_words moves)
