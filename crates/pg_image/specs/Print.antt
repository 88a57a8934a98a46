-- The printed text of a certificate with images.
use Rattle.std.specs.Prelude.{ℕ, List, [], ◌∷◌, ◌++◌, length, codes}
use Rattle.pg_image.specs.Prelude.{FinSet, decimal, flat_map, nat_cmp, BAR, LINE_FEED, Side, Bytes}
use Rattle.pg_image.specs.Prelude.{spaced, set_words, turn_word, node_text, count_words, GridMap}
use Rattle.pg_image.specs.Prelude.{number_of}
use Rattle.pg_base.specs.Side.{side_word}
use Rattle.pg_base.specs.Goal.{goal_word}
use Rattle.pg_image.specs.declared.node.ImageNode.{ImageNode}
use Rattle.pg_image.specs.declared.node.ImageNode.TheVariants.{Plain, Image}
use Rattle.pg_image.specs.declared.cert.ImageClaim.{ImageClaim}
use Rattle.pg_image.specs.declared.cert.ImageCert.{ImageCert}

-- the words of the body of an image: the number of the map and that of the other node
abbrev pub image_words : GridMap → ℕ → List Bytes
image_words map child = codes "image" ∷ decimal (number_of map) ∷ decimal child ∷ []

-- the three fields of a position, each with a bar behind it
unfoldable pub position_fields : FinSet nat_cmp → FinSet nat_cmp → Side → ℕ → Bytes
position_fields x y turn left =
    spaced (set_words x) ++ BAR ∷ (spaced (set_words y) ++ BAR ∷ (turn_word turn left ++ BAR ∷ []))

-- the line of an image with its line feed
abbrev pub image_text : FinSet nat_cmp → FinSet nat_cmp → Side → ℕ → GridMap → ℕ → Bytes
image_text x y turn left map child =
    position_fields x y turn left ++ (spaced (image_words map child) ++ LINE_FEED ∷ [])

-- a node line with its line feed
abbrev pub image_node_text : ImageNode → Bytes
image_node_text (Plain node) = node_text node
image_node_text (Image x y turn left map child) = image_text x y turn left map child

-- the words of a claim line
abbrev pub image_claim_words : ImageClaim → List Bytes
image_claim_words c = codes "claim" ∷ side_word c.turn ∷ side_word c.side ∷ goal_word c.goal ∷ []

-- a claim line, its `nodes` line and its node lines
unfoldable pub image_claim_text : ImageClaim → Bytes
image_claim_text c = spaced (image_claim_words c) ++ LINE_FEED
    ∷ (spaced (count_words (length c.nodes)) ++ LINE_FEED ∷ flat_map image_node_text c.nodes)

-- the first line, which names the version
abbrev pub image_header : Bytes
image_header = codes "posgame-cert 3"

-- the text of a certificate
unfoldable pub printed_image_certificate : ImageCert → Bytes
printed_image_certificate c = image_header ++ LINE_FEED ∷ flat_map image_claim_text c.claims
