-- Certificates with images whose pairs are cut short where two of them share a point, as those of
-- version 2 are: in no game are such pairs a pairing, nor are their images.
use Rattle.std.specs.Prelude.{◌≡◌, ℕ, ◌++◌, map, Result, Ok, Err}
use Rattle.pg_image.specs.Prelude.{Bytes, lines, short_node, Fault}
use Rattle.pg_image.specs.declared.cert.ImageCert.{ImageCert}
use Rattle.pg_image.specs.declared.cert.ImageClaim.{ImageClaim}
use Rattle.pg_image.specs.declared.node.ImageNode.{ImageNode}
use Rattle.pg_image.specs.declared.node.ImageNode.TheVariants.{Plain, Image}
use Rattle.pg_image.specs.ImageFile.{said}

abbrev pub short_image_node : ImageNode → ImageNode
short_image_node (Plain node) = Plain (short_node node)
short_image_node (Image x y turn left map child) = Image x y turn left map child

abbrev pub short_image_claim : ImageClaim → ImageClaim
short_image_claim claim = record claim { nodes = map short_image_node claim.nodes }

abbrev pub short_image_cert : ImageCert → ImageCert
short_image_cert c = record { claims = map short_image_claim c.claims }

-- a certificate cut short
abbrev pub short_image_result : Result ImageCert (Fault × ℕ) → Result ImageCert (Fault × ℕ)
short_image_result (Ok c) = Ok (short_image_cert c)
short_image_result (Err fault) = Err fault

-- with any bytes after them both texts have the same first fault, or say certificates that are
-- the same when they are cut short
abbrev pub AreAlike : Bytes → Bytes → Type 0
AreAlike text other = (more : Bytes) → short_image_result (said (lines (text ++ more)))
    ≡ short_image_result (said (lines (other ++ more)))
