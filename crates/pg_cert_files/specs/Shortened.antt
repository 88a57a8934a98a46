-- Certificates whose pairs are cut short where two of them share a point: in no game are such pairs
-- a pairing, so no more of them count than may be drawn, nor which points they share.
use Rattle.std.specs.Prelude.{◌≡◌, ℕ, ◌≤◌, ◌||◌, Bool, false, if◌then◌else◌, List, [], ◌∷◌}
use Rattle.std.specs.Prelude.{◌++◌, length, map, Result, Ok, Err, take}
use Rattle.pg_cert_files.specs.Prelude.{list_any, Bytes, lines, Pair, has_point, Cert, Claim, Body}
use Rattle.pg_cert_files.specs.Prelude.{Node, Part, Fault, MAX_MEMBERS}
use Rattle.pg_cert.specs.declared.node.Body.TheVariants as bodies
use Rattle.pg_cert.specs.declared.part.Part.TheVariants as parts
use Rattle.pg_cert_files.specs.CertFile.{Seen, seen, outcome, unless_faulty}
use Rattle.pg_cert_files.specs.Pieces.{IsFed, parts_told}
use Rattle.pg_cert_files.specs.declared.cert_state.CertReader.{CertReader}

-- ---- what is cut short

-- whether a point is in both pairs
abbrev pub share : Pair → Pair → Bool
share s t = has_point t.a s || has_point t.b s

-- whether a point is in two of the pairs
abbrev pub clash : List Pair → Bool
clash [] = false
clash (s ∷ pairs) = list_any (share s) pairs || clash pairs

-- one pair twice
abbrev pub twice : List Pair
twice = record { a = 0; b = 0 } ∷ record { a = 0; b = 0 } ∷ []

-- pairs of which two share a point are as one pair twice, followed by the first of them, as many as
-- there may be points
abbrev pub short_pairs : List Pair → List Pair
short_pairs pairs = if clash pairs then twice ++ take MAX_MEMBERS pairs else pairs

abbrev pub short_body : Body → Body
short_body (bodies.Pairs pairs) = bodies.Pairs (short_pairs pairs)
short_body body = body

abbrev pub short_node : Node → Node
short_node node = record node { body = short_body node.body }

abbrev pub short_part : Part → Part
short_part (parts.Claim turn side goal nodes) = parts.Claim turn side goal nodes
short_part (parts.Node node) = parts.Node (short_node node)

abbrev pub short_claim : Claim → Claim
short_claim claim = record claim { nodes = map short_node claim.nodes }

abbrev pub short_cert : Cert → Cert
short_cert cert = record cert { claims = map short_claim cert.claims }

-- ---- what a text says

-- the certificate that lines say, or their first fault
abbrev pub said : Seen → Result Cert (Fault × ℕ)
said s = unless_faulty (outcome s) s.progress.version s.parts

-- the same of a text, however long it is
unfoldable pub says : Bytes → Result Cert (Fault × ℕ)
says text = said (seen (lines text))

-- a certificate cut short
abbrev pub short_result : Result Cert (Fault × ℕ) → Result Cert (Fault × ℕ)
short_result (Ok cert) = Ok (short_cert cert)
short_result (Err fault) = Err fault

-- with any bytes behind them both texts have the same first fault, or say certificates that are
-- the same when they are cut short
abbrev pub AreAlike : Bytes → Bytes → Type 0
AreAlike text other =
    (more : Bytes) → short_result (says (text ++ more)) ≡ short_result (says (other ++ more))

-- ---- a reader that forgets what no certificate needs

-- some text is the one that the reader has been fed
pub record HasBeenFed (r : CertReader) : Type 0 where
  pub text : Bytes
  pub fed : IsFed r text

-- The reader is as if it had been fed a text that is like this one and no longer, and that makes
-- the same parts so far.
pub record IsFedShort (r : CertReader) (text : Bytes) : Type 0 where
  pub short : Bytes
  pub fed : IsFed r short
  pub parts : parts_told short ≡ parts_told text
  pub fewer : length short ≤ length text
  pub alike : AreAlike text short
