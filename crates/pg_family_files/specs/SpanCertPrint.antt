-- The printed text of a connectivity game's certificate, and the ranges of what is printed.
use Rattle.std.specs.Prelude.{◌≡◌, ℕ, ◌<◌, ◌≤◌, true, List, [], ◌∷◌, ◌++◌, length, map, codes}
use Rattle.std.specs.Prelude.{Option, Some, None, IfSome}
use Rattle.pg_family_files.specs.Prelude.{FinSet, contains, decimal, All, flat_map, nat_cmp}
use Rattle.pg_family_files.specs.Prelude.{side_word, Bytes, spelled, set_words, MAX_CLAIMS}
use Rattle.pg_family_files.specs.Prelude.{SpanBody, SpanCert, SpanClaim}
use Rattle.pg_span.specs.declared.cert.SpanBody.TheVariants as bodies
use Rattle.pg_family_files.specs.declared.cert_limits.TheConstants.{MAX_SPAN_NUMBER}

-- ---- the ranges

-- no edge of the set is above the limit
abbrev pub AreSmall : FinSet nat_cmp → Type 0
AreSmall s = (v : ℕ) → contains s v ≡ true → v ≤ MAX_SPAN_NUMBER

-- no number of the body is above the limit
abbrev pub IsSmallBody : SpanBody → Type 0
IsSmallBody (bodies.Trees first a1 a2) =
    IfSome first (λ v. v ≤ MAX_SPAN_NUMBER) × AreSmall a1 × AreSmall a2
IsSmallBody (bodies.Parts ns) = All (λ n. n ≤ MAX_SPAN_NUMBER) ns

-- one to eight claims, and no number above the limit
pub record IsWithinRanges (c : SpanCert) : Type 0 where
  pub some : 0 < length c.claims
  pub few : length c.claims ≤ MAX_CLAIMS
  pub numbers : All (λ (claim : SpanClaim). IsSmallBody claim.body) c.claims

-- ---- the text

-- the words of the first line
abbrev pub header : List Bytes
header = codes "posgame-span-cert" ∷ codes "1" ∷ []

-- the words of a claim line
abbrev pub claim_words : SpanClaim → List Bytes
claim_words claim = codes "claim" ∷ side_word claim.turn ∷ side_word claim.side ∷ []

-- the edge that is claimed first, where there is one
abbrev pub first_words : Option ℕ → List Bytes
first_words None = []
first_words (Some v) = codes "first" ∷ decimal v ∷ []

-- the words of a body: trees with a slash between the two sets, or the numbers of the parts
abbrev pub body_words : SpanBody → List Bytes
body_words (bodies.Trees first a1 a2) =
    codes "trees" ∷ (first_words first ++ (set_words a1 ++ codes "/" ∷ set_words a2))
body_words (bodies.Parts ns) = codes "parts" ∷ map decimal ns

-- the two lines of a claim, each as its words
abbrev pub claim_lines : SpanClaim → List (List Bytes)
claim_lines claim = claim_words claim ∷ body_words claim.body ∷ []

-- the lines of a certificate
abbrev pub printed_lines : SpanCert → List (List Bytes)
printed_lines c = header ∷ flat_map claim_lines c.claims

-- the text of a certificate
unfoldable pub printed_span : SpanCert → Bytes
printed_span c = flat_map spelled (printed_lines c)
