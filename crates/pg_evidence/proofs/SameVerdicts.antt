-- What judging finds of a certificate with images is so of one that is the same when it is cut
-- short.
use Rattle.std.proofs.Common.{◌≡◌, ◌∙◌, ℕ, List, [], ◌∷◌, map, Result, Ok, Err, refl, sym}
use Rattle.std.proofs.Common.{ap, ap₂, subst}
use Rattle.std.specs.Prelude.{IsErrAnd}
use Rattle.pg_evidence.proofs.Common.{Bytes, Cert, Fault, Game, ImageCert, ImageClaim}
use Rattle.pg_evidence.proofs.Common.{IsImageWithinLimits, IsValid, image_certificate, length-map}
use Rattle.pg_image.specs.Gathering.{said_within}
use Rattle.pg_image.specs.Shortened.{AreAlike, short_image_cert, short_image_claim}
use Rattle.pg_image.specs.Shortened.{short_image_node, short_image_result}
use Rattle.pg_image.proofs.Gatherings.{certificates_alike}
use Rattle.pg_image.proofs.Within.{read_within}
use Rattle.pg_judge.specs.declared.claim_head.ClaimHead.{ClaimHead}
use Rattle.pg_judge.proofs.ShortCerts.{fault_alike, valid_alike}
use Rattle.pg_evidence.specs.Standing.{CameFrom}
use Rattle.pg_evidence.specs.Verdicts.{IsFound, image_head}
use Rattle.pg_evidence.specs.declared.evidence.Evidence.TheVariants.{Folded}
use Rattle.pg_evidence.specs.declared.verdict.Verdict.{Verdict}
use Rattle.pg_evidence.specs.declared.verdict.Verdict.TheVariants.{Valid, Faulty, FaultyImage}
use Rattle.pg_evidence.proofs.SameImages.{claims_of, image_fault_same}
use Rattle.pg_evidence.proofs.SameUnfoldings.{unfolds_too}

-- ---- what claims say before their nodes

head_short : (c : ImageClaim) → image_head (short_image_claim c) ≡ image_head c
head_short c = ap (λ (count : ℕ). record {
  turn = c.turn;
  side = c.side;
  goal = c.goal;
  nodes = count;
}) (length-map c.nodes short_image_node)

heads_short : (cs : List ImageClaim)
    → map image_head (map short_image_claim cs) ≡ map image_head cs
heads_short [] = refl
heads_short (c ∷ cs) =
    ap₂ (λ (h : ClaimHead) (hs : List ClaimHead). h ∷ hs) (head_short c) (heads_short cs)

heads_same : (c d : ImageCert)
    → short_image_cert c ≡ short_image_cert d
    → map image_head d.claims ≡ map image_head c.claims
heads_same c d same = sym (heads_short d.claims)
    ∙ ap (map image_head) (sym (claims_of c d same))
    ∙ heads_short c.claims

-- ---- what is found

pub found_same : (g : Game) (c d : ImageCert)
    → short_image_cert c ≡ short_image_cert d
    → IsImageWithinLimits c
    → (verdict : Verdict) → IsFound g (Folded d) verdict
    → IsFound g (Folded c) verdict
found_same g c d same limits (Valid heads) ((cert, (u, unfolds, is), valid), said) =
    let too = unfolds_too g c d u same limits unfolds in
    let own = valid_alike g too.own.cert u.cert too.short
    (subst (λ (k : Cert). IsValid g k) is valid) in
    ((too.own.cert, (too.own, too.unfolds, refl), own), said ∙ heads_same c d same)
found_same g c d same limits (Faulty claim node why) (u, unfolds, place, first, from) =
    let too = unfolds_too g c d u same limits unfolds in (
      too.own,
      too.unfolds,
      place,
      fault_alike g too.own.cert u.cert too.short claim place why first,
      subst (λ (sources : List (List ℕ)). CameFrom sources claim place node) (sym too.sources) from,
    )
found_same g c d same limits (FaultyImage claim node why) h =
    image_fault_same g d c (sym same) claim node why h

-- ---- what a text says that is like another

-- the certificate that the text says
pub record SaysLike (text : Bytes) (d : ImageCert) : Type 0 where
  pub cert : ImageCert
  pub says : image_certificate text ≡ Ok cert
  pub same : short_image_cert cert ≡ short_image_cert d
  pub limits : IsImageWithinLimits cert

says_by : (text : Bytes) (d : ImageCert) (r : Result ImageCert (Fault × ℕ))
    → image_certificate text ≡ r
    → short_image_result r ≡ short_image_result (Ok d)
    → SaysLike text d
says_by text d (Ok c) says e =
    record { cert = c; says = says; same = cc; limits = read_within text c says }
says_by text d (Err bad) says e = absurd cc

pub says_like : (text short : Bytes) (d : ImageCert)
    → AreAlike text short
    → said_within text short ≡ Ok d
    → SaysLike text d
says_like text short d alike is = says_by text d (image_certificate text) refl
    (certificates_alike text short alike ∙ ap short_image_result is)

error_by : (P : (Fault × ℕ) → Type 0) (r s : Result ImageCert (Fault × ℕ))
    → short_image_result r ≡ short_image_result s
    → IsErrAnd s P
    → IsErrAnd r P
error_by P (Err a) (Err b) e h = let same : a ≡ b = cc in subst P (sym same) h
error_by P (Err a) (Ok d) e h = absurd h
error_by P (Ok c) (Err b) e h = absurd cc
error_by P (Ok c) (Ok d) e h = absurd h

pub fails_like : (text short : Bytes) (P : (Fault × ℕ) → Type 0)
    → AreAlike text short
    → IsErrAnd (said_within text short) P
    → IsErrAnd (image_certificate text) P
fails_like text short P alike h = error_by P (image_certificate text) (said_within text short)
    (certificates_alike text short alike) h
