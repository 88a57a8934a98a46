-- The file of a folded certificate.
use Rattle.std.proofs.Common.{◌≡◌, ◌∙◌, List, [], ◌∷◌, map, true, refl, ap, ap₂, inl}
use Rattle.pg_results.proofs.Common.{AllZip, Goal, Side, IsValid, Cert, Claim, IsSameClaim}
use Rattle.pg_results.proofs.Common.{FoldsWell}
use Rattle.pg_results.proofs.Common.{Game, IsImageWithinLimits, printed_image_certificate}
use Rattle.pg_results.proofs.Common.{ImageCert}
use Rattle.pg_results.proofs.Common.{Bytes, Heading, heading, AreSound, IsUnfoldedCert, Unfolded}
use Rattle.pg_results.specs.Results.{IsFileOf}

abbrev headed : Side → Side → Goal → Heading
headed turn side goal = record { turn = turn; side = side; goal = goal }

same_heading : (c d : Claim) → IsSameClaim c d → heading d ≡ heading c
same_heading c d h =
    ap (λ t. headed t d.side d.goal) h.turn ∙ ap₂ (λ s goal. headed c.turn s goal) h.side h.goal

same_headings : (cs ds : List Claim) → AllZip IsSameClaim cs ds → map heading ds ≡ map heading cs
same_headings [] [] h = refl
same_headings [] (d ∷ ds) h = absurd h
same_headings (c ∷ cs) [] h = absurd h
same_headings (c ∷ cs) (d ∷ ds) h =
    ap₂ (λ a others. a ∷ others) (same_heading c d h.0) (same_headings cs ds h.1)

-- what is stored of a certificate that folds well
pub folded_file : (g : Game) (c : Cert) (d : ImageCert) (text : Bytes)
    → FoldsWell g c d
    → AreSound g d.claims
    → IsImageWithinLimits d
    → ((u : Unfolded) → IsUnfoldedCert g d u → IsValid g u.cert)
    → ((u : Unfolded) → IsUnfoldedCert g d u → AllZip IsSameClaim c.claims u.cert.claims)
    → text ≡ printed_image_certificate d
    → IsFileOf true g c text
folded_file g c d text well sound limits valid same is = inl (
  d,
  record {
    well = well;
    faultless = record { sound = sound; room = well.room };
    limits = limits;
    valid = valid;
    claims = λ u unfolded. same_headings c.claims u.cert.claims (same u unfolded);
  },
  is,
)
