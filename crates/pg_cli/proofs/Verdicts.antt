-- Judging, put together.
use Rattle.std.proofs.Common.{◌≡◌, ℕ, List, [], ◌∷◌, map, Option, Some, None, Result, Ok, Err, refl}
use Rattle.std.proofs.Common.{sym, ◌∙◌, ap, ap₂, subst}
use Rattle.std.specs.Prelude.{IfSome}
use Rattle.pg_cli.proofs.Common.{Goal, Side, ConsoleTold, Bytes, Holding, FilesTold, Game, Cert}
use Rattle.pg_cli.proofs.Common.{Claim, AreUnfolded, IsUnfolded, StandsFor, IsFound}
use Rattle.pg_cli.proofs.Common.{heads_of_evidence, image_head, Evidence, Plain, Folded, Verdict}
use Rattle.pg_cli.proofs.Common.{accepted_text, Check, Report, Expanded, Performs, Halt, Refused}
use Rattle.pg_cli.proofs.Common.{Stopped}
use Rattle.pg_image.specs.declared.cert.ImageClaim.{ImageClaim}
use Rattle.pg_judge.specs.Heads.{head_of}
use Rattle.pg_cli.specs.Checking.{AcceptsAll, RefusesCheck, acceptance, head_acceptance}
use Rattle.pg_cli.specs.Reading.{OpensBoth, read_of}
use Rattle.pg_cli.specs.Reporting.{RefusesReport, Reports}
use Rattle.pg_cli.specs.Run.{Carries, CarriesOn}
use Rattle.pg_cli.specs.Verdicts.{JudgesBoth}
use Rattle.pg_cli.proofs.Runs.{carries_check, carries_report}

-- ---- both

-- what stands against both was so read
pub opens_err : (h : Option Holding) (g c : Bytes) (halt : Halt)
    → JudgesBoth h g c (Err halt)
    → OpensBoth h g c (Err halt)
opens_err None g c halt judges = tt
opens_err (Some held) g c (Refused refusal) judges = judges
opens_err (Some held) g c (Stopped stop) judges = tt

-- ---- commands

module _ (files files' : FilesTold) (g c : Bytes) (judged : Game × Verdict)
    (before after : ConsoleTold) (same : files'.held ≡ files.held)
    (judges : JudgesBoth files.held g c (Ok judged)) where
  pub check_carries : (work : Expanded) (r : Result ℕ Halt)
      → ((played : Game) (e : Evidence) → IsFound played e judged.1
      → Performs (RefusesCheck (read_of played e)) (AcceptsAll (read_of played e)) before after r)
      → Carries (Some (Check g c)) work files files' before after r
  check_carries work r performs = go files.held refl judges where
    go : (h : Option Holding)
        → files.held ≡ h
        → JudgesBoth h g c (Ok judged)
        → Carries (Some (Check g c)) work files files' before after r
    go None is judges = subst (λ (h : Option Holding).
        IfSome h (λ held. CarriesOn held (Some (Check g c)) work files' before after r)) (sym is) tt
    go (Some held) is (e, read, found) = carries_check files files' g c (judged.0, e) before after
        same (subst (λ (h : Option Holding). OpensBoth h g c (Ok (judged.0, e))) (sym is) read) work
        r (performs judged.0 e found)

  pub report_carries : (work : Expanded) (r : Result ℕ Halt)
      → ((e : Evidence) → IsFound judged.0 e judged.1
      → Performs (RefusesReport (read_of judged.0 e)) (Reports (read_of judged.0 e)) before after r)
      → Carries (Some (Report g c)) work files files' before after r
  report_carries work r performs = go files.held refl judges where
    go : (h : Option Holding)
        → files.held ≡ h
        → JudgesBoth h g c (Ok judged)
        → Carries (Some (Report g c)) work files files' before after r
    go None is judges = subst (λ (h : Option Holding). IfSome h
        (λ held. CarriesOn held (Some (Report g c)) work files' before after r)) (sym is) tt
    go (Some held) is (e, read, found) = carries_report files files' g c (judged.0, e) before after
        same (subst (λ (h : Option Holding). OpensBoth h g c (Ok (judged.0, e))) (sym is) read) work
        r (performs e found)

-- ---- texts

-- a claim is accepted by what it says before its nodes
accept_heads : (claims : List Claim)
    → map head_acceptance (map head_of claims) ≡ map acceptance claims
accept_heads [] = refl
accept_heads (claim ∷ claims) =
    ap (λ (texts : List Bytes). acceptance claim ∷ texts) (accept_heads claims)

-- an unfolded claim says the same before its nodes
accept_unfolded : (g : Game) (c : ImageClaim) (claim : Claim) (origins : List ℕ)
    → IsUnfolded g c claim origins
    → head_acceptance (image_head c) ≡ acceptance claim
accept_unfolded g c claim origins u =
    ap (λ (turn : Side). accepted_text turn c.side c.goal) (sym u.turn)
    ∙ ap (λ (side : Side). accepted_text claim.turn side c.goal) (sym u.side)
    ∙ ap (λ (goal : Goal). accepted_text claim.turn claim.side goal) (sym u.goal)

accept_images : (g : Game) (cs : List ImageClaim) (claims : List Claim) (sources : List (List ℕ))
    → AreUnfolded g cs claims sources
    → map head_acceptance (map image_head cs) ≡ map acceptance claims
accept_images g [] [] [] h = refl
accept_images g [] [] (o ∷ os) h = absurd h
accept_images g [] (d ∷ ds) [] h = absurd h
accept_images g [] (d ∷ ds) (o ∷ os) h = absurd h
accept_images g (b ∷ bs) [] [] h = absurd h
accept_images g (b ∷ bs) [] (o ∷ os) h = absurd h
accept_images g (b ∷ bs) (d ∷ ds) [] h = absurd h
accept_images g (b ∷ bs) (d ∷ ds) (o ∷ os) h =
    ap₂ (λ (text : Bytes) (texts : List Bytes). text ∷ texts) (accept_unfolded g b d o h.0)
    (accept_images g bs ds os h.1)

-- the claims as the file has them are accepted by the same texts as those of the certificate for
-- which they stand
pub same_acceptances : (g : Game) (e : Evidence) (c : Cert)
    → StandsFor g e c
    → map head_acceptance (heads_of_evidence e) ≡ map acceptance c.claims
same_acceptances g (Plain plain) c stands =
    accept_heads plain.claims ∙ ap (λ (cert : Cert). map acceptance cert.claims) (sym stands)
same_acceptances g (Folded folded) c (u, unfolds, is) =
    accept_images g folded.claims u.cert.claims u.sources unfolds.unfolded.claims
    ∙ ap (λ (cert : Cert). map acceptance cert.claims) (sym is)
