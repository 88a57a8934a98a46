-- A check on a console.
use Rattle.std.proofs.Common.{◌≡◌, ℕ, List, map, Ok, Err, refl, sym, ◌∙◌, ap, subst, inl, inr}
use Rattle.pg_cli.proofs.Common.{ConsoleTold, Grows, Bytes, Said, Stop, Write, Game, ClaimHead}
use Rattle.pg_cli.proofs.Common.{HasFault, HasImageFault, ShowsValid, heads_of_evidence, Evidence}
use Rattle.pg_cli.proofs.Common.{Rejected, RejectedImage, DONE, IsCut, Finished, Failed, Starved}
use Rattle.pg_cli.proofs.Common.{Performs, Refused, Stopped, silent, talked_texts}
use Rattle.pg_cli.specs.Checking.{acceptance, head_acceptance, RefusesCheck, AcceptsAll}
use Rattle.pg_cli.specs.Reading.{read_of}
use Rattle.pg_cli.proofs.Verdicts.{same_acceptances}

module _ (g : Game) (e : Evidence) (heads : List ClaimHead) (shows : ShowsValid g e)
    (same : heads ≡ heads_of_evidence e) where
  texts : map head_acceptance heads ≡ map acceptance shows.0.claims
  texts = ap (map head_acceptance) same ∙ same_acceptances g e shows.0 shows.1

  -- the texts that accept all claims of a valid certificate were said
  pub judged_all : (before after : ConsoleTold)
      → Grows before.log after.log (map Said (map head_acceptance heads))
      → after.left ≡ before.left
      → Performs (RefusesCheck (read_of g e)) (AcceptsAll (read_of g e)) before after (Ok DONE)
  judged_all before after says left =
      let says_all =
      subst (λ (l : List Bytes). Grows before.log after.log (map Said l)) texts says in (
        map Said (map acceptance shows.0.claims),
        (g, shows.0, refl, shows.1, shows.2, (refl, refl)),
        talked_texts (Finished DONE) before after (map acceptance shows.0.claims) says_all left,
      )

  -- the first of them were said, and then a write has failed
  pub judged_cut : (before after : ConsoleTold) (stop : Stop)
      → stop ≡ Write
      → IsCut (map head_acceptance heads) before.log after.log
      → after.left ≡ before.left
      → Performs (RefusesCheck (read_of g e)) (AcceptsAll (read_of g e)) before after
      (Err (Stopped stop))
  judged_cut before after stop write cut left =
      let (front, rest, whole, says) =
      subst (λ (l : List Bytes). IsCut l before.log after.log) texts cut in
      subst
      (λ (s : Stop). Performs (RefusesCheck (read_of g e)) (AcceptsAll (read_of g e)) before after
      (Err (Stopped s))) (sym write) (
        map Said front,
        inr (g, shows.0, refl, shows.1, shows.2, (front, rest, whole, refl)),
        talked_texts Failed before after front says left,
      )

-- the certificate for which it stands is rejected
pub judged_rejects : (g : Game) (e : Evidence) (claim node why : ℕ) (console : ConsoleTold)
    → HasFault g e claim node why
    → Performs (RefusesCheck (read_of g e)) (AcceptsAll (read_of g e)) console console
    (Err (Refused (Rejected claim node why)))
judged_rejects g e claim node why console fault =
    ((g, refl, inr (claim, node, why, fault, refl)), silent Starved console console refl refl)

-- it stands for no certificate
pub judged_unmade : (g : Game) (e : Evidence) (claim node why : ℕ) (console : ConsoleTold)
    → HasImageFault g e claim node why
    → Performs (RefusesCheck (read_of g e)) (AcceptsAll (read_of g e)) console console
    (Err (Refused (RejectedImage claim node why)))
judged_unmade g e claim node why console fault =
    ((g, refl, inl (claim, node, why, fault, refl)), silent Starved console console refl refl)
