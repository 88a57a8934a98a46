-- Checks and plays of a family's games on a console.
use Rattle.std.proofs.Common.{◌≡◌, ℕ, List, [], map, Option, Result, Ok, Err, refl, sym, subst, inl}
use Rattle.std.proofs.Common.{inr}
use Rattle.pg_families.proofs.Common.{Side, ConsoleTold, Grows, Bytes, FilesTold, Entry, Said}
use Rattle.pg_families.proofs.Common.{Write, Refusal, NoClaim, DONE, Contender, End, Finished}
use Rattle.pg_families.proofs.Common.{Failed, Starved, Performs, stop_end, IsPlay, OpensTwo, Runs}
use Rattle.pg_families.proofs.Common.{IsCut, Halt, Refused, Stopped, not_opened_two, opened_two}
use Rattle.pg_families.proofs.Common.{performs_more, runs_halt, runs_read, silent, talked_texts}
use Rattle.pg_io.specs.declared.stop.Stop.{Stop}
use Rattle.pg_families.specs.Judged.{AcceptsValid, PlaysValid, RefusesChecked, RefusesPlayed}

-- what stands against work was found, and nothing was said
pub refused_here : (Against : Refusal → Type 0) (Act : List Entry → End → Type 0)
    (console : ConsoleTold) (refusal : Refusal)
    → Against refusal
    → Performs Against Act console console (Err (Refused refusal))
refused_here Against Act console refusal against =
    (against, silent Starved console console refl refl)

module _ {G E C : Type 0} (entry : G → E) (IsValid : G → C → Type 0)
    (Rejects : G → C → Refusal → Type 0) (g : G) (c : C) (valid : IsValid g c) where
  -- the texts that accept all claims were said
  pub accepted_all : (acceptances : C → List Bytes) (before after : ConsoleTold)
      → Grows before.log after.log (map Said (acceptances c))
      → after.left ≡ before.left
      → Performs (RefusesChecked entry Rejects (Ok (entry g, c)))
      (AcceptsValid entry IsValid acceptances (Ok (entry g, c))) before after (Ok DONE)
  accepted_all acceptances before after says left = (
    map Said (acceptances c),
    (g, refl, valid, (refl, refl)),
    talked_texts (Finished DONE) before after (acceptances c) says left,
  )

  -- the first of them were said, and then a write has failed
  pub accepted_cut : (acceptances : C → List Bytes) (before after : ConsoleTold) (stop : Stop)
      → stop ≡ Write
      → IsCut (acceptances c) before.log after.log
      → after.left ≡ before.left
      → Performs (RefusesChecked entry Rejects (Ok (entry g, c)))
      (AcceptsValid entry IsValid acceptances (Ok (entry g, c))) before after (Err (Stopped stop))
  accepted_cut acceptances before after stop write (front, rest, whole, says) left =
      subst (λ (s : Stop). Performs (RefusesChecked entry Rejects (Ok (
        entry g,
        c,
      ))) (AcceptsValid entry IsValid acceptances (Ok (entry g, c))) before after (Err (Stopped s)))
      (sym write) (
        map Said front,
        inr (g, refl, valid, (front, rest, whole, refl)),
        talked_texts Failed before after front says left,
      )

  -- the side's claim was said and played
  pub played_valid : (Has Lacks : G → C → Type 0) (player : G → Contender) (side : Side)
      (before after : ConsoleTold) (r : Result ℕ Halt)
      → Has g c
      → Performs (λ _. ⊥) (IsPlay (player g)) before after r
      → Performs (RefusesPlayed entry IsValid Rejects Lacks side (Ok (entry g, c)))
      (PlaysValid entry IsValid Has player (Ok (entry g, c))) before after r
  played_valid Has Lacks player side before after r has performs = performs_more (λ _. ⊥)
      (RefusesPlayed entry IsValid Rejects Lacks side (Ok (entry g, c))) (IsPlay (player g))
      (PlaysValid entry IsValid Has player (Ok (entry g, c))) (λ refusal none. absurd none)
      (λ entries end plays. (g, refl, valid, has, plays)) before after r performs

  -- there is no claim of the side
  pub played_unclaimed : (Has Lacks : G → C → Type 0) (player : G → Contender) (side : Side)
      (console : ConsoleTold)
      → Lacks g c
      → Performs (RefusesPlayed entry IsValid Rejects Lacks side (Ok (entry g, c)))
      (PlaysValid entry IsValid Has player (Ok (entry g, c))) console console
      (Err (Refused (NoClaim side)))
  played_unclaimed Has Lacks player side console none =
      refused_here (RefusesPlayed entry IsValid Rejects Lacks side (Ok (entry g, c)))
      (PlaysValid entry IsValid Has player (Ok (entry g, c))) console (NoClaim side)
      (g, refl, inr (valid, none, refl))

-- ---- behind reading a game and a certificate

module _ {A B : Type 0} (view : A → B) (read : Option Bytes → Option Bytes → Result B Halt)
    (Against : Result B Halt → Refusal → Type 0) (Act : Result B Halt → List Entry → End → Type 0)
    (game certificate : Bytes) (files mid : FilesTold) (same : mid.held ≡ files.held) where
  -- what the names hold stands against the work, or is worked on
  abbrev RunsOnBoth : ConsoleTold → ConsoleTold → Result ℕ Halt → Type 0
  RunsOnBoth before after r = Runs (λ held. Against (read (held game) (held certificate)))
      (λ held done end. Act (read (held game) (held certificate)) done.entries end
      × (done.stored ≡ [])) files mid before after r

  pub runs_unread : ((refusal : Refusal) → Against (Err (Refused refusal)) refusal)
      → (console : ConsoleTold) (halt : Halt)
      → OpensTwo view read files.held game certificate (Err halt)
      → RunsOnBoth console console (Err halt)
  runs_unread against console halt opens =
      runs_halt files mid same (λ held. Against (read (held game) (held certificate)))
      (λ held done end. Act (read (held game) (held certificate)) done.entries end
      × (done.stored ≡ [])) console halt
      (λ held refusal is this. subst (λ (x : Result B Halt). Against x refusal)
      (sym (not_opened_two view read files.held game certificate held is halt refusal this opens))
      (against refusal))

  pub runs_both : (x : A)
      → OpensTwo view read files.held game certificate (Ok x)
      → (before after : ConsoleTold) (r : Result ℕ Halt)
      → Performs (Against (Ok (view x))) (Act (Ok (view x))) before after r
      → RunsOnBoth before after r
  runs_both x opens =
      runs_read files mid same Against Act (λ held. read (held game) (held certificate))
      (Ok (view x)) (λ held is. opened_two view read files.held game certificate held is x opens)
