-- Runs that split a game, put together.
use Rattle.std.proofs.Common.{◌≡◌, ◌∙◌, ◌++◌, ℕ, List, [], ◌∷◌, Option, Some, None, Result}
use Rattle.std.proofs.Common.{Ok, Err, inl, inr, refl, subst, sym}
use Rattle.std.specs.Prelude.{IfSome, reverse}
use Rattle.std.proofs.lemmas.List.{append-nil}
use Rattle.pg_files.specs.GameFile.{Entry as GameEntry}
use Rattle.pg_files.specs.Views.{entry}
use Rattle.pg_game.specs.declared.game.Game.{Game}
use Rattle.pg_io.specs.Causes.{Faults, Rose}
use Rattle.pg_io.specs.Console.{ConsoleTold, Grows}
use Rattle.pg_io.specs.Files.{Bytes, FilesTold, Holding, Making}
use Rattle.pg_io.specs.declared.entry.Entry.TheVariants.{Said}
use Rattle.pg_io.specs.declared.stop.Stop.{Stop}
use Rattle.pg_io.specs.declared.stop.Stop.TheVariants.{Memory, Read, Write}
use Rattle.pg_messages.specs.declared.refusal.Refusal.{Refusal}
use Rattle.pg_messages.specs.declared.statuses.TheConstants.{DONE, REFUSED}
use Rattle.pg_split.specs.declared.numbering.Split.{Split}
use Rattle.pg_talk.proofs.Runs.{kept, silent, talked_texts}
use Rattle.pg_talk.specs.Done.{Does, Done, End, Finished, Follows, Starved}
use Rattle.pg_talk.specs.Done.{nothing, stop_end, talk}
use Rattle.pg_talk.specs.Opening.{OpensGame, game_held}
use Rattle.pg_talk.specs.Runs.{Runs}
use Rattle.pg_talk.specs.declared.halt.Halt.{Halt}
use Rattle.pg_talk.specs.declared.halt.Halt.TheVariants.{Refused, Stopped}
use Rattle.pg_splitting.proofs.Opened.{lost_so}
use Rattle.pg_splitting.specs.Prepared.{IsDeclined, IsPreparedAs}
use Rattle.pg_splitting.specs.SplitFiles.{StoresAll, split_files}
use Rattle.pg_splitting.specs.SplitRuns.{DeliversSplit, IsCalm, IsLost, Splits, SplitsAt}
use Rattle.pg_splitting.specs.SplitRuns.{SplitsGame, TellsDecline, done_so}
use Rattle.pg_splitting.specs.Texts.{decline_text, split_text}
use Rattle.pg_splitting.specs.declared.preparing.Decline.{Decline}

-- ---- what is split is delivered

module _ (folder : Bytes) (g : Game) (split : Split) (files files' : FilesTold) where
  first_at : (front rest : List Making) (stop : Stop)
      → split_files folder g split ≡ front ++ rest
      → DeliversSplit folder g split (done_so [] (reverse front)) (stop_end stop)
  first_at front rest Read is = (front, rest, is, refl)
  first_at front rest Write is = (front, rest, is, refl)
  first_at front rest Memory is = (front, rest, is, refl)

  -- the work was stopped while the files were stored
  pub store_stopped : (console : ConsoleTold) (stop : Stop)
      → StoresAll (split_files folder g split) files.held files'.held (Err stop)
      → Does (DeliversSplit folder g split) files files' console console (Err (Stopped stop))
  store_stopped console stop stores = go files.held stores where
    go : (h : Option Holding)
        → StoresAll (split_files folder g split) h files'.held (Err stop)
        → IfSome h (λ held. Follows (λ _. ⊥) (DeliversSplit folder g split) held files' console
        console (Err (Stopped stop)))
    go None stores = tt
    go (Some held) (front, rest, is, keeps) = (
      done_so [] (reverse front),
      inr (first_at front rest stop is),
      record { talked = silent (stop_end stop) console console refl refl; names = keeps },
    )

  -- the files were stored, and then a write has failed
  pub say_stopped : (before after : ConsoleTold) (stop : Stop)
      → StoresAll (split_files folder g split) files.held files'.held (Ok tt)
      → after.log ≡ before.log
      → after.left ≡ before.left
      → Does (DeliversSplit folder g split) files files' before after (Err (Stopped stop))
  say_stopped before after stop stores log left = go files.held stores where
    go : (h : Option Holding)
        → StoresAll (split_files folder g split) h files'.held (Ok tt)
        → IfSome h (λ held. Follows (λ _. ⊥) (DeliversSplit folder g split) held files' before
        after (Err (Stopped stop)))
    go None stores = tt
    go (Some held) keeps = (
      done_so [] (reverse (split_files folder g split)),
      inr (first_at (split_files folder g split) [] stop
          (sym (append-nil (split_files folder g split)))),
      record { talked = silent (stop_end stop) before after log left; names = keeps },
    )

  -- all was stored and said
  pub all_said : (before after : ConsoleTold) (text : Bytes)
      → StoresAll (split_files folder g split) files.held files'.held (Ok tt)
      → text ≡ split_text g split.pieces.items
      → Grows before.log after.log (Said text ∷ [])
      → after.left ≡ before.left
      → Does (DeliversSplit folder g split) files files' before after (Ok DONE)
  all_said before after text stores is says left = go files.held stores where
    said : Bytes
    said = split_text g split.pieces.items

    grown : Grows before.log after.log (Said said ∷ [])
    grown = subst (λ (t : Bytes). Grows before.log after.log (Said t ∷ [])) is says

    go : (h : Option Holding)
        → StoresAll (split_files folder g split) h files'.held (Ok tt)
        → IfSome h (λ held. Follows (λ _. ⊥) (DeliversSplit folder g split) held files' before
        after (Ok DONE))
    go None stores = tt
    go (Some held) keeps = (
      done_so (Said said ∷ []) (reverse (split_files folder g split)),
      (refl, refl),
      record {
        talked = talked_texts (Finished DONE) before after (said ∷ []) grown left;
        names = keeps;
      },
    )

-- ---- after the game was read

module _ (folder game : Bytes) (most : ℕ) (files files' : FilesTold) where
  abbrev Against : Holding → Refusal → Type 0
  Against held refusal = game_held (held game) ≡ Err (Refused refusal)

  abbrev Act : Holding → Done → End → Type 0
  Act = SplitsAt folder most files files' game

  -- the game's file has a fault, or the run was stopped while it was read
  pub halts_read : (console : ConsoleTold) (halt : Halt)
      → files'.held ≡ files.held
      → OpensGame files.held game (Err halt)
      → Runs Against Act files files' console console (Err halt)
  halts_read console halt same opens = go files.held refl halt opens where
    go : (h : Option Holding)
        → files.held ≡ h
        → (halt : Halt) → OpensGame h game (Err halt)
        → IfSome h
        (λ held. Follows (Against held) (Act held) held files' console console (Err halt))
    go None is halt opens = tt
    go (Some held) is (Refused refusal) opens = (
      opens,
      record {
        talked = silent Starved console console refl refl;
        names = kept held files'.held (same ∙ is);
      },
    )
    go (Some held) is (Stopped stop) opens = (
      nothing,
      inl (refl, refl),
      record {
        talked = silent (stop_end stop) console console refl refl;
        names = kept held files'.held (same ∙ is);
      },
    )

  -- the run was stopped before anything was stored
  pub stops_first : (before after : ConsoleTold) (stop : Stop)
      → files'.held ≡ files.held
      → after.log ≡ before.log
      → after.left ≡ before.left
      → Runs Against Act files files' before after (Err (Stopped stop))
  stops_first before after stop same log left = go files.held refl where
    go : (h : Option Holding)
        → files.held ≡ h
        → IfSome h (λ held. Follows (Against held) (Act held) held files' before after
        (Err (Stopped stop)))
    go None is = tt
    go (Some held) is = (
      nothing,
      inl (refl, refl),
      record {
        talked = silent (stop_end stop) before after log left;
        names = kept held files'.held (same ∙ is);
      },
    )

  module _ (g : Game) (opens : OpensGame files.held game (Ok g)) where
    read : (held : Holding) → files.held ≡ Some held → game_held (held game) ≡ Ok (entry g)
    read held holds = subst (λ (h : Option Holding). OpensGame h game (Ok g)) holds opens

    acts : (held : Holding) (done : Done) (end : End)
        → files.held ≡ Some held
        → SplitsGame folder most files files' g done end
        → Act held done end
    acts held done end holds splits =
        subst (λ (r : Result GameEntry Halt). Splits folder most files files' r done end)
        (sym (read held holds)) (g, refl, splits)

    -- why the game isn't split was said
    pub declines : (decline : Decline) (before after : ConsoleTold) (text : Bytes)
        → IsDeclined folder files files' decline
        → files'.held ≡ files.held
        → text ≡ decline_text decline
        → Grows before.log after.log (Said text ∷ [])
        → after.left ≡ before.left
        → Runs Against Act files files' before after (Ok REFUSED)
    declines decline before after text is same text_is says left = go files.held refl where
      said : Bytes
      said = decline_text decline

      grown : Grows before.log after.log (Said said ∷ [])
      grown = subst (λ (t : Bytes). Grows before.log after.log (Said t ∷ [])) text_is says

      go : (h : Option Holding)
          → files.held ≡ h
          → IfSome h (λ held. Follows (Against held) (Act held) held files' before after
          (Ok REFUSED))
      go None holds = tt
      go (Some held) holds = (
        talk (Said said ∷ []),
        acts held (talk (Said said ∷ [])) (Finished REFUSED) holds
            (inr (decline, is, (refl, refl))),
        record {
          talked = talked_texts (Finished REFUSED) before after (said ∷ []) grown left;
          names = kept held files'.held (same ∙ holds);
        },
      )

    -- the same, or that was stopped
    pub tells : (decline : Decline) (before after : ConsoleTold) (r : Result ℕ Halt)
        → IsDeclined folder files files' decline
        → files'.held ≡ files.held
        → TellsDecline decline before after r
        → Runs Against Act files files' before after r
    tells decline before after (Ok status) is same (done, says, left, calm) =
        subst (λ (s : ℕ). Runs Against Act files files' before after (Ok s)) (sym done)
        (declines decline before after (decline_text decline) is same refl says left)
    tells decline before after (Err (Refused refusal)) is same (none, log, left, causes) =
        absurd none
    tells decline before after (Err (Stopped stop)) is same (halts, log, left, causes) =
        stops_first before after stop same log left

    module _ (split : Split) (mid : FilesTold) (same : mid.held ≡ files.held)
        (prepared : IsPreparedAs folder most g files.held
        (Rose files.faults.reads mid.faults.reads) split) where
      shown : files'.faults ≡ mid.faults
          → Rose files.faults.reads mid.faults.reads
          → Rose files.faults.reads files'.faults.reads
      shown calm lost =
          subst (λ (f : Faults). Rose files.faults.reads f.reads) (sym calm) lost

      stop_shown : (stop : Stop)
          → IsCalm mid files' (Err (Stopped stop))
          → Rose files.faults.reads mid.faults.reads
          → IsLost files files' (stop_end stop)
      stop_shown Read calm lost = tt
      stop_shown Write calm lost = tt
      stop_shown Memory calm lost = shown calm lost

      -- the game was split
      pub splits : (before after : ConsoleTold) (r : Result ℕ Halt)
          → IsCalm mid files' r
          → Does (DeliversSplit folder g split) mid files' before after r
          → Runs Against Act files files' before after r
      splits before after r calm does = go files.held refl r calm
          (subst (λ (h : Option Holding). IfSome h (λ held. Follows (λ _. ⊥)
          (DeliversSplit folder g split) held files' before after r)) same does)
        where
          go : (h : Option Holding)
              → files.held ≡ h
              → (r : Result ℕ Halt)
              → IsCalm mid files' r
              → IfSome h (λ held. Follows (λ _. ⊥) (DeliversSplit folder g split) held files'
              before after r)
              → IfSome h (λ held. Follows (Against held) (Act held) held files' before after r)
          go None holds r calm does = tt
          go (Some held) holds (Ok status) calm (done, act, changes) = (
            done,
            acts held done (Finished status) holds (inl (
              split,
              lost_so folder most g files.held (Rose files.faults.reads mid.faults.reads)
                  (IsLost files files' (Finished status)) split (shown calm) prepared,
              act,
            )),
            changes,
          )
          go (Some held) holds (Err (Refused refusal)) calm (none, changes) = absurd none
          go (Some held) holds (Err (Stopped stop)) calm (done, inl none, changes) =
              (done, inl none, changes)
          go (Some held) holds (Err (Stopped stop)) calm (done, inr act, changes) = (
            done,
            inr (acts held done (stop_end stop) holds (inl (
              split,
              lost_so folder most g files.held (Rose files.faults.reads mid.faults.reads)
                  (IsLost files files' (stop_end stop)) split (stop_shown stop calm) prepared,
              act,
            ))),
            changes,
          )
