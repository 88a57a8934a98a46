-- Runs that only read files and talk.
use Rattle.std.proofs.Common.{◌≡◌, ℕ, List, [], ◌∷◌, map, Option, Some, None, Result, Ok, Err, refl}
use Rattle.std.proofs.Common.{sym, ◌∙◌, subst, inl, inr}
use Rattle.std.specs.Prelude.{IfSome}
use Rattle.pg_talk.proofs.Common.{ConsoleTold, Grows, Bytes, Holding, FilesTold, Entry, Said}
use Rattle.pg_talk.proofs.Common.{Refusal}
use Rattle.pg_talk.specs.Done.{Done, End, Finished, Failed, Starved, Talked, Changes, Follows}
use Rattle.pg_talk.specs.Done.{Performs, Keeps, nothing, talk, stop_end}
use Rattle.pg_talk.specs.Hearing.{Hearing, InOrder}
use Rattle.pg_talk.specs.Runs.{Runs}
use Rattle.pg_talk.specs.declared.halt.Halt.{Halt}
use Rattle.pg_talk.specs.declared.halt.Halt.TheVariants.{Refused, Stopped}
use Rattle.pg_talk.proofs.Speaking.{Grows-nothing}

-- ---- what was said and heard

InOrder-texts : (left : Bytes) (texts : List Bytes) → InOrder left (map Said texts) left
InOrder-texts left [] = refl
InOrder-texts left (text ∷ texts) = InOrder-texts left texts

-- where texts alone were said, nothing was heard
pub Hearing-texts : (left left' : Option Bytes) (texts : List Bytes)
    → left' ≡ left
    → Hearing left (map Said texts) left'
Hearing-texts left left' texts same =
    subst (λ (l : Option Bytes). Hearing left (map Said texts) l) (sym same) (go left) where
      go : (left : Option Bytes) → Hearing left (map Said texts) left
      go None = tt
      go (Some left) = InOrder-texts left texts

pub talked_texts : (end : End) (before after : ConsoleTold) (texts : List Bytes)
    → Grows before.log after.log (map Said texts)
    → after.left ≡ before.left
    → Talked before after (map Said texts) end
talked_texts (Finished status) before after texts grows same =
    record { logged = grows; heard = Hearing-texts before.left after.left texts same }
talked_texts Failed before after texts grows same =
    record { logged = grows; heard = (after.left, Hearing-texts before.left after.left texts same) }
talked_texts Starved before after texts grows same =
    record { logged = grows; heard = Hearing-texts before.left after.left texts same }

pub silent : (end : End) (before after : ConsoleTold)
    → after.log ≡ before.log
    → after.left ≡ before.left
    → Talked before after [] end
silent end before after same left = talked_texts end before after []
    (subst (λ (l : Option (List Entry)). Grows before.log l []) (sym same)
    (Grows-nothing before.log)) left

-- ---- names

pub kept : (held : Holding) (h' : Option Holding) → h' ≡ Some held → Keeps held [] h'
kept held h' same = subst (λ (h : Option Holding). Keeps held [] h) (sym same) (λ name. refl)

-- ---- work on a console

-- what stands against work, or acts, in one way does so in another
pub performs_more : (Against More : Refusal → Type 0) (Act Acts : List Entry → End → Type 0)
    → ((refusal : Refusal) → Against refusal → More refusal)
    → ((entries : List Entry) (end : End) → Act entries end → Acts entries end)
    → (before after : ConsoleTold) (r : Result ℕ Halt) → Performs Against Act before after r
    → Performs More Acts before after r
performs_more Against More Act Acts against act before after (Ok status) (entries, acts, talked) =
    (entries, act entries (Finished status) acts, talked)
performs_more Against More Act Acts against act before after (Err (Refused refusal)) (
  stands,
  talked,
) = (against refusal stands, talked)
performs_more Against More Act Acts against act before after (Err (Stopped stop)) (
  entries,
  inl none,
  talked,
) = (entries, inl none, talked)
performs_more Against More Act Acts against act before after (Err (Stopped stop)) (
  entries,
  inr acts,
  talked,
) = (entries, inr (act entries (stop_end stop) acts), talked)

-- ---- a command that only reads and talks

module _ (files files' : FilesTold) (same : files'.held ≡ files.held) where
  -- by what was read, work on a console is what the command does
  pub runs_read : {R : Type 0} (Against : R → Refusal → Type 0)
      (Act : R → List Entry → End → Type 0) (read : Holding → R) (x : R)
      → ((held : Holding) → files.held ≡ Some held → read held ≡ x)
      → (before after : ConsoleTold) (r : Result ℕ Halt)
      → Performs (Against x) (Act x) before after r
      → Runs (λ held. Against (read held)) (λ held done end.
      Act (read held) done.entries end × (done.stored ≡ [])) files files' before after r
  runs_read {R} Against Act read x is before after r performs = go files.held refl where
    changes : (held : Holding)
        → files.held ≡ Some held
        → (entries : List Entry) (end : End) → Talked before after entries end
        → Changes held files' before after (talk entries) end
    changes held told entries end talked =
        record { talked = talked; names = kept held files'.held (same ∙ told) }

    on : (held : Holding)
        → files.held ≡ Some held
        → (r : Result ℕ Halt) → Performs (Against (read held)) (Act (read held)) before after r
        → Follows (Against (read held)) (λ done end.
        Act (read held) done.entries end × (done.stored ≡ [])) held files' before after r
    on held told (Ok status) (entries, act, talked) =
        (talk entries, (act, refl), changes held told entries (Finished status) talked)
    on held told (Err (Refused refusal)) (against, talked) =
        (against, changes held told [] Starved talked)
    on held told (Err (Stopped stop)) (entries, inl none, talked) =
        (talk entries, inl (none, refl), changes held told entries (stop_end stop) talked)
    on held told (Err (Stopped stop)) (entries, inr act, talked) =
        (talk entries, inr (act, refl), changes held told entries (stop_end stop) talked)

    go : (h : Option Holding)
        → files.held ≡ h
        → IfSome h (λ held. Follows (Against (read held)) (λ done end.
        Act (read held) done.entries end × (done.stored ≡ [])) held files' before after r)
    go None told = tt
    go (Some held) told = on held told r
        (subst (λ (y : R). Performs (Against y) (Act y) before after r)
        (sym (is held told)) performs)

  -- nothing was said, and what stands against the command was read
  pub runs_halt : (Against : Holding → Refusal → Type 0) (Act : Holding → Done → End → Type 0)
      (console : ConsoleTold) (halt : Halt)
      → ((held : Holding) (refusal : Refusal) → files.held ≡ Some held
      → halt ≡ Refused refusal
      → Against held refusal)
      → Runs Against Act files files' console console (Err halt)
  runs_halt Against Act console halt against = go files.held refl halt against where
    go : (h : Option Holding)
        → files.held ≡ h
        → (halt : Halt) → ((held : Holding) (refusal : Refusal) → files.held ≡ Some held
        → halt ≡ Refused refusal
        → Against held refusal)
        → IfSome h
        (λ held. Follows (Against held) (Act held) held files' console console (Err halt))
    go None is halt against = tt
    go (Some held) is (Refused refusal) against = (
      against held refusal is refl,
      record {
        talked = silent Starved console console refl refl;
        names = kept held files'.held (same ∙ is);
      },
    )
    go (Some held) is (Stopped stop) against = (
      nothing,
      inl (refl, refl),
      record {
        talked = silent (stop_end stop) console console refl refl;
        names = kept held files'.held (same ∙ is);
      },
    )
