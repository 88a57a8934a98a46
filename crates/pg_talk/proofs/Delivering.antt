-- Storing a file and then saying texts.
use Rattle.std.proofs.Common.{◌≡◌, ◌≢◌, ℕ, Bool, true, false, List, [], ◌∷◌, map, Option, Some}
use Rattle.std.proofs.Common.{None, Result, Ok, Err, refl, sym, subst, inl, inr, arith}
use Rattle.std.proofs.Common.{if◌then◌else◌}
use Rattle.std.specs.Prelude.{IfSome}
use Rattle.pg_talk.proofs.Common.{bytes_eq, ConsoleTold, Grows, Says, Bytes, Holding, Making}
use Rattle.pg_talk.proofs.Common.{FilesTold, Stores, MayStore, Stored, Entry, Said, Stop, Read}
use Rattle.pg_talk.proofs.Common.{Write, Memory, message_text, Message, DONE}
use Rattle.std.proofs.lemmas.Slice.Eq.{bytes_eq-Decides}
use Rattle.pg_talk.specs.Done.{Done, End, Finished, Failed, Changes, Does, Follows, Keeps, nothing}
use Rattle.pg_talk.specs.Done.{stop_end}
use Rattle.pg_talk.specs.Storing.{delivered, Delivers, IsCutShort, KeepOthers, SaysTexts, texts_of}
use Rattle.pg_talk.specs.declared.halt.Halt.{Halt}
use Rattle.pg_talk.specs.declared.halt.Halt.TheVariants.{Refused, Stopped}
use Rattle.pg_talk.proofs.Runs.{kept, silent, talked_texts}
use Rattle.pg_talk.proofs.Speaking.{Grows-nothing, Grows-then}

-- ---- texts

-- no text was said yet
none_said : (message : Message) (further : Option Message)
    → IsCutShort (texts_of message further) []
none_said message None = (message_text message, [], refl)
none_said message (Some further) = (message_text message, message_text further ∷ [], refl)

pub says_none : (message : Message) (further : Option Message) (log after : Option (List Entry))
    (stop : Stop)
    → after ≡ log
    → SaysTexts (texts_of message further) log after (Err stop)
says_none message further log after stop same = (
  [],
  none_said message further,
  subst (λ (l : Option (List Entry)). Grows log l []) (sym same) (Grows-nothing log),
)

pub says_more : (message further : Message) (log mid after : Option (List Entry))
    (r : Result (Unit {0}) Stop)
    → Grows log mid (Said (message_text message) ∷ [])
    → Says mid after (message_text further) r
    → SaysTexts (texts_of message (Some further)) log after r
says_more message further log mid after (Ok u) first says = Grows-then log mid after
    (Said (message_text message) ∷ []) (Said (message_text further) ∷ []) first says
says_more message further log mid after (Err stop) first same = (
  message_text message ∷ [],
  (message_text further, [], refl),
  subst (λ (l : Option (List Entry)). Grows log l (Said (message_text message) ∷ []))
      (sym same) first,
)

-- ---- names

keeps_stored : (held after : Holding) (file : Making)
    → Stores held file after
    → Keeps held (file ∷ []) (Some after)
keeps_stored held after file stores name = go (bytes_eq file.0 name) refl where
  go : (same : Bool)
      → bytes_eq file.0 name ≡ same
      → after name ≡ (if same then Some file.1 else held name)
  go true is =
      let e : file.0 ≡ name = grind (arith, bytes_eq-Decides, is) in
      subst (λ (n : Bytes). after n ≡ Some file.1) e stores.there
  go false is = stores.others name
      (λ e. let f : bytes_eq file.0 name ≡ true = grind (arith, bytes_eq-Decides, e) in cc (is, f))

keeps_all : (held after : Holding) (file : Making)
    → MayStore held file after
    → after file.0 ≡ held file.0
    → Keeps held [] (Some after)
keeps_all held after file may same name = go (bytes_eq file.0 name) refl where
  go : (b : Bool) → bytes_eq file.0 name ≡ b → after name ≡ held name
  go true is =
      let e : file.0 ≡ name = grind (arith, bytes_eq-Decides, is) in
      subst (λ (n : Bytes). after n ≡ held n) e same
  go false is = may.others name
      (λ e. let f : bytes_eq file.0 name ≡ true = grind (arith, bytes_eq-Decides, e) in cc (is, f))

module _ (files files' : FilesTold) (file : Making) where
  pub keep_others : (r : Result (Unit {0}) Stop)
      → Stored files.held files'.held file r
      → KeepOthers (file.0 ∷ []) files.held files'.held
  keep_others r h = go files.held files'.held r h where
    go : (b a : Option Holding) (r : Result (Unit {0}) Stop)
        → Stored b a file r
        → KeepOthers (file.0 ∷ []) b a
    go None a r h = tt
    go (Some held) None r h = absurd h
    go (Some held) (Some held') (Ok u) stores = λ other none. stores.others other none.0
    go (Some held) (Some held') (Err stop) may = λ other none. may.others other none.0

-- ---- a file and texts

module _ (files files' : FilesTold) (file : Making) (message : Message)
    (further : Option Message) where
  -- a write has failed while the file was stored
  pub store_failed : (console : ConsoleTold) (stop : Stop)
      → stop ≡ Write
      → Stored files.held files'.held file (Err stop)
      → Does (Delivers file (texts_of message further)) files files' console console
      (Err (Stopped stop))
  store_failed console stop write h = subst
      (λ (s : Stop). Does (Delivers file (texts_of message further)) files files' console console
      (Err (Stopped s))) (sym write) (go files.held files'.held refl h)
    where
      go : (before after : Option Holding)
          → files'.held ≡ after
          → Stored before after file (Err stop)
          → IfSome before (λ held. Follows (λ _. ⊥) (Delivers file (texts_of message further)) held
          files' console console (Err (Stopped Write)))
      go None after is h = tt
      go (Some held) None is h = absurd h
      go (Some held) (Some after) is may =
          elim may.there as (λ _. Follows (λ _. ⊥) (Delivers file (texts_of message further)) held
          files' console console (Err (Stopped Write))) [
            | inl same ↦ (
              nothing,
              inl (refl, refl),
              record {
                talked = silent Failed console console refl refl;
                names = subst (λ (o : Option Holding). Keeps held [] o) (sym is)
                    (keeps_all held after file may same);
              },
            )
            | inr there ↦ (
              delivered file [],
              inr ([], none_said message further, refl),
              record {
                talked = silent Failed console console refl refl;
                names = subst (λ (o : Option Holding). Keeps held (file ∷ []) o) (sym is)
                    (keeps_stored held after file (record { there = there; others = may.others }));
              },
            )
          ]

  -- the file was stored, and these of the texts were said
  stored_said : (held : Holding) (before after : ConsoleTold) (said : List Bytes) (end : End)
      → IfSome files'.held (Stores held file)
      → (held' : Holding) → files'.held ≡ Some held'
      → Grows before.log after.log (map Said said)
      → after.left ≡ before.left
      → Changes held files' before after (delivered file said) end
  stored_said held before after said end stores held' is says left = record {
    talked = talked_texts end before after said says left;
    names = subst (λ (o : Option Holding). Keeps held (file ∷ []) o) (sym is)
        (keeps_stored held held' file
        (subst (λ (o : Option Holding). IfSome o (Stores held file)) is stores));
  }

  there : (held : Holding) (after : Option Holding)
      → Stored (Some held) after file (Ok tt)
      → (held' : Holding) × (after ≡ Some held') × IfSome after (Stores held file)
  there held None h = absurd h
  there held (Some held') stores = (held', refl, stores)

  -- the file was stored, and all texts were said
  pub store_said : (before after : ConsoleTold)
      → Stored files.held files'.held file (Ok tt)
      → Grows before.log after.log (map Said (texts_of message further))
      → after.left ≡ before.left
      → Does (Delivers file (texts_of message further)) files files' before after (Ok DONE)
  store_said before after h says left = go files.held h where
    go : (b : Option Holding)
        → Stored b files'.held file (Ok tt)
        → IfSome b (λ held. Follows (λ _. ⊥)
        (Delivers file (texts_of message further)) held files' before after (Ok DONE))
    go None h = tt
    go (Some held) h =
        let (held', is, stores) = there held files'.held h in (
          delivered file (texts_of message further),
          (refl, refl),
          stored_said held before after (texts_of message further)
              (Finished DONE) stores held' is says left,
        )

  -- the file was stored, and then a write has failed
  pub store_cut : (before after : ConsoleTold) (stop : Stop)
      → stop ≡ Write
      → Stored files.held files'.held file (Ok tt)
      → SaysTexts (texts_of message further) before.log after.log (Err stop)
      → after.left ≡ before.left
      → Does (Delivers file (texts_of message further)) files files' before after
      (Err (Stopped stop))
  store_cut before after stop write h (front, short, says) left = subst
      (λ (s : Stop). Does (Delivers file (texts_of message further)) files files' before after
      (Err (Stopped s))) (sym write) (go files.held h)
    where
      go : (b : Option Holding)
          → Stored b files'.held file (Ok tt)
          → IfSome b (λ held. Follows (λ _. ⊥)
          (Delivers file (texts_of message further)) held files' before after (Err (Stopped Write)))
      go None h = tt
      go (Some held) h =
          let (held', is, stores) = there held files'.held h in (
            delivered file front,
            inr (front, short, refl),
            stored_said held before after front Failed stores held' is says left,
          )

-- a write has failed, for neither a read nor memory has
pub is_write : (r : Result (Unit {0}) Stop) (stop : Stop)
    → r ≡ Err stop
    → r ≢ Err Memory
    → r ≢ Err Read
    → stop ≡ Write
is_write r Read is fed written = absurd (written is)
is_write r Write is fed written = refl
is_write r Memory is fed written = absurd (fed is)

-- ---- parts

-- nothing was done before the run was stopped
pub stopped_first : (Act : Done → End → Type 0) (files files' : FilesTold)
    (before after : ConsoleTold) (stop : Stop)
    → files'.held ≡ files.held
    → after.log ≡ before.log
    → after.left ≡ before.left
    → Does Act files files' before after (Err (Stopped stop))
stopped_first Act files files' before after stop same log left = go files.held same where
  go : (b : Option Holding)
      → files'.held ≡ b
      → IfSome b (λ held. Follows (λ _. ⊥) Act held files' before after (Err (Stopped stop)))
  go None same = tt
  go (Some held) same = (
    nothing,
    inl (refl, refl),
    record {
      talked = silent (stop_end stop) before after log left;
      names = kept held files'.held same;
    },
  )

-- what acts in one way acts in another
pub follows_more : (Act More : Done → End → Type 0) (files files' : FilesTold)
    (before after : ConsoleTold) (r : Result ℕ Halt)
    → ((done : Done) (end : End) → Act done end → More done end)
    → Does Act files files' before after r
    → Does More files files' before after r
follows_more Act More files files' before after r more h = go files.held r h where
  go : (b : Option Holding) (r : Result ℕ Halt)
      → IfSome b (λ held. Follows (λ _. ⊥) Act held files' before after r)
      → IfSome b (λ held. Follows (λ _. ⊥) More held files' before after r)
  go None r h = tt
  go (Some held) (Ok status) (done, act, changes) = (done, more done (Finished status) act, changes)
  go (Some held) (Err (Refused refusal)) (none, changes) = absurd none
  go (Some held) (Err (Stopped stop)) (done, inl none, changes) = (done, inl none, changes)
  go (Some held) (Err (Stopped stop)) (done, inr act, changes) =
      (done, inr (more done (stop_end stop) act), changes)
