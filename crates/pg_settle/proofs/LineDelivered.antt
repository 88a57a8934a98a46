-- Storing a file and then printing one text.
use Rattle.std.proofs.Common.{◌≡◌, ◌∙◌, List, [], ◌∷◌, ◌++◌, length, length-append, Option, Some}
use Rattle.std.proofs.Common.{None, Result, Ok, Err, refl, ap, subst, inl, inr, arith}
use Rattle.std.specs.Prelude.{IfSome}
use Rattle.pg_settle.proofs.Common.{Bytes, ConsoleTold, Delivers, Does, Done, FilesTold, Finished}
use Rattle.pg_settle.proofs.Common.{Follows, Grows, Halt, Holding, Said, Stopped, stop_end}
use Rattle.pg_settle.proofs.Common.{talked_texts}
use Rattle.pg_io.specs.Console.{Says}
use Rattle.pg_io.specs.Files.{Making}
use Rattle.pg_io.specs.Reading.{Stored}
use Rattle.pg_io.specs.declared.stop.Stop.{Stop}
use Rattle.pg_io.specs.declared.stop.Stop.TheVariants.{Memory, Read, Write}
use Rattle.pg_messages.specs.declared.statuses.TheConstants.{DONE}
use Rattle.pg_messages.specs.declared.message.Message.{Message}
use Rattle.pg_messages.specs.declared.message.Message.TheVariants.{Unknown}
use Rattle.pg_talk.specs.Done.{Keeps, Stops}
use Rattle.pg_talk.specs.Storing.{IsCutShort, delivered, texts_of}
use Rattle.pg_talk.proofs.Delivering.{says_none, store_cut, store_failed, store_said}

-- a message in place of the text, which is printed only where all is done
abbrev some_message : Message
some_message = Unknown 0

-- of one text none was printed, where it was cut short
cut_is_none : (text : Bytes) (front : List Bytes) → IsCutShort (text ∷ []) front → front ≡ []
cut_is_none text [] short = refl
cut_is_none text (first ∷ front) (next, rest, is) =
    let counts = ap length is in
    absurd (omega (arith, counts, length-append front (next ∷ rest)))

module _ (files files' : FilesTold) (file : Making) (text : Bytes)
    (before after : ConsoleTold) where
  part : (stop : Stop) (done : Done)
      → Stops (Delivers file (texts_of some_message None)) done (stop_end stop)
      → Stops (Delivers file (text ∷ [])) done (stop_end stop)
  part stop done (inl none) = inl none
  part Read done (inr (front, short, is)) =
      inr ([], (text, [], refl), is ∙ ap (delivered file) (cut_is_none _ front short))
  part Write done (inr (front, short, is)) =
      inr ([], (text, [], refl), is ∙ ap (delivered file) (cut_is_none _ front short))
  part Memory done (inr none) = absurd none

  -- where a message was not printed, a text wasn't
  unsaid_so : (stop : Stop)
      → Does (Delivers file (texts_of some_message None)) files files' before after
      (Err (Stopped stop))
      → Does (Delivers file (text ∷ [])) files files' before after (Err (Stopped stop))
  unsaid_so stop h = go files.held h where
    go : (b : Option Holding)
        → IfSome b (λ held. Follows (λ _. ⊥) (Delivers file (texts_of some_message None)) held
        files' before after (Err (Stopped stop)))
        → IfSome b (λ held. Follows (λ _. ⊥) (Delivers file (text ∷ [])) held files' before after
        (Err (Stopped stop)))
    go None h = tt
    go (Some held) (done, stops, changes) = (done, part stop done stops, changes)

  pub line_cut : (stop : Stop)
      → stop ≡ Write
      → Stored files.held files'.held file (Ok tt)
      → after.log ≡ before.log
      → after.left ≡ before.left
      → Does (Delivers file (text ∷ [])) files files' before after (Err (Stopped stop))
  line_cut stop write stored same left = unsaid_so stop
      (store_cut files files' file some_message None before after stop write stored
      (says_none some_message None before.log after.log stop same) left)

  -- the names after the file was stored, of a console that tells nothing
  pub line_said : Stored files.held files'.held file (Ok tt)
      → Grows before.log after.log (Said text ∷ [])
      → after.left ≡ before.left
      → Does (Delivers file (text ∷ [])) files files' before after (Ok DONE)
  line_said stored says left =
      go files.held (store_said files files' file some_message None mute mute stored tt refl)
    where
      mute : ConsoleTold
      mute = record before { log = None }

      go : (b : Option Holding)
          → IfSome b (λ held. Follows (λ _. ⊥) (Delivers file (texts_of some_message None)) held
          files' mute mute (Ok DONE))
          → IfSome b (λ held. Follows (λ _. ⊥) (Delivers file (text ∷ [])) held files' before after
          (Ok DONE))
      go None h = tt
      go (Some held) (done, (is, status_is), changes) = (
        delivered file (text ∷ []),
        (refl, refl),
        record {
          talked = talked_texts (Finished DONE) before after (text ∷ []) says left;
          names = subst (λ (d : Done). Keeps held d.stored files'.held) is changes.names;
        },
      )

pub line_unstored : (files files' : FilesTold) (file : Making) (text : Bytes)
    (console : ConsoleTold) (stop : Stop)
    → stop ≡ Write
    → Stored files.held files'.held file (Err stop)
    → Does (Delivers file (text ∷ [])) files files' console console (Err (Stopped stop))
line_unstored files files' file text console stop write stored =
    unsaid_so files files' file text console console stop
    (store_failed files files' file some_message None console stop write stored)
