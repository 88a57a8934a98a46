-- Moves that are told.
use Rattle.std.proofs.Common.{◌≡◌, ◌∙◌, ℕ, Bool, List, [], ◌∷◌, Option, Some, None, Result, Ok, Err}
use Rattle.std.proofs.Common.{refl, sym, ap, subst, inl, if◌then◌else◌}
use Rattle.pg_moves.proofs.Common.{Budget, Bytes, ConsoleTold, DONE, FilesTold}
use Rattle.pg_moves.proofs.Common.{Finished, Game, Grows, Halt, Holding, OpensGame, Outcome}
use Rattle.pg_moves.proofs.Common.{Performs, Refused, Runs, Said, Stop, Stopped, UNKNOWN, game_held}
use Rattle.pg_moves.proofs.Common.{performs_more, runs_halt, runs_read, silent, stop_end}
use Rattle.pg_moves.proofs.Common.{talked_texts}
use Rattle.pg_files.specs.GameFile.{Entry as GameEntry}
use Rattle.pg_files.specs.Views.{entry}
use Rattle.pg_messages.specs.declared.refusal.Refusal.{Refusal}
use Rattle.pg_moves.proofs.Keeping.{best-is, known-some, unknown-none}
use Rattle.pg_moves.specs.Best.{all_known, best_moves, best_tried}
use Rattle.pg_moves.specs.Lines.{moves_text}
use Rattle.pg_moves.specs.MoveRuns.{ActsOn, Tells, TellsMoves}
use Rattle.pg_moves.specs.Trials.{AreTrials}
use Rattle.pg_moves.specs.declared.trial.Trial.{Trial}

module _ (Brings : Game → Budget → Outcome → Type 0) (budget : Budget) (json : Option Bytes)
  where
    module _ (g : Game) (before after : ConsoleTold) where
      -- nothing was printed
      pub untold : (stop : Stop)
          → after.log ≡ before.log
          → after.left ≡ before.left
          → Performs (λ _. ⊥) (TellsMoves Brings budget json g) before after (Err (Stopped stop))
      untold stop same left = ([], inl refl, silent (stop_end stop) before after same left)

      module _ (trials : List Trial) (are : AreTrials Brings budget g trials)
          (points : Option (List ℕ)) (best_is : points ≡ best_tried g.turn trials) (text : Bytes)
          (text_is : text ≡ moves_text json g.kind g.turn trials points)
          (says : Grows before.log after.log (Said text ∷ [])) (left : after.left ≡ before.left)
        where
          texts_are : Said text ∷ []
              ≡ Said (moves_text json g.kind g.turn trials (best_moves g trials)) ∷ []
          texts_are = ap (λ (t : Bytes). Said t ∷ [])
              (text_is ∙ ap (λ (o : Option (List ℕ)). moves_text json g.kind g.turn trials o)
              (best_is ∙ best-is g trials are.points
              (λ k d low. (are.each k d low).holds)))

          told : (status : ℕ)
              → status ≡ (if all_known trials then DONE else UNKNOWN)
              → Performs (λ _. ⊥) (TellsMoves Brings budget json g) before after (Ok status)
          told status is = (
            Said text ∷ [],
            (trials, are, texts_are, is),
            talked_texts (Finished status) before after (text ∷ []) says left,
          )

          pub told_best : (some : List ℕ)
              → points ≡ Some some
              → Performs (λ _. ⊥) (TellsMoves Brings budget json g) before after (Ok DONE)
          told_best some is = told DONE (sym (ap (λ (b : Bool). if b then DONE else UNKNOWN)
              (known-some g.turn trials some (sym best_is ∙ is))))

          pub told_unknown : points ≡ None
              → Performs (λ _. ⊥) (TellsMoves Brings budget json g) before after (Ok UNKNOWN)
          told_unknown is = told UNKNOWN (sym (ap (λ (b : Bool). if b then DONE else UNKNOWN)
              (unknown-none g.turn trials (sym best_is ∙ is))))

    -- ---- after the game was read

    module _ (game : Bytes) (files files' : FilesTold) (same : files'.held ≡ files.held) where
      pub tells_read : (played : Game) (before after : ConsoleTold) (r : Result ℕ Halt)
          → OpensGame files.held game (Ok played)
          → Performs (λ _. ⊥) (TellsMoves Brings budget json played) before after r
          → Runs (λ held refusal. game_held (held game) ≡ Err (Refused refusal))
          (ActsOn Brings budget json game) files files' before after r
      tells_read played before after r opens performs = runs_read files files' same
          (λ (read : Result GameEntry Halt) (refusal : Refusal). read ≡ Err (Refused refusal))
          (Tells Brings budget json) (λ held. game_held (held game)) (Ok (entry played)) is before
          after r (performs_more (λ _. ⊥)
          (λ (refusal : Refusal). Ok (entry played) ≡ Err (Refused refusal))
          (TellsMoves Brings budget json played) (Tells Brings budget json (Ok (entry played)))
          (λ refusal none. absurd none) (λ entries end tells. (played, refl, tells)) before after r
          performs)
        where
          is : (held : Holding) → files.held ≡ Some held → game_held (held game) ≡ Ok (entry played)
          is held holds = subst (λ (h : Option Holding). OpensGame h game (Ok played)) holds opens

      pub halts_read : (console : ConsoleTold) (halt : Halt)
          → OpensGame files.held game (Err halt)
          → Runs (λ held refusal. game_held (held game) ≡ Err (Refused refusal))
          (ActsOn Brings budget json game) files files' console console (Err halt)
      halts_read console halt opens = runs_halt files files' same
          (λ held refusal. game_held (held game) ≡ Err (Refused refusal))
          (ActsOn Brings budget json game) console halt against
        where
          against : (held : Holding) (refusal : Refusal)
              → files.held ≡ Some held
              → halt ≡ Refused refusal
              → game_held (held game) ≡ Err (Refused refusal)
          against held refusal is this =
              subst (λ (k : Halt). OpensGame (Some held) game (Err k)) this
              (subst (λ (b : Option Holding). OpensGame b game (Err halt)) is opens)
