-- THE LOG OF A GAME AGAINST THE PROGRAM: a dialogue over the program's moves and the replies to
-- them. Where memory runs out after a line was heard, the log is at a stage of its own.
use Rattle.std.specs.Prelude.{◌≡◌, ◌⊎◌, ℕ, true, List, [], ◌∷◌, ◌++◌, Err}
use Rattle.pg_duel.specs.Prelude.{Answered, Bytes, Claim, Entry, Game, Illegal, IsAfter, Look}
use Rattle.pg_duel.specs.Prelude.{Rules, Sitting, StepsBy, after_shown, ending_of, is_over}
use Rattle.pg_duel.specs.Prelude.{judged_move, outcome, place, reaches, reason_of}
pub use Rattle.pg_duel.specs.Prelude.{Closes, Notes, Shows, Stage, Stalls}
use Rattle.pg_messages.specs.declared.message.ReplyFault.TheVariants as faults
use Rattle.pg_playing.specs.declared.note.Note.TheVariants as notes
use Rattle.pg_duel.specs.Words.{reply_text, seat_text}

-- the board is shown, and the game has ended if it is over
abbrev pub Prints : Look → Game → Claim → Sitting → ℕ → Bytes → Stage Sitting → Type 0
Prints look g c s heard text next = (text ≡ seat_text look g c s (ending_of g s.events))
    × (next ≡ after_shown (is_over g (place g s.events)) s heard)

-- a legal reply is taken and answered by the program's moves; another is refused
abbrev pub Claims : Game → Sitting → ℕ → ℕ → Stage Sitting → Type 0
Claims g s heard v next = ((t : Sitting) × Answered s v t × (next ≡ Shows t heard))
    ⊎ ((why : Illegal) × (judged_move g (place g s.events) v ≡ Err why)
    × (next ≡ Notes s heard (notes.Refused (reason_of why))))
    ⊎ (next ≡ Stalls s)

-- `undo`: the game is as it was before the last reply, if there is one
abbrev pub Undoes : Game → Claim → Sitting → ℕ → Stage Sitting → Type 0
Undoes g c s heard next = ((s.replies ≡ [])
    × (next ≡ Notes s heard (notes.Refused faults.NothingToTakeBack)))
    ⊎ ((others : List ℕ) × (last : ℕ) × (t : Sitting) × (s.replies ≡ others ++ last ∷ [])
    × IsAfter g c others t
    × (next ≡ Shows t heard))
    ⊎ (next ≡ Stalls s)

-- if the game is over, the claim is held
abbrev pub Holds : Game → Claim → Sitting → Type 0
Holds g c s = is_over g (place g s.events) ≡ true
    → reaches c.side c.goal (outcome g (place g s.events)) ≡ true

-- ---- the log

-- the board is printed after the moves of both sides
abbrev pub duel_rules : Look → Game → Claim → Rules Sitting
duel_rules look g c = record {
  game = g;
  answer = λ s note. reply_text g (place g s.events) note;
  Prints = Prints look g c;
  Claims = Claims g;
  Undoes = Undoes g c;
  Holds = Holds g c;
}

-- THE RULES
abbrev pub Steps : Look → Game → Claim → Stage Sitting → Entry → Stage Sitting → Type 0
Steps look g c = StepsBy (duel_rules look g c)
