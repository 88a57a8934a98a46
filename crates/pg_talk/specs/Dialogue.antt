-- Dialogues: a contest of which one side is played over a console, read from the log alone. It is
-- asked neither how the side finds its moves nor why.
use Rattle.std.specs.Prelude.{◌≡◌, ◌⊎◌, ◌<◌, ℕ, ◌+◌, ◌==◌, Bool, true, false, List, [], ◌∷◌, Result}
use Rattle.std.specs.Prelude.{Ok, Err, if◌then◌else◌, ⊤}
use Rattle.pg_talk.specs.Prelude.{other, Side, Entry, Said, Heard, Skipped, Ended, Bytes, Position}
use Rattle.pg_talk.specs.Prelude.{is_free, moved, move_text, reply_text, result_text, ReplyFault}
use Rattle.pg_talk.specs.Prelude.{NoNumber, DONE, INPUT_ENDED, OUT_OF_REPLIES}
use Rattle.pg_talk.specs.Contest.{Contest}
use Rattle.pg_talk.specs.Reply.{replied_point}
use Rattle.pg_talk.specs.declared.dialogue.TheConstants.{MAX_REFUSALS}

-- where a dialogue stands: at a position, after so many refusals; there, before a refusal is said;
-- or at its end, with the last position and a status
pub data Stage : Type 0 where
  At : (position : Position) (refusals : ℕ) → Stage
  Owes : (position : Position) (refusals : ℕ) (fault : ReplyFault) → Stage
  Over : (position : Position) (status : ℕ) → Stage

-- the position of a stage
abbrev pub position_at : Stage → Position
position_at (At p refusals) = p
position_at (Owes p refusals fault) = p
position_at (Over p status) = p

-- whether something was heard, or the input had ended
abbrev pub is_heard : Entry → Bool
is_heard (Said text) = false
is_heard (Heard line) = true
is_heard (Skipped line) = true
is_heard Ended = true

-- after a refusal is said: the last one that is allowed ends the dialogue
abbrev pub after_refusal : Position → ℕ → Stage
after_refusal p refusals =
    if refusals + 1 == MAX_REFUSALS then Over p OUT_OF_REPLIES else At p (refusals + 1)

-- after a line that says a free point, and after one that is refused
abbrev pub after_reply : Contest → Position → ℕ → Result ℕ ReplyFault → Stage
after_reply c p refusals (Ok v) = At (moved c.rules p v) refusals
after_reply c p refusals (Err fault) = Owes p refusals fault

-- the game goes on and the other side is to move
abbrev pub IsTheirs : Contest → Side → Position → Type 0
IsTheirs c side p = (c.rules.over p ≡ false) × (p.turn ≡ other side)

-- the game is over, and the text says its outcome
abbrev pub SaysResult : Contest → Position → Bytes → Stage → Type 0
SaysResult c p text next =
    (c.rules.over p ≡ true) × (text ≡ result_text c.kind (c.rules.outcome p)) × (next ≡ Over p DONE)

-- the side is to move, and the text says a legal move of its own
abbrev pub SaysMove : Contest → Side → Position → ℕ → Bytes → Stage → Type 0
SaysMove c side p refusals text next = (v : ℕ) × (c.rules.over p ≡ false)
    × (p.turn ≡ side)
    × (v < c.rules.points)
    × (is_free p v ≡ true)
    × (text ≡ move_text v)
    × (next ≡ At (moved c.rules p v) refusals)

-- THE RULES: the entry that may come next, and where it leads; in a turn of several points each is
-- an entry of its own. The end of the input ends the dialogue
abbrev pub Steps : Contest → Side → Stage → Entry → Stage → Type 0
Steps c side (At p refusals) (Said text) next =
    SaysResult c p text next ⊎ SaysMove c side p refusals text next
Steps c side (At p refusals) (Heard line) next =
    IsTheirs c side p × (next ≡ after_reply c p refusals (replied_point c.rules p line))
Steps c side (At p refusals) (Skipped line) next =
    IsTheirs c side p × (next ≡ Owes p refusals NoNumber)
Steps c side (At p refusals) Ended next = IsTheirs c side p × (next ≡ Over p INPUT_ENDED)
Steps c side (Owes p refusals fault) (Said text) next =
    (text ≡ reply_text fault) × (next ≡ after_refusal p refusals)
Steps c side (Owes p refusals fault) (Heard line) next = ⊥
Steps c side (Owes p refusals fault) (Skipped line) next = ⊥
Steps c side (Owes p refusals fault) Ended next = ⊥
Steps c side (Over p status) entry next = ⊥

-- the entries lead from one stage to another
abbrev pub Leads : Contest → Side → Stage → List Entry → Stage → Type 0
Leads c side s [] t = t ≡ s
Leads c side s (entry ∷ entries) t = (m : Stage) × Steps c side s entry m × Leads c side m entries t

-- the dialogue hasn't ended
abbrev pub IsOpen : Stage → Type 0
IsOpen (At p refusals) = ⊤
IsOpen (Owes p refusals fault) = ⊤
IsOpen (Over p status) = ⊥

-- the entries are a whole dialogue of the side from the position, with no refusals before; it ends
-- at the last position with the status
abbrev pub IsDialogue : Contest → Side → Position → List Entry → Position → ℕ → Type 0
IsDialogue c side p entries last status = Leads c side (At p 0) entries (Over last status)

-- the entries are the beginning of a dialogue of the side from the position, with no refusals
-- before, that hasn't ended
abbrev pub IsOpenDialogue : Contest → Side → Position → List Entry → Type 0
IsOpenDialogue c side p entries =
    (stage : Stage) × IsOpen stage × Leads c side (At p 0) entries stage

-- the entry says a legal move at the position
abbrev pub IsOwnMove : Contest → Position → Entry → Type 0
IsOwnMove c p entry =
    (v : ℕ) × (v < c.rules.points) × (is_free p v ≡ true) × (entry ≡ Said (move_text v))

-- where it is done the game is over; it goes on where the input has ended, and where too many
-- replies were refused
abbrev pub EndsWith : Contest → Position → ℕ → Type 0
EndsWith c last status = ((c.rules.over last ≡ true) × (status ≡ DONE))
    ⊎ ((c.rules.over last ≡ false) × ((status ≡ INPUT_ENDED) ⊎ (status ≡ OUT_OF_REPLIES)))
