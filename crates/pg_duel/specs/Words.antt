-- What the program says of its moves, of their rules and of its claim.
use Rattle.std.specs.Prelude.{ℕ, ◌-◌, ◌++◌, List, [], ◌∷◌, length, Option, Some, None, codes}
use Rattle.std.specs.Prelude.{slice_get}
use Rattle.pg_duel.specs.Prelude.{AtLeastDraw, Bytes, Claim, Field, Game, Goal, Look, Note}
use Rattle.pg_duel.specs.Prelude.{OwnPoint, Position, Rule, Score, Side, Sitting, Win, X, Y}
use Rattle.pg_duel.specs.Prelude.{note_text, point_name, screen_text, turn_text}
use Rattle.pg_duel.specs.declared.words.TheConstants.{REASONS}
use Rattle.pg_player.specs.declared.rule.Rule.TheVariants as rules
use Rattle.pg_playing.specs.declared.note.Note.TheVariants as notes

-- ---- the program's moves

-- the words of a rule
abbrev pub rule_text : Rule → Bytes
rule_text rules.Over = codes "the end"
rule_text rules.Named = codes "the proof"
rule_text rules.Replies = codes "the replies"
rule_text rules.Pairs = codes "pairs"
rule_text rules.Weights = codes "weights"
rule_text rules.Trees = codes "two trees"
rule_text rules.Cuts = codes "two cuts"
rule_text rules.Threats = codes "threats"
rule_text rules.Weaker = codes "a weaker position"

-- the reply that a move answers, if it answers one
abbrev pub taken_text : Field → Option ℕ → Bytes
taken_text f None = []
taken_text f (Some v) = codes "you took " ++ (point_name f v ++ codes ", ")

-- a line for a point that the program has claimed: the rule by which it chose the point, the reply,
-- and the point
abbrev pub move_text : Field → Option ℕ → OwnPoint → Bytes
move_text f reply made = rule_text made.rule ++ (codes ": " ++ (taken_text f reply
    ++ (codes "I take " ++ (point_name f made.point ++ codes ".\n"))))

-- a line for each point that the program has claimed since this reply; the first answers it
abbrev pub own_text : Field → Option ℕ → List OwnPoint → Bytes
own_text f reply [] = []
own_text f reply (made ∷ others) = move_text f reply made ++ own_text f None others

-- the last reply, if there is one
abbrev pub last_of : List ℕ → Option ℕ
last_of replies = slice_get replies (length replies - 1)

-- what the program reaches, whatever the person claims
abbrev pub promise_text : Side → Goal → Bytes
promise_text X Win = codes "I play X and win, whatever you claim.\n"
promise_text X AtLeastDraw = codes "I play X and don't lose, whatever you claim.\n"
promise_text Y Win = codes "I play O and win, whatever you claim.\n"
promise_text Y AtLeastDraw = codes "I play O and don't lose, whatever you claim.\n"

-- the text that shows a game against the program: its points since the last reply, what it reaches,
-- and the board with what each side wants and whose turn it is or who has won
abbrev pub seat_text : Look → Game → Claim → Sitting → Option Score → Bytes
seat_text look g c s ending = own_text g.field (last_of s.replies) s.own
    ++ (promise_text c.side c.goal ++ screen_text look g s.events ending)

-- ---- answers

-- what `?` explains besides
abbrev pub reasons_text : Note → Bytes
reasons_text notes.Help = REASONS.now
reasons_text (notes.Lines through) = []
reasons_text (notes.Refused fault) = []

-- an answer to a line that changes nothing, and whose turn it is
abbrev pub reply_text : Game → Position → Note → Bytes
reply_text g p note = note_text g p note ++ (reasons_text note ++ turn_text p)
