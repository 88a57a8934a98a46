-- Parts of a dialogue over a console.
use Rattle.std.specs.Prelude.{◌≡◌, ◌<◌, ℕ, List, length, Option, Result, Ok, Err, ⊤}
use Rattle.pg_talk.specs.Prelude.{Side, Entry, Stop, Bytes, ConsoleTold, Grows, Position}
use Rattle.pg_talk.specs.Prelude.{free_below, INPUT_ENDED}
use Rattle.pg_talk.specs.Contender.{Contender, at}
use Rattle.pg_talk.specs.Contest.{Contest}
use Rattle.pg_talk.specs.Dialogue.{Stage, At, Over, IsTheirs, Leads, IsOpen, after_refusal}
use Rattle.pg_talk.specs.Dialogue.{after_reply}
use Rattle.pg_talk.specs.Hearing.{Hearing}
use Rattle.pg_talk.specs.Reply.{point_or_refusal}
use Rattle.pg_talk.specs.declared.dialogue.Turn.{Turn}
use Rattle.pg_talk.specs.declared.dialogue.Turn.TheVariants as turns

-- the same console with this input left
abbrev pub with_left : ConsoleTold → Option Bytes → ConsoleTold
with_left console left = record console { left = left }

-- from one moment to another the log grew by entries that lead from one stage to another, and what
-- was heard among them is the input
pub record Talk (c : Contest) (side : Side) (before now : ConsoleTold) (s t : Stage) : Type 0 where
  pub entries : List Entry
  pub log : Grows before.log now.log entries
  pub input : Hearing before.left entries now.left
  pub leads : Leads c side s entries t

-- after entries that lead to a stage before the end, a call has failed; what is left of the input
-- isn't said
pub record BreaksOff (c : Contest) (side : Side) (before now : ConsoleTold)
    (s : Stage) : Type 0 where
  pub stage : Stage
  pub unended : IsOpen stage
  pub unread : Option Bytes
  pub talk : Talk c side before (with_left now unread) s stage

-- work that leads from a stage to the one that belongs to what it gives, or breaks off
abbrev pub Talks : {T : Type 0}
    → Contest
    → Side
    → ConsoleTold
    → ConsoleTold
    → Stage
    → Result T Stop
    → (T → Stage)
    → Type 0
Talks c side before now s (Ok x) to = Talk c side before now s (to x)
Talks c side before now s (Err stop) to = BreaksOff c side before now s

-- the same in a player's contest
abbrev pub TalksFrom : {T : Type 0}
    → Contender
    → ConsoleTold
    → ConsoleTold
    → Stage
    → Result T Stop
    → (T → Stage)
    → Type 0
TalksFrom player before now s result to = Talks player.contest player.side before now s result to

-- the game goes on and the other side is to move
abbrev pub IsTheirTurn : Contender → Type 0
IsTheirTurn player = IsTheirs player.contest player.side player.position

-- the stage after a number is heard, or a line that says none
abbrev pub answered : Contender → ℕ → Option ℕ → Stage
answered player refused o = after_reply player.contest player.position refused
    (point_or_refusal player.contest.rules player.position o)

-- where a turn leads that ends at the position
abbrev pub turned : Position → ℕ → Turn → Stage
turned p refused turns.Played = At p refused
turned p refused turns.Refused = after_refusal p refused
turned p refused turns.Ended = Over p INPUT_ENDED

-- how many points are free
abbrev pub free_count : Contender → ℕ
free_count player = length (free_below player.contest.rules.points player.position)

-- a turn that is played leaves fewer points free; any other changes nothing
abbrev pub Goes : Contender → Contender → Result Turn Stop → Type 0
Goes old new (Ok turns.Played) = (free_count new < free_count old) × (new ≡ at old new.position)
Goes old new (Ok turns.Refused) = new ≡ old
Goes old new (Ok turns.Ended) = new ≡ old
Goes old new (Err stop) = ⊤
