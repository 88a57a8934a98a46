-- A play: a claim that is said, and a dialogue of its side.
use Rattle.std.specs.Prelude.{◌≡◌, ℕ, List, ◌∷◌, IsTrue}
use Rattle.pg_talk.specs.Prelude.{Entry, Said, reaches, Position, claim_text, DONE}
use Rattle.pg_talk.specs.Contender.{Contender}
use Rattle.pg_talk.specs.Dialogue.{IsDialogue, IsOpenDialogue}
use Rattle.pg_talk.specs.Done.{End, Finished, Failed, Starved}

-- the claim is said, and a whole dialogue of its side from the player's position follows, which
-- ends with the status. Where it is done the outcome reaches the claim's goal for the side
pub record IsWholePlay (player : Contender) (entries : List Entry) (status : ℕ) : Type 0 where
  pub others : List Entry
  pub said : entries ≡ Said (claim_text player.side player.goal) ∷ others
  pub last : Position
  pub dialogue : IsDialogue player.contest player.side player.position others last status
  pub reached : status ≡ DONE
      → IsTrue (reaches player.side player.goal (player.contest.rules.outcome last))

-- the claim is said, and the beginning of a dialogue of its side from the player's position follows
pub record IsOpenPlay (player : Contender) (entries : List Entry) : Type 0 where
  pub others : List Entry
  pub said : entries ≡ Said (claim_text player.side player.goal) ∷ others
  pub dialogue : IsOpenDialogue player.contest player.side player.position others

-- a play is whole, or where a call fails open. It never ends so for want of memory
abbrev pub IsPlay : Contender → List Entry → End → Type 0
IsPlay player entries (Finished status) = IsWholePlay player entries status
IsPlay player entries Failed = IsOpenPlay player entries
IsPlay player entries Starved = ⊥
