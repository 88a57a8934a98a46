-- What splitting prints.
use Rattle.std.specs.Prelude.{ℕ, ◌+◌, ◌-◌, ◌/◌, ◌==◌, List, length, codes, fold, max}
use Rattle.std.specs.Prelude.{if◌then◌else◌}
use Rattle.std.specs.FinSet.{len}
use Rattle.pg_game.specs.declared.game.Game.{Game}
use Rattle.pg_game.specs.declared.position.Position.{Position}
use Rattle.pg_io.specs.Files.{Bytes}
use Rattle.pg_messages.specs.Texts.{counts_text, file_fault_text}
use Rattle.pg_split.specs.declared.numbering.Piece.{Piece}
use Rattle.pg_splitting.specs.declared.preparing.Decline.{Decline}
use Rattle.pg_splitting.specs.declared.preparing.Decline.TheVariants.{FaultyPlan, NoPlan, OtherPlan}

-- how many turns it takes to claim so many points, so many in each turn
abbrev pub turns_for : ℕ → ℕ → ℕ
turns_for points bias = if bias == 0 then 0 else (points + (bias - 1)) / bias

-- how many turns lead from the game's own position to this one: X claims one point in each of its
-- turns, and Y as many as the bias says
abbrev pub turns_to : Game → Position → ℕ
turns_to g p = (len p.x - len g.x) + turns_for (len p.y - len g.y) g.bias

-- how many turns lead to one of the positions at most
abbrev pub depth_of : Game → List Piece → ℕ
depth_of g pieces = fold (λ depth (p : Piece). max depth (turns_to g p.position)) 0 pieces

-- how many positions were written, and how deep they are
abbrev pub split_text : Game → List Piece → Bytes
split_text g pieces = counts_text (codes "positions ") (length pieces)
    (codes " depth ") (depth_of g pieces) (codes "\n")

-- why a game isn't split
abbrev pub decline_text : Decline → Bytes
decline_text (FaultyPlan number line) = file_fault_text (codes "plan P") number line
decline_text OtherPlan = codes "plan: of another game, or too large\n"
decline_text NoPlan = codes "plan: none for this game\n"
