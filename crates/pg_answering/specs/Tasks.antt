-- WHAT THE ARGUMENTS OF `posgame-settle` ASK FOR.
use Rattle.std.specs.Prelude.{Bool, false, ◌==◌, ◌||◌, if◌then◌else◌, List, [], ◌∷◌, codes}
use Rattle.std.specs.Prelude.{Option, Some, None, option_and_then, option_map}
use Rattle.std.specs.Str.{bytes_eq}
use Rattle.pg_io.specs.Files.{Bytes}
use Rattle.pg_request.specs.Options.{options_of}
use Rattle.pg_request.specs.declared.options.Options.{Options}
use Rattle.pg_settle.specs.Budgets.{budget_for}
use Rattle.pg_settle.specs.declared.budget.Budget.{Budget}
use Rattle.pg_answering.specs.declared.tasks.Wishes.{Wishes}
use Rattle.pg_answering.specs.declared.tasks.TheConstants.{DASH}

-- the options with their budget
abbrev pub wishes_by : Options → Budget → Wishes
wishes_by o budget = record { budget = budget; images = o.images; json = o.json }

-- what the options ask for, if their numbers are within their ranges
abbrev pub wishes_with : Options → Option Wishes
wishes_with o = option_map (wishes_by o) (budget_for o.positions o.entries o.nodes)

abbrev pub wishes_of : List Bytes → Option Wishes
wishes_of options = option_and_then wishes_with (options_of options)

-- a task, by the names of files: a game is settled and the certificate stored, or the moves of a
-- game are tried
pub data Task : Type 0 where
  OfGame : Bytes → Bytes → Wishes → Task
  OfMoves : Bytes → Wishes → Task

-- whether a word begins as an option does
abbrev pub is_option : Bytes → Bool
is_option [] = false
is_option (b ∷ word) = b == DASH

-- the task of two words and wishes: `moves` and a game, or a game and a certificate
abbrev pub task_by : Bytes → Bytes → Wishes → Option Task
task_by first second w = if is_option first || is_option second then None
    else if bytes_eq (codes "moves") first
    then (if w.images then None else Some (OfMoves second w))
    else Some (OfGame first second w)

-- what arguments ask for: two words, and options after them
abbrev pub task_of : List Bytes → Option Task
task_of (first ∷ second ∷ options) = option_and_then (task_by first second) (wishes_of options)
task_of _ = None
