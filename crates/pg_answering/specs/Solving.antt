-- A RUN OF `posgame`.
use Rattle.std.specs.Prelude.{◌≡◌, ℕ, List, [], None}
use Rattle.std.specs.List.{Contains}
use Rattle.pg_io.specs.Files.{Bytes}
use Rattle.pg_cli.specs.Commands.{IsLacking, LeavesFiles, LeavesWork, SaysNoMeaning, Silences}
use Rattle.pg_cli.specs.Commands.{SpeaksInTime, asked, statuses_of}
use Rattle.pg_cli.specs.Forced.{AnnouncesForced}
use Rattle.pg_cli.specs.Run.{Ran}
use Rattle.pg_pns.specs.Expanded.{Expanded}
use Rattle.pg_talk.specs.Halts.{HasCause}
use Rattle.pg_answering.specs.Machine.{Told}

-- the work of a search that hasn't begun
abbrev pub no_work : Expanded
no_work = record { question = None; positions = [] }

-- A run with these arguments takes files and console from the first state to the second, and ends
-- with this status: each clause of `run` of `pg_cli` holds, with `work` as the positions that were
-- expanded.
pub record RunsPosgame (arguments : List Bytes) (before after : Told) (status : ℕ) : Type 0 where
  pub work : Expanded
  pub ran : Ran (asked arguments) work before.files after.files
      before.console after.console status
  pub forced : AnnouncesForced before.files.held (asked arguments)
      before.console.log after.console.log
  pub silent : Silences (asked arguments) before.console after.console status
  pub files : LeavesFiles (asked arguments) before.files after.files
  pub expanded : LeavesWork before.files.held (asked arguments) no_work work
  pub prompt : SpeaksInTime before.files.held (asked arguments) no_work work
      before.console after.console
  pub statuses : Contains (statuses_of (asked arguments)) status
  pub words : asked arguments ≡ None → SaysNoMeaning before.console after.console status
  pub causes : HasCause (IsLacking before.files.held (asked arguments)) before.files after.files
      before.console after.console status
