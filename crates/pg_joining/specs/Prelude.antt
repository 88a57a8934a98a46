-- What the definitions of this crate name of std and of the crates below.
pub use Rattle.pg_backing.specs.declared.report.Need.{Need}
pub use Rattle.pg_game.specs.declared.game.Game.{Game}
pub use Rattle.pg_io.specs.Causes.{Faults, Rose}
pub use Rattle.pg_io.specs.Console.{ConsoleTold, Grows}
pub use Rattle.pg_io.specs.Files.{Bytes, FilesTold, Holding, IsAbsent, ReadsOnly}
pub use Rattle.pg_io.specs.Stop.{StopCauses}
pub use Rattle.pg_io.specs.declared.entry.Entry.TheVariants.{Said}
pub use Rattle.pg_io.specs.declared.entry.Entry.{Entry}
pub use Rattle.pg_join.specs.Needs.{needs_text}
pub use Rattle.pg_messages.specs.declared.statuses.TheConstants.{DONE, FAULTY_GAME, NO_MEMORY}
pub use Rattle.pg_messages.specs.declared.statuses.TheConstants.{READ_FAILED, REFUSED, UNKNOWN}
pub use Rattle.pg_messages.specs.declared.statuses.TheConstants.{WRITE_FAILED}
pub use Rattle.pg_plan.specs.Names.{name_in}
pub use Rattle.pg_plan.specs.Views.{number_of}
unfoldable pub use Rattle.pg_plan.specs.PlanFile.{plan_of}
pub use Rattle.pg_plan.specs.declared.fault.Fault.{Fault}
pub use Rattle.pg_plan.specs.declared.place.Place.{Place}
pub use Rattle.pg_results.specs.GameRuns.{IsSilent, game_statuses}
pub use Rattle.pg_settle.specs.Budgets.{IsBudget}
pub use Rattle.pg_settle.specs.Runs.{Allows, AnnouncesValue}
pub use Rattle.pg_settle.specs.Settling.{Form, form_of}
pub use Rattle.pg_settle.specs.declared.budget.Budget.{Budget}
pub use Rattle.pg_settle.specs.declared.finding.Outcome.{Outcome}
pub use Rattle.pg_talk.specs.Done.{Changes, Done, End, Failed, Finished, IsNothing, Starved, behind}
pub use Rattle.pg_talk.specs.Done.{ending, talk}
pub use Rattle.pg_talk.specs.Halts.{HasCause}
pub use Rattle.pg_talk.specs.Opening.{IsGameLacking}
pub use Rattle.pg_talk.specs.Storing.{StoresAt}
pub use Rattle.std.specs.List.{Contains}
