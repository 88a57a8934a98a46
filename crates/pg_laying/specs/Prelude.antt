-- What the definitions of this crate name of std and of the crates below.
pub use Rattle.pg_drawing.specs.Boards.{AnyEntry, any_entry, any_held}
pub use Rattle.pg_drawing.specs.Boards.AnyEntry.{Connectivity, Positional, Vectors}
pub use Rattle.pg_drawing.specs.Runs.{EndsWith}
pub use Rattle.pg_game.specs.declared.bounds.TheConstants.{MAX_POINTS}
pub use Rattle.pg_game.specs.declared.field.Field.{Field}
pub use Rattle.pg_game.specs.declared.field.Field.TheVariants.{Graph, Lines}
pub use Rattle.pg_io.specs.Causes.{Faults}
pub use Rattle.pg_io.specs.Console.{ConsoleTold}
pub use Rattle.pg_io.specs.Files.{Bytes, Holding, IsAbsent, ReadsOnly}
pub use Rattle.pg_io.specs.Stop.{StopCauses}
unfoldable pub use Rattle.pg_layout.specs.LayoutFile.{layout_of}
pub use Rattle.pg_layout.specs.Layouts.{IsLayout}
pub use Rattle.pg_layout.specs.Views.{number_of}
pub use Rattle.pg_layout.specs.declared.fault.Fault.{Fault}
pub use Rattle.pg_layout.specs.declared.spot.Spot.{Spot}
pub use Rattle.pg_messages.specs.Statuses.{refusal_status}
pub use Rattle.pg_messages.specs.Texts.{refusal_text}
pub use Rattle.pg_messages.specs.declared.refusal.Refusal.TheVariants.{Game}
pub use Rattle.pg_messages.specs.declared.statuses.TheConstants.{NO_MEMORY}
pub use Rattle.pg_talk.specs.Halts.{IsGameHalt, stop_status}
pub use Rattle.pg_talk.specs.Reading.{lacking}
pub use Rattle.pg_talk.specs.declared.halt.Halt.{Halt}
pub use Rattle.pg_talk.specs.declared.halt.Halt.TheVariants.{Refused, Stopped}
pub use Rattle.std.specs.Fmt.{decimal}
