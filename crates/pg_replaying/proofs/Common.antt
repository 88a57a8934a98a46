-- What the proofs of this crate name of the crates below.
pub use Rattle.pg_replaying.specs.Prelude.{AnyEntry, Bytes, ConsoleTold, Contains, DONE, Event}
pub use Rattle.pg_replaying.specs.Prelude.{Fault, Finds, Game, Halt, Holding, IsFound, IsLegalPlay}
pub use Rattle.pg_replaying.specs.Prelude.{IsReadAs, Look, Memory, NO_MEANING, NoMeaning, Opens}
pub use Rattle.pg_replaying.specs.Prelude.{Positional, Read, Record, Refused, Refusal, Stopped}
pub use Rattle.pg_replaying.specs.Prelude.{Telling, WRITE_FAILED, Write, any_entry, any_held}
pub use Rattle.pg_replaying.specs.Prelude.{entry, number_of, point_count, refusal_status, start}
pub use Rattle.pg_replaying.specs.Prelude.{stop_status}
unfoldable pub use Rattle.pg_replaying.specs.Prelude.{record_of}
