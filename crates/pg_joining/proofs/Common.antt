-- What the proofs of this crate name of std and of the crates below.
pub use Rattle.pg_joining.specs.Prelude.{Allows, AnnouncesValue, Budget, Bytes, Changes}
pub use Rattle.pg_joining.specs.Prelude.{ConsoleTold, Contains, Done, End, Entry, REFUSED}
pub use Rattle.pg_joining.specs.Prelude.{Failed, Fault, Faults, FilesTold, Finished, Form, Game}
pub use Rattle.pg_joining.specs.Prelude.{Grows, HasCause, Holding, IsNothing, IsSilent, NO_MEMORY}
pub use Rattle.pg_joining.specs.Prelude.{DONE, FAULTY_GAME, READ_FAILED}
pub use Rattle.pg_joining.specs.Prelude.{Need, Place, ReadsOnly, Rose, Said, Starved, StopCauses}
pub use Rattle.pg_joining.specs.Prelude.{StoresAt, UNKNOWN, WRITE_FAILED, behind, ending}
pub use Rattle.pg_joining.specs.Prelude.{form_of, game_statuses, needs_text, number_of, talk}
unfoldable pub use Rattle.pg_joining.specs.Prelude.{plan_of}
pub use Rattle.pg_families.proofs.Announced.{apart, none_of, one_of, said_is}
pub use Rattle.pg_io.specs.Reading.{IsFile, IsWhole}
pub use Rattle.pg_io.specs.declared.stop.Stop.TheVariants.{Memory, Read, Write}
pub use Rattle.pg_io.specs.declared.stop.Stop.{Stop}
pub use Rattle.pg_results.proofs.Causes.{cause_early, stop_ends}
pub use Rattle.pg_results.specs.Ending.{Ends}
pub use Rattle.pg_settle.specs.Runs.{IsLineOf, Ran, RanOn, SaysValue}
pub use Rattle.pg_talk.proofs.Openings.{cut_same}
pub use Rattle.pg_talk.proofs.Runs.{kept, silent, talked_texts}
pub use Rattle.pg_talk.proofs.Speaking.{Grows-nothing, Grows-then}
pub use Rattle.pg_talk.proofs.Talking.{Hearing-said, Hearing-then}
pub use Rattle.pg_talk.specs.Done.{nothing, stop_end}
pub use Rattle.pg_talk.specs.Halts.{BothCauses, Calm, ReadCause, stop_status}
pub use Rattle.pg_talk.specs.Hearing.{Hearing}
pub use Rattle.pg_talk.specs.Opening.{IsGameLacking}
pub use Rattle.pg_talk.specs.Storing.{KeepOthers}
pub use Rattle.pg_talk.specs.declared.halt.Halt.TheVariants.{Stopped as StoppedHalt}
pub use Rattle.std.proofs.lemmas.List.Elements.{Contains-append_cases}
pub use Rattle.std.proofs.lemmas.List.{append_cancel_left}
