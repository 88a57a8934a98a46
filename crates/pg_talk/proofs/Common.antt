-- What the proofs of this crate name of std and of the crates below.
pub use Rattle.pg_talk.specs.Prelude.{Bytes, Cert, ConsoleTold, Consumes, DONE, Ended, Entry}
pub use Rattle.pg_talk.specs.Prelude.{FileError, FilesTold, Game, Goal, Grows, Heard, Holding}
pub use Rattle.pg_talk.specs.Prelude.{INPUT_ENDED, Illegal, IsFile, IsPlayBy, IsReadAs, IsWhole}
pub use Rattle.pg_talk.specs.Prelude.{Kind, Making, MayStore, Memory, Message, NoNumber, NoPoint}
pub use Rattle.pg_talk.specs.Prelude.{OUT_OF_REPLIES, Play, Position, Read, Refusal, ReplyFault}
pub use Rattle.pg_talk.specs.Prelude.{Rules, Said, Says, Side, Skipped, Stop, Stored, Stores, Taken}
pub use Rattle.pg_talk.specs.Prelude.{Write, bytes_eq, claim_text, ending_by, entry, free_below}
pub use Rattle.pg_talk.specs.Prelude.{is_free, judged_by, message_text, move_text, moved, number_of}
pub use Rattle.pg_talk.specs.Prelude.{other, played_by, reaches, reply, reply_text, result_text}
unfoldable pub use Rattle.pg_talk.specs.Prelude.{certificate, game}
pub use Rattle.std.proofs.lemmas.Bool.Decides.{nat_tests}
pub use Rattle.std.proofs.lemmas.List.{append-nil, map-append, map_more, take-append-drop, take_all}
pub use Rattle.std.proofs.lemmas.Result.{err_from_is_err_and}
