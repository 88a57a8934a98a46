-- What the proofs of this crate name of std and of the crates below.
pub use Rattle.pg_record.specs.Prelude.{AllByRecursion, Bytes, Game, Illegal, IsLegalPlay}
pub use Rattle.pg_record.specs.Prelude.{IsPosition, Over, Position, Range, Stand, Switching, Taken}
pub use Rattle.pg_record.specs.Prelude.{View, after, and_then, bytes_eq, decimal, flat_map, go_on}
pub use Rattle.pg_record.specs.Prelude.{judged_move, least, lines, number, parts, played}
pub use Rattle.pg_record.specs.Prelude.{point_count, spaced, spelled, start, unless, vec_len}
unfoldable pub use Rattle.pg_record.specs.Prelude.{reading}
pub use Rattle.pg_game.proofs.Limits.{point_count-le}
pub use Rattle.pg_game.proofs.Moves.{IsPosition-played, IsPosition-start}
pub use Rattle.pg_text.proofs.PlainWords.{IsWord, decimal_is_word, quiet_lacks_feed, spaced_quiet}
pub use Rattle.pg_text.proofs.PlainWords.{words_spaced}
pub use Rattle.pg_text.proofs.Reading.{ends, first_fault, is_least, is_over, lines_few, reads_on}
pub use Rattle.pg_text.proofs.Reading.{unless_err}
pub use Rattle.std.proofs.lemmas.Bool.{false≢true, ltb-true}
pub use Rattle.std.proofs.lemmas.Bool.Decides.{nat_tests}
pub use Rattle.std.proofs.lemmas.List.{append-nil, length-append, length-map, length-take-le}
pub use Rattle.std.proofs.lemmas.List.{length_push, map-append, take_at, take_more}
