-- What the definitions of this crate name of std and of the crates below.
pub use Rattle.pg_base.specs.Points.{AreBelow, ShareNone, members}
pub use Rattle.pg_base.specs.Side.{side_of, side_word}
pub use Rattle.pg_base.specs.declared.limits.TheConstants.{MAX_EDGES, MAX_MEMBERS}
pub use Rattle.pg_base.specs.declared.side.Side.{Side}
pub use Rattle.pg_base.specs.declared.signs.TheConstants.{SPACE}
pub use Rattle.pg_cert.specs.Print.{set_words}
pub use Rattle.pg_cert.specs.declared.limits.TheConstants.{MAX_CLAIMS}
pub use Rattle.pg_cert_lines.specs.Form.{has_one_slash, is_slash}
pub use Rattle.pg_cert_lines.specs.NodeLine.{after_slash, before_slash}
pub use Rattle.pg_files.specs.GameFile.{begins_comment, first, first_number, is_outside}
pub use Rattle.pg_files.specs.GameFile.{is_printable, numbers_of, rest, second_number}
pub use Rattle.pg_files.specs.Print.{edge_words, last_lines, marked, number_words}
pub use Rattle.pg_files.specs.Sets.{repeats, set_of}
pub use Rattle.pg_files.specs.Views.{IsReadAs, number_of}
pub use Rattle.pg_files.specs.declared.fault.Fault.{Fault}
pub use Rattle.pg_files.specs.declared.limits.TheConstants.{MAX_GAME_BYTES}
pub use Rattle.pg_game.specs.declared.bounds.TheConstants.{MAX_VERTICES}
pub use Rattle.pg_gf2.specs.Fits.{AreVectorParts}
pub use Rattle.pg_gf2.specs.declared.game.TheConstants.{MAX_ROWS, MAX_VECTORS}
pub use Rattle.pg_gf2.specs.declared.game.VecGame.{VecGame}
pub use Rattle.pg_graph.specs.declared.graph.Graph.{Graph}
pub use Rattle.pg_span.specs.Fits.{AreSpanParts}
pub use Rattle.pg_span.specs.declared.cert.SpanBody.{SpanBody}
pub use Rattle.pg_span.specs.declared.cert.SpanCert.{SpanCert}
pub use Rattle.pg_span.specs.declared.cert.SpanClaim.{SpanClaim}
pub use Rattle.pg_span.specs.declared.game.SpanGame.{SpanGame}
pub use Rattle.pg_text.specs.Faults.{Becomes, Gives, IsLeast, and_then, each_of, following, go_on}
pub use Rattle.pg_text.specs.Faults.{least, onto, unless}
unfoldable pub use Rattle.pg_text.specs.Faults.{reading}
pub use Rattle.pg_text.specs.Text.{Bytes, ascend_from, behind_spaces, number, numbers, parts}
pub use Rattle.pg_text.specs.Text.{spaced, spelled}
unfoldable pub use Rattle.pg_text.specs.Text.{lines, words}
pub use Rattle.pg_text.specs.declared.error.FileError.{FileError}
pub use Rattle.std.specs.FinSet.{FinSet, contains, contains-empty, contains-from_list_nat, empty}
pub use Rattle.std.specs.FinSet.{from_list}
pub use Rattle.std.specs.Fmt.{decimal}
pub use Rattle.std.specs.List.{All, AllByRecursion, flat_map, list_all, list_any}
pub use Rattle.std.specs.Ordering.{nat_cmp}
pub use Rattle.std.specs.Str.{bytes_eq}
