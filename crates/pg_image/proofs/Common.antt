-- What the proofs of this crate name of std and of the crates below.
pub use Rattle.pg_image.specs.Prelude.{AllByRecursion, Body, Bytes, Claim, Due, Fault, FileError}
pub use Rattle.pg_image.specs.Prelude.{FinSet, Four, Gathered, Gives, GridMap, Head, IsBody}
pub use Rattle.pg_image.specs.Prelude.{IsClaim, IsNode, IsReadAs, IsWithinLimits, LINE_FEED, Lacks}
pub use Rattle.pg_image.specs.Prelude.{MAX_CERT_BYTES, Move, Node, One, Part, Progress, Shape, Side}
pub use Rattle.pg_image.specs.Prelude.{Step, Turn, Two, Version, and_then, behind, body_name}
pub use Rattle.pg_image.specs.Prelude.{body_text, body_words, bytes_eq, count_words, decimal}
pub use Rattle.pg_image.specs.Prelude.{end_fault, flat_map, formed, go_on, has_body, least, lines}
pub use Rattle.pg_image.specs.Prelude.{listed, nat_cmp, node_count, node_of, number_of, numbered}
pub use Rattle.pg_image.specs.Prelude.{set_words, spaced, start, turn_of}
unfoldable pub use Rattle.pg_image.specs.Prelude.{reading, step, turn_word}
pub use Rattle.pg_cert_files.proofs.CertLimits.{AreTold, IsSound, Next, behind_more, end_of}
pub use Rattle.pg_cert_files.proofs.CertLimits.{node_comes, node_ends, sound_headed, sound_step}
pub use Rattle.pg_cert_files.proofs.CertLimits.{told_within}
pub use Rattle.pg_cert_lines.proofs.NodeLimits.{IsFit, IsRead, IsTold, chosen, done, err_not}
pub use Rattle.pg_cert_lines.proofs.NodeLimits.{formed_ok, ok_is, then_ok, turn_ok, with_form_ok}
pub use Rattle.pg_text.proofs.FirstLine.{last_line, lines_feed}
pub use Rattle.pg_text.proofs.Reading.{first_fault, is_least, is_over, reads_on}
pub use Rattle.std.proofs.lemmas.Bool.{cases_Bool, ltb-true}
pub use Rattle.std.proofs.lemmas.Bool.Decides.{nat_tests}
pub use Rattle.std.proofs.lemmas.List.{append-nil, length-append, length-map, map-append}
pub use Rattle.std.proofs.lemmas.List.Elements.{All-append, All-from_recursion, recursion_from_All}
pub use Rattle.std.proofs.lemmas.List.Sums.{sum_by-cons}
