-- What the definitions of this crate name of std and of the crates below.
pub use Rattle.pg_base.specs.Goal.{goal_word}
pub use Rattle.pg_base.specs.Side.{side_word}
pub use Rattle.pg_base.specs.declared.limits.TheConstants.{MAX_MEMBERS}
pub use Rattle.pg_base.specs.declared.pair.Pair.{Pair}
pub use Rattle.pg_base.specs.declared.side.Side.{Side}
pub use Rattle.pg_base.specs.declared.side.Side.TheVariants.{X}
pub use Rattle.pg_base.specs.declared.signs.TheConstants.{BAR, LINE_FEED, SPACE}
pub use Rattle.pg_cert.specs.Limits.{IsClaim, IsNode, IsOfVersion, IsWithinLimits, node_count}
pub use Rattle.pg_cert.specs.Parts.{BeginCert, all_parts, claim_parts, parts_of}
pub use Rattle.pg_cert.specs.Print.{claim_words, count_words, header}
unfoldable pub use Rattle.pg_cert.specs.Print.{claim_text, node_text, printed_certificate}
pub use Rattle.pg_cert.specs.declared.cert.Cert.{Cert}
pub use Rattle.pg_cert.specs.declared.cert.Claim.{Claim}
pub use Rattle.pg_cert.specs.declared.cert.Version.{Version}
pub use Rattle.pg_cert.specs.declared.cert.Version.TheVariants.{One, Two}
pub use Rattle.pg_cert.specs.declared.limits.TheConstants.{MAX_CLAIMS, MAX_CLAIM_NODES, MAX_NODES}
pub use Rattle.pg_cert.specs.declared.node.Body.{Body}
pub use Rattle.pg_cert.specs.declared.node.Node.{Node}
pub use Rattle.pg_cert.specs.declared.part.Part.{Part}
pub use Rattle.pg_cert_lines.specs.ClaimLine.{count_of_two, version_of}
unfoldable pub use Rattle.pg_cert_lines.specs.ClaimLine.{count_of, head_of}
pub use Rattle.pg_cert_lines.specs.Form.{Shape, each_has_one, has_bar, turn_of, with_body}
pub use Rattle.pg_cert_lines.specs.Form.{with_form}
unfoldable pub use Rattle.pg_cert_lines.specs.Form.{shape_of}
pub use Rattle.pg_cert_lines.specs.NodeLine.{ascending_of, field_words, formed, node_of, node_with}
pub use Rattle.pg_cert_lines.specs.NodeLine.{word_pair}
unfoldable pub use Rattle.pg_cert_lines.specs.NodeLine.{node_line}
pub use Rattle.pg_cert_lines.specs.Views.{IsReadAs, number_of}
pub use Rattle.pg_cert_lines.specs.declared.fault.Fault.{Fault}
pub use Rattle.pg_cert_lines.specs.declared.head.Head.{Head}
pub use Rattle.pg_cert_lines.specs.declared.signs.TheConstants.{HYPHEN}
pub use Rattle.pg_game.specs.Game.{is_touched}
pub use Rattle.pg_game.specs.Pairs.{has_point, is_paired}
pub use Rattle.pg_text.specs.Faults.{Fails, Gives, and_then, each_of, following, least, onto}
pub use Rattle.pg_text.specs.Text.{Bytes, Lacks, parts, spaced, two_parts, without_empty_end}
unfoldable pub use Rattle.pg_text.specs.Text.{four_parts, lines, number}
pub use Rattle.pg_text.specs.declared.error.FileError.{FileError}
pub use Rattle.pg_text.specs.declared.error.LineError.{LineError}
pub use Rattle.std.specs.FinSet.{FinSet, contains, contains-empty, empty, from_list, insert}
pub use Rattle.std.specs.Fmt.{decimal}
pub use Rattle.std.specs.Global.{Vec}
pub use Rattle.std.specs.List.{AllByRecursion, flat_map, join_with_byte, list_any}
pub use Rattle.std.specs.List.{onto_first, slice_split}
pub use Rattle.std.specs.Ordering.{nat_cmp}
