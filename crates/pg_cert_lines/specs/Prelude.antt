-- What the definitions of this crate name of std and of the crates below.
pub use Rattle.pg_base.specs.Goal.{goal_of}
pub use Rattle.pg_base.specs.Side.{side_of, side_word}
pub use Rattle.pg_base.specs.declared.goal.Goal.{Goal}
pub use Rattle.pg_base.specs.declared.limits.TheConstants.{MAX_MEMBERS}
pub use Rattle.pg_base.specs.declared.pair.Pair.{Pair}
pub use Rattle.pg_base.specs.declared.side.Side.{Side}
pub use Rattle.pg_base.specs.declared.side.Side.TheVariants.{X, Y}
pub use Rattle.pg_base.specs.declared.signs.TheConstants.{BAR, SPACE}
pub use Rattle.pg_cert.specs.Limits.{ArePoints, IsBody, IsNode, IsPair, IsReply, IsTurn, has_body}
pub use Rattle.pg_cert.specs.Print.{body_name, body_text, body_words, edge_words, pair_word}
pub use Rattle.pg_cert.specs.Print.{reply_word, set_words}
unfoldable pub use Rattle.pg_cert.specs.Print.{turn_word}
pub use Rattle.pg_cert.specs.declared.cert.Version.{Version}
pub use Rattle.pg_cert.specs.declared.cert.Version.TheVariants.{One, Two}
pub use Rattle.pg_cert.specs.declared.limits.TheConstants.{MAX_CLAIM_NODES}
pub use Rattle.pg_cert.specs.declared.node.Body.{Body}
pub use Rattle.pg_cert.specs.declared.node.Node.{Node}
pub use Rattle.pg_cert.specs.declared.part.Part.{Part}
pub use Rattle.pg_cert.specs.declared.reply.Reply.{Reply}
pub use Rattle.pg_game.specs.Game.{is_touched}
pub use Rattle.pg_text.specs.Faults.{Fails, Gives, and_then, each_of, following, onto}
pub use Rattle.pg_text.specs.Text.{Bytes, Four, Lacks, ascend_from, behind_spaces, pair_of, parts}
pub use Rattle.pg_text.specs.Text.{spaced, two_parts, words_of}
unfoldable pub use Rattle.pg_text.specs.Text.{four_parts, number}
pub use Rattle.pg_text.specs.declared.error.LineError.{LineError}
pub use Rattle.pg_text.specs.declared.numbers.TheConstants.{MAX_DIGITS}
pub use Rattle.std.specs.Borrow.{Bor}
pub use Rattle.std.specs.Char.{is_ascii_digit}
pub use Rattle.std.specs.FinSet.{FinSet, contains, contains-empty, contains-from_list_nat, empty}
pub use Rattle.std.specs.FinSet.{from_list, from_list_push, insert, nat_cmp-IsAntisymmetric}
pub use Rattle.std.specs.Fmt.{decimal}
pub use Rattle.std.specs.Global.{Vec}
pub use Rattle.std.specs.List.{All, AllByRecursion, list_all, list_any}
pub use Rattle.std.specs.Ordering.{nat_cmp}
pub use Rattle.std.specs.Str.{bytes_eq}
pub use Rattle.std.specs.Str.Parse.{digits_value}
