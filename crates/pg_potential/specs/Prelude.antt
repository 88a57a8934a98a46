-- What the definitions of this crate name of std and of the crates below.
pub use Rattle.pg_base.specs.Points.{AreBelow, AreWithin, ShareNone}
pub use Rattle.pg_base.specs.Side.{is_same_side, other}
pub use Rattle.pg_base.specs.WordLemmas.{has_bit-at, in_members_below, members-of_words}
pub use Rattle.pg_base.specs.WordLemmas.{members-same, word_below-lt, word_of-members}
pub use Rattle.pg_base.specs.Words.{has_bit, members_below}
unfoldable pub use Rattle.pg_base.specs.Words.{word_of, words_of}
pub use Rattle.pg_base.specs.declared.goal.Goal.TheVariants.{Draw, Win}
pub use Rattle.pg_base.specs.declared.kind.Kind.TheVariants.{AvoiderEnforcer, MakerBreaker}
pub use Rattle.pg_base.specs.declared.kind.Kind.TheVariants.{MakerMaker, Switching}
pub use Rattle.pg_base.specs.declared.score.Score.TheVariants.{XWins}
pub use Rattle.pg_base.specs.declared.side.Side.{Side}
pub use Rattle.pg_base.specs.declared.side.Side.TheVariants.{X, Y}
pub use Rattle.pg_game.specs.Avoider.{AvoiderHolds, avoider_ends, avoider_limit, avoider_total}
pub use Rattle.pg_game.specs.Avoider.{avoider_weight, least, x_takes_last}
unfoldable pub use Rattle.pg_game.specs.Avoider.{avoider_answer}
pub use Rattle.pg_game.specs.Game.{IsPosition, after, bias_of, free_points, has_filled, is_empty}
pub use Rattle.pg_game.specs.Game.{is_filled, is_full, is_over, is_touched, lines_of, outcome_by}
pub use Rattle.pg_game.specs.Game.{point_count, short_joins}
unfoldable pub use Rattle.pg_game.specs.Game.{outcome}
pub use Rattle.pg_game.specs.Position.{is_free, left_after, points_of, turn_after, x_after, y_after}
pub use Rattle.pg_game.specs.Potential.{PotentialHolds, greatest, greatest_length, greatest_weight}
pub use Rattle.pg_game.specs.Potential.{limit, line_weight, point_weight, times_counted, total}
pub use Rattle.pg_game.specs.Potential.{total_weight, weight}
unfoldable pub use Rattle.pg_game.specs.Potential.{potential_answer}
pub use Rattle.pg_game.specs.Value.{Forces, reaches}
pub use Rattle.pg_game.specs.Weaker.{IsNoWorse}
pub use Rattle.pg_game.specs.declared.game.Game.{Game}
pub use Rattle.pg_game.specs.declared.position.Position.{Position}
pub use Rattle.std.specs.FinSet.{FinSet, contains, from_list, insert}
pub use Rattle.std.specs.List.{All, Contains, count_by, find, list_all, list_any, range_with_len}
pub use Rattle.std.specs.Ordering.{nat_cmp}
