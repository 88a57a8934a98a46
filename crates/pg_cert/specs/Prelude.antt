-- What the definitions of this crate name of std and of the crates below.
pub use Rattle.pg_base.specs.Points.{AreBelow, members}
pub use Rattle.pg_base.specs.Side.{other, side_word}
pub use Rattle.pg_base.specs.declared.kind.Kind.{Kind}
pub use Rattle.pg_base.specs.declared.kind.Kind.TheVariants.{AvoiderEnforcer, MakerBreaker}
pub use Rattle.pg_base.specs.declared.kind.Kind.TheVariants.{MakerMaker, Switching}
pub use Rattle.pg_base.specs.declared.limits.TheConstants.{MAX_MEMBERS}
pub use Rattle.pg_base.specs.declared.pair.Pair.{Pair}
pub use Rattle.pg_base.specs.declared.side.Side.{Side}
pub use Rattle.pg_base.specs.declared.side.Side.TheVariants.{X, Y}
pub use Rattle.pg_base.specs.declared.signs.TheConstants.{BAR, LINE_FEED}
pub use Rattle.pg_game.specs.Avoider.{AvoiderHolds, avoider_answer}
pub use Rattle.pg_game.specs.Game.{after, bias_of, free_points, is_over, outcome, point_count}
pub use Rattle.pg_game.specs.Game.{with_turn}
pub use Rattle.pg_game.specs.Pairs.{PairsHold, pairs_answer}
pub use Rattle.pg_game.specs.Potential.{PotentialHolds, potential_answer}
pub use Rattle.pg_game.specs.Trees.{Answered, CutsHold, TreesHold, cuts_answer, trees_answer}
pub use Rattle.pg_game.specs.Weaker.{IsNoWorse, free_or_lowest}
pub use Rattle.pg_game.specs.declared.game.Game.{Game}
pub use Rattle.pg_game.specs.declared.position.Position.{Position}
pub use Rattle.pg_text.specs.Text.{Bytes, ascend_from, behind_spaces, spaced}
pub use Rattle.std.specs.Coded.{coded_ℕ}
pub use Rattle.std.specs.FinSet.{FinSet, contains, insert}
pub use Rattle.std.specs.Fmt.{decimal}
pub use Rattle.std.specs.List.{All, flat_map}
pub use Rattle.std.specs.Ordering.{nat_cmp}
