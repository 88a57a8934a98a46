-- What the proofs of this crate name of std and of the crates below.
pub use Rattle.pg_captions.specs.Prelude.{AvoiderEnforcer, Body}
pub use Rattle.pg_captions.specs.Prelude.{Claim, FinSet, Game, IsBaseOf}
pub use Rattle.pg_captions.specs.Prelude.{Kind, MakerBreaker, MakerMaker}
pub use Rattle.pg_captions.specs.Prelude.{Parts, Position, Side, SpanBody, SpanClaim, SpanGame}
pub use Rattle.pg_captions.specs.Prelude.{Switching, Trees, contains, count_by}
pub use Rattle.pg_captions.specs.Prelude.{greatest_length}
pub use Rattle.pg_captions.specs.Prelude.{is_free, is_touched, lines_of}
pub use Rattle.pg_captions.specs.Prelude.{list_any, marks_at, nat_cmp}
pub use Rattle.pg_captions.specs.Prelude.{VecGame, at_turn, edge_count, is_graph, point_count}
pub use Rattle.pg_captions.specs.Prelude.{range_with_len}
unfoldable pub use Rattle.pg_captions.specs.Prelude.{full_weight}
pub use Rattle.pg_game.proofs.LineSums.{length-le-greatest}
pub use Rattle.pg_game.proofs.WeightBounds.{IsBaseOf-bias, IsBaseOf-two}
pub use Rattle.std.proofs.Math.Nat.{pow-le-pow_right}
pub use Rattle.std.proofs.lemmas.List.{at_drop_more, length-append}
pub use Rattle.std.proofs.lemmas.List.Folds.{list_any_at, list_any_none}
pub use Rattle.std.proofs.lemmas.List.FromFn.{get_or-range_with_len, length-range_with_len}
