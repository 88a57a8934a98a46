-- What the proofs of this crate name of std and of the crates below.
pub use Rattle.pg_scene.specs.Prelude.{All, AllByRecursion, AreLinesOf, Body}
pub use Rattle.pg_scene.specs.Prelude.{Claim, Field, FieldFits, FinSet, Game, IsFit}
pub use Rattle.pg_scene.specs.Prelude.{IsLineOf, Kind, Lines, Node, Pair}
pub use Rattle.pg_scene.specs.Prelude.{Parts, Position, Reply, Side, SpanBody, SpanClaim, SpanGame}
pub use Rattle.pg_scene.specs.Prelude.{Trees, Vec, contains, count_by, decimal}
pub use Rattle.pg_scene.specs.Prelude.{edge_count, field_points, filter, flat_map, greatest_length}
pub use Rattle.pg_scene.specs.Prelude.{is_free, is_graph, is_on, is_touched, line_weight, lines_of}
pub use Rattle.pg_scene.specs.Prelude.{VecGame, at_turn}
pub use Rattle.pg_scene.specs.Prelude.{list_any, longest, marks_at, nat_cmp, point_count}
pub use Rattle.pg_scene.specs.Prelude.{position_of, range_with_len, start, sum_by}
unfoldable pub use Rattle.pg_scene.specs.Prelude.{free_points, point_weight}
unfoldable pub use Rattle.pg_scene.specs.Prelude.{points_below}
pub use Rattle.pg_game.proofs.LineSums.{line_weight-clear, line_weight-touched}
pub use Rattle.pg_game.proofs.WeightBounds.{greatest_length-few}
pub use Rattle.pg_game.proofs.WeightBounds.{line-fit}
pub use Rattle.std.proofs.Math.Nat.{mul-div_cancel_left, one-le-pow}
pub use Rattle.std.proofs.lemmas.Bool.{and_parts, cases_Bool, eqb-true}
pub use Rattle.std.proofs.lemmas.Bool.Decides.{nat_tests}
pub use Rattle.std.proofs.lemmas.List.{append-nil, length-take-le}
pub use Rattle.std.proofs.lemmas.List.{map-append, take_more}
pub use Rattle.std.proofs.lemmas.List.Concat.{flat_map-append, flat_map-cons}
pub use Rattle.std.proofs.lemmas.List.FromFn.{get_or-map-range_with_len, length-map-range_with_len}
pub use Rattle.std.proofs.lemmas.List.Elements.{All-append, All-map, All-nil, Contains-get_or}
