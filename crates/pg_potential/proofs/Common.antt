-- What the proofs of this crate name of std and of the crates below.
pub use Rattle.pg_potential.specs.Prelude.{All, AreBelow, AreWithin, AvoiderEnforcer, AvoiderHolds}
pub use Rattle.pg_potential.specs.Prelude.{Contains, FinSet, Forces, Game, IsPosition, MakerBreaker}
pub use Rattle.pg_potential.specs.Prelude.{MakerMaker, Position, PotentialHolds, ShareNone, Side}
pub use Rattle.pg_potential.specs.Prelude.{Switching, Win, X, XWins, Y, after, avoider_ends}
pub use Rattle.pg_potential.specs.Prelude.{avoider_limit, avoider_total, avoider_weight, bias_of}
pub use Rattle.pg_potential.specs.Prelude.{contains, count_by, find, free_points, greatest}
pub use Rattle.pg_potential.specs.Prelude.{greatest_length, greatest_weight, has_bit, has_bit-at}
pub use Rattle.pg_potential.specs.Prelude.{has_filled, in_members_below, insert, is_empty}
pub use Rattle.pg_potential.specs.Prelude.{is_filled, is_free, is_full, is_over, is_same_side}
pub use Rattle.pg_potential.specs.Prelude.{is_touched, least, limit, line_weight, lines_of}
pub use Rattle.pg_potential.specs.Prelude.{list_all, list_any, members-of_words, members-same}
pub use Rattle.pg_potential.specs.Prelude.{members_below, nat_cmp, other, outcome_by, point_count}
pub use Rattle.pg_potential.specs.Prelude.{point_weight, points_of, range_with_len, reaches}
pub use Rattle.pg_potential.specs.Prelude.{short_joins, times_counted, total, total_weight, weight}
pub use Rattle.pg_potential.specs.Prelude.{word_below-lt, word_of-members, x_takes_last}
unfoldable pub use Rattle.pg_potential.specs.Prelude.{avoider_answer, outcome, potential_answer}
unfoldable pub use Rattle.pg_potential.specs.Prelude.{word_of, words_of}
pub use Rattle.pg_base.proofs.MoreMembers.{in_from_list}
pub use Rattle.pg_base.proofs.RowLemmas.{bit_test, bit_test-and, bit_test-not, cleared}
pub use Rattle.pg_base.proofs.RowLemmas.{zero-from_tests}
pub use Rattle.pg_game.proofs.FreePoints.{first_free, length-free_points-after}
pub use Rattle.pg_game.proofs.Greatest.{free-member, greatest-at, greatest-ge, greatest-le}
pub use Rattle.pg_game.proofs.Greatest.{greatest-same, member-free, member-within, running}
pub use Rattle.pg_game.proofs.Greatest.{running-all, running-next, running-none}
pub use Rattle.pg_game.proofs.Lowest.{find-some, find_same}
pub use Rattle.pg_game.proofs.Members.{Contains-head, Contains-tail, false-at, list_any-none}
pub use Rattle.pg_game.proofs.Members.{list_any-one, member-from_any, true-at}
pub use Rattle.pg_game.proofs.WeightBounds.{IsBaseOf-two, few_points-lines}
pub use Rattle.std.proofs.Math.Nat.{add-mul, mul-le-mul_left}
pub use Rattle.std.proofs.lemmas.Bool.{both_ways, cases_Bool, cases_eq, cases_lt, false≢true}
pub use Rattle.std.proofs.lemmas.Bool.{ltb-true, or_cases, or_left, or_right}
pub use Rattle.std.proofs.lemmas.List.{append-nil, append_assoc, get_or-append-add, get_or-drop}
pub use Rattle.std.proofs.lemmas.List.{get_or-take, get_or_append_left, get_or_default}
pub use Rattle.std.proofs.lemmas.List.{length-append, length-drop, length-take-le, map_push}
pub use Rattle.std.proofs.lemmas.List.{take_all, take_more}
pub use Rattle.std.proofs.lemmas.List.Elements.{Contains-get_or}
pub use Rattle.std.proofs.lemmas.Option.{slice_get-get_or, slice_get-map, slice_get_within}
