-- What the proofs of this crate name of std and of the crates below.
pub use Rattle.pg_threat.specs.Prelude.{AreDeeper, ComesFirst, Contains, Filling, FinSet, Forcing}
pub use Rattle.pg_threat.specs.Prelude.{Game, IsAttack, IsAttacking, IsLeastFrom, IsPosition}
pub use Rattle.pg_threat.specs.Prelude.{IsThreatLine, LeadsToLine, MakerMaker, Position, ShareNone}
pub use Rattle.pg_threat.specs.Prelude.{Side, Stand, View, X, Y, after, contains, contains-empty}
pub use Rattle.pg_threat.specs.Prelude.{count_by, count_of, depth_of, empty, find, has_filled}
pub use Rattle.pg_threat.specs.Prelude.{has_threat, in_insert, in_remove, insert, is_filled}
pub use Rattle.pg_threat.specs.Prelude.{is_free, is_live_with, is_near, is_on, is_over, is_some}
pub use Rattle.pg_threat.specs.Prelude.{is_touched, line_at, lines_of, list_all, list_any}
pub use Rattle.pg_threat.specs.Prelude.{may_attack, nat_cmp, other, point_count, points_of}
pub use Rattle.pg_threat.specs.Prelude.{passed, range_with_len, remove, same_points, slice_get}
unfoldable pub use Rattle.pg_threat.specs.Prelude.{has_threat_line, lines_holding, live_lines}
unfoldable pub use Rattle.pg_threat.specs.Prelude.{live_with}
pub use Rattle.pg_board.proofs.Answering.{clear-any}
pub use Rattle.pg_game.proofs.Limits.{point_count-le}
pub use Rattle.pg_game.proofs.Lowest.{any_both, find_both}
pub use Rattle.pg_game.proofs.Members.{Contains-filter, false-at, list_any-none, list_any-one}
pub use Rattle.pg_game.proofs.Members.{member-from_any, true-at}
pub use Rattle.pg_game.proofs.Moves.{IsPosition-after, ShareNone-after, apart, free-of, free-stays}
pub use Rattle.pg_game.proofs.Moves.{free-was, other_other, points_of-mover, points_of-waiter}
pub use Rattle.pg_game.proofs.Moves.{turn-alternates}
pub use Rattle.pg_game.proofs.ThreatLaws.{IsForced, Near, attacking-after, filled-waits}
pub use Rattle.pg_game.proofs.ThreatLaws.{filled-with, filled-without, forced-after, near-filled}
pub use Rattle.pg_game.proofs.ThreatLaws.{near-filling, near-from, near-range, near-stays}
pub use Rattle.pg_game.proofs.ThreatLaws.{near-threat, near-to, unfilled-going, untouched}
unfoldable pub use Rattle.pg_game.proofs.ThreatLaws.{filled_but}
pub use Rattle.std.proofs.lemmas.Bool.{and_from, and_left, and_parts, and_right, cases_Bool}
pub use Rattle.std.proofs.lemmas.Bool.{cases_eq, cases_lt, cases_order, eq-eqb, false≢true, lt-ltb}
pub use Rattle.std.proofs.lemmas.Bool.{ltb-true, not-false, not-true, not_from_false, or_cases}
pub use Rattle.std.proofs.lemmas.Bool.{or_from, or_left, or_parts, or_right}
pub use Rattle.std.proofs.lemmas.List.{get_or-take, get_or_default, length-take, length_push}
pub use Rattle.std.proofs.lemmas.List.{take_all}
pub use Rattle.std.proofs.lemmas.List.Elements.{Contains-get_or}
pub use Rattle.std.proofs.lemmas.List.Folds.{list_any_at, list_any_more}
pub use Rattle.std.proofs.lemmas.List.FromFn.{get_or-range_with_len, length-range_with_len}
pub use Rattle.std.proofs.lemmas.List.Sums.{count_by-le-length, get_or-le-sum_by, sum_by-cons}
