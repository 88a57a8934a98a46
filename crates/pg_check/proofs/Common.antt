-- What the proofs of this crate name of std and of the crates below.
pub use Rattle.pg_check.specs.Prelude.{AreBelow, AreMarksOf, AreSoundBefore, AreWithin}
pub use Rattle.pg_check.specs.Prelude.{AvoiderEnforcer, BeginCert, Body, Cert, Claim, Contains}
pub use Rattle.pg_check.specs.Prelude.{Cuts, CutsHold, EndsRight, Filling, FinSet, FollowMoves}
pub use Rattle.pg_check.specs.Prelude.{FollowsMove, Forces, Forcing, Game, Goal, HasCuts, HasPairs}
pub use Rattle.pg_check.specs.Prelude.{HasPotential, HasThreat, HasTrees, HasTurn, HasWeaker}
pub use Rattle.pg_check.specs.Prelude.{IsAttack, IsClaim, IsFirstFault, IsInGame, IsLeastFault}
pub use Rattle.pg_check.specs.Prelude.{IsNoWorse, IsNode, IsNodeOf, IsOwed, IsPosition, IsSound}
pub use Rattle.pg_check.specs.Prelude.{IsThreatLine, IsTurn, IsValid, IsValidClaim, IsWithinLimits}
pub use Rattle.pg_check.specs.Prelude.{Kind, LeadsToLine, MakerBreaker, MakerMaker, Move}
pub use Rattle.pg_check.specs.Prelude.{NamesEarlier, Node, NodeFault, Over, Owes, Pairs, Part}
pub use Rattle.pg_check.specs.Prelude.{Passes, Position, Potential, PotentialFits, Reply, ShareNone}
pub use Rattle.pg_check.specs.Prelude.{Side, Switching, TakesFree, Threat, Trees, TreesHold, Weaker}
pub use Rattle.pg_check.specs.Prelude.{X, Y, after, all_parts, allows_weaker, claim_parts, contains}
pub use Rattle.pg_check.specs.Prelude.{count_by, fault_number, filter, has_filled, insert}
pub use Rattle.pg_check.specs.Prelude.{is_allowed, is_filled, is_free, is_near, is_on, is_over}
pub use Rattle.pg_check.specs.Prelude.{is_some, lines_of, list_all, list_any, may_attack, nat_cmp}
pub use Rattle.pg_check.specs.Prelude.{other, pairs_fit, parts_of, point_count, points_of}
pub use Rattle.pg_check.specs.Prelude.{position_of, range_with_len, shows_cuts, shows_defence}
pub use Rattle.pg_check.specs.Prelude.{shows_trees, threatens, with_e_named, with_turn}
unfoldable pub use Rattle.pg_check.specs.Prelude.{free_points, kept, words_of}
pub use Rattle.pg_game.proofs.Members.{false-at, list_any-none, list_any-one, member-from_any}
pub use Rattle.pg_game.proofs.Members.{true-at}
pub use Rattle.pg_game.proofs.Moves.{IsPosition-after, free-of, free-was, other_other, points-from}
pub use Rattle.pg_game.proofs.Moves.{points-stay, points_of-waiter, turn-alternates}
pub use Rattle.pg_game.proofs.ThreatLaws.{Forces-threat, filled-waits, filled-with, filled-without}
pub use Rattle.pg_game.proofs.ThreatLaws.{near-from, near-range, near-to, on-or_filled}
pub use Rattle.pg_game.proofs.ThreatLaws.{unfilled-going, unfilled-safe}
pub use Rattle.std.proofs.lemmas.Bool.{and_from, and_parts, cases_Bool, cases_eq, cases_lt}
pub use Rattle.std.proofs.lemmas.Bool.{cases_order, false≢true, le-leb, leb-true, ltb-true}
pub use Rattle.std.proofs.lemmas.Bool.{not_from_false, or_cases, or_left, or_right}
pub use Rattle.std.proofs.lemmas.List.{append-nil, append_assoc, drop_all, get_or-set_other}
pub use Rattle.std.proofs.lemmas.List.{get_or-set_same, get_or_default, length-append, length-set}
pub use Rattle.std.proofs.lemmas.List.{map-append, map_push, take-append-drop, take_all, take_more}
pub use Rattle.std.proofs.lemmas.Option.{slice_get-get_or, slice_get-map, slice_get_within}
