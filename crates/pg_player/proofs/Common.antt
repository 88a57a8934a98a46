-- What the proofs of this crate name of std and of the crates below.
pub use Rattle.pg_player.specs.Prelude.{All, Answered, AreBelow, AreCuts, AreTrees, AvoiderEnforcer}
pub use Rattle.pg_player.specs.Prelude.{AvoiderHolds, Body, Cert, Claim, Coded-set, Cuts, CutsHold}
pub use Rattle.pg_player.specs.Prelude.{CutsHoldOn, EndsRight, Field, FinSet, FollowMoves}
pub use Rattle.pg_player.specs.Prelude.{FollowsMove, Forces, Game, Goal, HasCuts, HasJoiner}
pub use Rattle.pg_player.specs.Prelude.{HasPairs, HasPotential, HasThreat, HasTrees, HasTurn}
pub use Rattle.pg_player.specs.Prelude.{HasWeaker, HeldUntil, HoldsPair, IsAttack, IsAttacking}
pub use Rattle.pg_player.specs.Prelude.{IsClaim, IsCutsAnswer, IsInGame, IsMadeForGame, IsNoWorse}
pub use Rattle.pg_player.specs.Prelude.{IsNoWorseThanNode, IsNodeOf, IsOwed, IsPosition, IsSound}
pub use Rattle.pg_player.specs.Prelude.{IsSwitchingTurn, IsThreatLine, IsTreesAnswer, IsValid}
pub use Rattle.pg_player.specs.Prelude.{IsValidClaim, IsWithinLimits, KeepsRest, Kind, LeadsToLine}
pub use Rattle.pg_player.specs.Prelude.{LeavesHeld, Lines, MakerBreaker, MakerMaker, MayClaim, Move}
pub use Rattle.pg_player.specs.Prelude.{NamesEarlier, Node, Over, Pair, Pairs, PairsHold, Passes}
pub use Rattle.pg_player.specs.Prelude.{Position, Potential, PotentialFits, PotentialHolds, Reply}
pub use Rattle.pg_player.specs.Prelude.{RestHolds, Room, Score, Side, Standing, Switching}
pub use Rattle.pg_player.specs.Prelude.{TakesFree, Threat, Trees, TreesHold, TreesHoldOn, Weaker}
pub use Rattle.pg_player.specs.Prelude.{Win, X, Y, after, arrives, avoider_answer, bias_of}
pub use Rattle.pg_player.specs.Prelude.{coded_bool, coded_list, coded_ℕ, cuts_point, free_or_lowest}
pub use Rattle.pg_player.specs.Prelude.{free_points, is_allowed, is_free, is_full, is_over}
pub use Rattle.pg_player.specs.Prelude.{is_same_side, judged_move, list_any, may_attack, nat_cmp}
pub use Rattle.pg_player.specs.Prelude.{option_or, other, outcome, pairs_answer, pairs_fit}
pub use Rattle.pg_player.specs.Prelude.{point_count, position_of, potential_answer, potential_point}
pub use Rattle.pg_player.specs.Prelude.{reaches, replied_by, rest, rules_of, settles_at, settles_by}
pub use Rattle.pg_player.specs.Prelude.{shows_cuts, shows_defence, shows_trees, start, stays}
pub use Rattle.pg_player.specs.Prelude.{stays_with_cuts, stays_with_trees, trees_point}
pub use Rattle.pg_player.specs.Prelude.{with_e_named, with_set, with_turn}
unfoldable pub use Rattle.pg_player.specs.Prelude.{own_move, replied, settled_within}
pub use Rattle.pg_potential.proofs.AvoiderLaws.{Forces-avoider, kept-y}
pub use Rattle.pg_check.proofs.ForcedNodes.{Forces-node, breaker_at, node_limits, pairs_at}
pub use Rattle.pg_check.proofs.ForcedNodes.{some-left}
pub use Rattle.pg_game.proofs.Greatest.{member-free, member-within}
pub use Rattle.pg_game.proofs.Moves.{IsPosition-after, IsPosition-played, IsPosition-start}
pub use Rattle.pg_game.proofs.Moves.{other_other, side≢other, turn-after_x, turn-alternates}
pub use Rattle.pg_game.proofs.Moves.{turn-passes}
pub use Rattle.pg_game.proofs.ThreatLaws.{Forces-attacked, near-filling, near-from, near-stays}
pub use Rattle.pg_game.proofs.ThreatLaws.{over-filling, unfilled-going}
pub use Rattle.pg_game.proofs.ValueLaws.{Forces-all, Forces-all-from, Forces-any, Forces-over}
pub use Rattle.pg_pairing.proofs.Filters.{find_member, find_none}
pub use Rattle.pg_potential.proofs.PotentialLaws.{Forces-potential_breaker, Forces-potential_draw}
pub use Rattle.pg_potential.proofs.PotentialLaws.{kept-reply_breaker, kept-reply_draw}
pub use Rattle.std.proofs.Math.Bridge.{le_prop}
pub use Rattle.std.proofs.Math.Logic.{∥∥₁_elim, ∥∥₁_map}
pub use Rattle.std.proofs.lemmas.Bool.{and_parts, both_ways, cases_Bool, cases_lt, cond-true}
pub use Rattle.std.proofs.lemmas.Bool.{false≢true}
pub use Rattle.std.proofs.lemmas.Option.{slice_get-get_or, slice_get_read, slice_get_within}
