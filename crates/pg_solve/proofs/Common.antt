-- What the proofs of this crate name of std and of the crates below.
pub use Rattle.pg_solve.specs.Prelude.{All, AreEdgeSets, AreFreeEdges, AreFreeWithE, ArePoints}
pub use Rattle.pg_solve.specs.Prelude.{AvoiderEnforcer, Body, Cert, Claim, Cuts, CutsHoldOn, Draw}
pub use Rattle.pg_solve.specs.Prelude.{EndsRight, Expanded, FinSet, FollowMoves, Forces, Game, Goal}
pub use Rattle.pg_solve.specs.Prelude.{HasCuts, HasPairs, HasPotential, HasThreat, HasTrees}
pub use Rattle.pg_solve.specs.Prelude.{HasTurn, IsAnswer, IsBody, IsClaim, IsClaimOf, IsOfVersion}
pub use Rattle.pg_solve.specs.Prelude.{IsOpenTable, IsPosition, IsReachable, IsTable, IsValid}
pub use Rattle.pg_solve.specs.Prelude.{IsValidClaim, IsWithinLimits, IsWorkOf, Kind, MakerBreaker}
pub use Rattle.pg_solve.specs.Prelude.{MakerMaker, NamesEarlier, Node, One, Position, Score}
pub use Rattle.pg_solve.specs.Prelude.{SetsHold, Side, Switching, TakesFree, Trees, TreesHoldOn}
pub use Rattle.pg_solve.specs.Prelude.{Win, X, XWins, Y, YWins, claimed_goal, claimer, contains}
pub use Rattle.pg_solve.specs.Prelude.{has_body, insert, is_allowed, is_switching, nat_cmp}
pub use Rattle.pg_solve.specs.Prelude.{node_count, point_count, position_of, reaches, remove, start}
pub use Rattle.pg_solve.specs.Prelude.{value, with_e_named, with_turn}
pub use Rattle.pg_base.proofs.Stands.{contains_at, one_at}
pub use Rattle.pg_game.proofs.Moves.{IsPosition-after, IsPosition-start, IsPosition-with_turn}
pub use Rattle.pg_pns.proofs.TableLaws.{table-reached}
pub use Rattle.std.proofs.lemmas.Bool.{both_ways, cases_Bool, cases_eq, false_from_ne_true}
pub use Rattle.std.proofs.lemmas.Bool.{false≢true}
pub use Rattle.std.proofs.lemmas.Option.{none-some, slice_get_within}
pub use Rattle.std.proofs.lemmas.Result.{IfOk-weaker}
