-- What the proofs of this crate name of std and of the crates below.
pub use Rattle.pg_game.proofs.FreePoints.{length-free_points-after}
pub use Rattle.pg_game.proofs.Limits.{point_count-le}
pub use Rattle.pg_game.proofs.Strategy.{length-legal_play}
pub use Rattle.pg_game.specs.Game.{after}
unfoldable pub use Rattle.pg_game.specs.Game.{free_points}
pub use Rattle.pg_game.specs.Position.{is_free}
pub use Rattle.pg_opponent.specs.Prelude.{Claim, Event, Game, Illegal, MAX_EVENTS}
pub use Rattle.pg_opponent.specs.Prelude.{MakesMove, Play, Player, Position}
pub use Rattle.pg_opponent.specs.Prelude.{TakesReply, arrives, judged_move}
pub use Rattle.pg_opponent.specs.Prelude.{point_count, start}
unfoldable pub use Rattle.pg_opponent.specs.Prelude.{standing}
unfoldable pub use Rattle.pg_opponent.specs.Prelude.{is_over}
pub use Rattle.pg_record.proofs.Standing.{legal-standing, played-more, record-more, standing-more}
pub use Rattle.std.proofs.lemmas.Bool.{ltb-true}
pub use Rattle.std.proofs.lemmas.Bool.Decides.{nat_tests}
pub use Rattle.std.proofs.lemmas.List.{length_push}
