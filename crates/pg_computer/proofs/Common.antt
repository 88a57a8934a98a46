-- What the proofs of this crate name of std and of the crates below.
pub use Rattle.pg_base.proofs.Stands.{list_any-map}
pub use Rattle.pg_base.specs.declared.score.Score.TheVariants.{Draw, XWins, YWins}
pub use Rattle.pg_base.specs.declared.side.Side.TheVariants.{X, Y}
pub use Rattle.pg_computer.specs.Prelude.{Allows, AreTrials, Breaks, Budget, Bytes, Changes, Closes}
pub use Rattle.pg_computer.specs.Prelude.{ConsoleTold, Course, Does, Done, End, Ended, Entry, Event}
pub use Rattle.pg_computer.specs.Prelude.{Failed, FilesTold, Finished, Follows, Game, Halt, Heard}
pub use Rattle.pg_computer.specs.Prelude.{Holding, Illegal, IsGameAt, IsMadeForGame, IsPosition}
pub use Rattle.pg_computer.specs.Prelude.{IsSeated, LeadsBy, Leaves, Listens, Look, MAX_EVENTS}
pub use Rattle.pg_computer.specs.Prelude.{MAX_HEARD, Memory, Notes, OpensGame, Outcome, Play}
pub use Rattle.pg_computer.specs.Prelude.{Position, Read, Recorded, Refusal, Refused, Runs, Said}
pub use Rattle.pg_computer.specs.Prelude.{Score, Shows, Side, Skipped, Stalls, Starved, Stop}
pub use Rattle.pg_computer.specs.Prelude.{Stopped, Stops, Stores, Table, TableStage, Trial, Write}
pub use Rattle.pg_computer.specs.Prelude.{after, all_known, best, bias_of, entry, find, game_held}
pub use Rattle.pg_computer.specs.Prelude.{has_score, is_free, is_same_side, judged_move}
pub use Rattle.pg_computer.specs.Prelude.{known_scores, lowest_free, other, place, point_count}
pub use Rattle.pg_computer.specs.Prelude.{position_after, start, stop_end, talk, turned_to, value}
pub use Rattle.pg_computer.specs.Prelude.{won_by}
unfoldable pub use Rattle.pg_computer.specs.Prelude.{free_points, is_over, standing}
pub use Rattle.pg_game.proofs.FreePoints.{any-free_points}
pub use Rattle.pg_game.proofs.Greatest.{member-free, member-within}
pub use Rattle.pg_game.proofs.Limits.{point_count-le}
pub use Rattle.pg_game.proofs.Strategy.{free_point}
pub use Rattle.pg_game.proofs.ValueLaws.{value-step}
pub use Rattle.pg_game.specs.Field.{field_points}
pub use Rattle.pg_game.specs.Position.{after_with}
pub use Rattle.pg_maps.proofs.Criteria.{Contains-map}
pub use Rattle.pg_moves.proofs.Keeping.{best-by, best_is_value}
pub use Rattle.pg_moves.proofs.Standing.{over_same, own_rules, position_by, stands_by, start-here}
pub use Rattle.pg_moves.proofs.Standing.{tried_before}
pub use Rattle.pg_moves.specs.Best.{best_by, same_score}
pub use Rattle.pg_moves.specs.Trials.{HasRulesOf, IsTriedAt, IsValueOf, moved}
pub use Rattle.pg_moves.specs.declared.trial.Worth.{Worth}
pub use Rattle.pg_moves.specs.declared.trial.Worth.TheVariants.{Known, Unknown}
pub use Rattle.pg_opponent.proofs.Recording.{free_is_judged, has_room, legal_more, no_events}
pub use Rattle.pg_pairing.proofs.Filters.{find_member, find_none}
pub use Rattle.pg_record.proofs.Standing.{legal-point, legal-standing, played-more}
pub use Rattle.pg_sessions.proofs.Standing.{same-value}
pub use Rattle.pg_talk.proofs.Delivering.{stopped_first}
pub use Rattle.pg_talk.proofs.Openings.{not_opened, opened}
pub use Rattle.pg_talk.proofs.Runs.{runs_halt}
pub use Rattle.std.proofs.lemmas.Bool.{and_parts, cases_eq, false≢true, not-true}
pub use Rattle.std.proofs.lemmas.List.{get_or-map, length-map, length-take-le, length_push}
pub use Rattle.std.proofs.lemmas.List.{map-append, take-map, take_more}
pub use Rattle.std.proofs.lemmas.List.Elements.{All-contains}
pub use Rattle.std.proofs.lemmas.Result.{err_from_is_err_and}
pub use Rattle.std.specs.List.{Contains, list_any}
