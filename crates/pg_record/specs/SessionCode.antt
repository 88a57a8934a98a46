-- How what is seen of a session is stored.
use Rattle.std.specs.Prelude.{List, refl}
use Rattle.std.specs.Coded.{Coded, code_by, coded×, coded_list}
use Rattle.pg_game.specs.declared.game.Game.{Game}
use Rattle.pg_game.specs.contracts.game.Game as game_code
use Rattle.pg_record.specs.declared.event.Event.{Event}
use Rattle.pg_record.specs.contracts.event.Event as event_code
use Rattle.pg_record.specs.Session.{Recorded}

abbrev pub recorded_code : Coded Recorded
recorded_code = code_by (Game × List Event)
    (coded× game_code.the_row.coded (coded_list event_code.the_row.coded)) (λ s. (s.game, s.events))
    (λ p. record { game = p.0; events = p.1 }) (λ _. refl)
