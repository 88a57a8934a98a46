-- How a view is stored.
use Rattle.std.specs.Prelude.{ℕ, List, refl}
use Rattle.std.specs.Coded.{Coded, code_by, coded×, coded_list, coded_ℕ}
use Rattle.pg_game.specs.declared.game.Game.{Game}
use Rattle.pg_game.specs.contracts.game.Game as game_code
use Rattle.pg_game.specs.declared.position.Position.{Position}
use Rattle.pg_game.specs.contracts.position.Position as position_code
use Rattle.pg_undo.specs.Trail.{Cells}
use Rattle.pg_board.specs.Board.{Stand, View}

abbrev pub cells_code : Coded Cells
cells_code = code_by (List ℕ × (List (ℕ × ℕ) × ℕ))
    (coded× (coded_list coded_ℕ) (coded× (coded_list (coded× coded_ℕ coded_ℕ)) coded_ℕ))
    (λ c. (c.cells, (c.entries, c.spare))) (λ p. record {
      cells = p.0;
      entries = p.1.0;
      spare = p.1.1;
    }) (λ _. refl)

abbrev pub stand_code : Coded Stand
stand_code = code_by (Position × Cells) (coded× position_code.the_row.coded cells_code)
    (λ s. (s.position, s.trail)) (λ p. record { position = p.0; trail = p.1 }) (λ _. refl)

abbrev pub view_code : Coded View
view_code = code_by (Game × (Stand × List Stand))
    (coded× game_code.the_row.coded (coded× stand_code (coded_list stand_code)))
    (λ v. (v.game, (v.stand, v.earlier))) (λ p. record {
      game = p.0;
      stand = p.1.0;
      earlier = p.1.1;
    }) (λ _. refl)
