use Rattle.std.proofs.Common.{[], arith}
use Rattle.pg_table.specs.Words.{goals_text, help_text, result_text, turn_text}
use Rattle.pg_table.specs.Board.{board_text}
use Rattle.pg_table.specs.OpenLines.{lines_text}
use Rattle.pg_characters.proofs.Fit.{whole_fits, whole_none, wide_fits}
use Rattle.pg_table.proofs.PrintedBoards.{whole_board}
use Rattle.pg_table.proofs.PrintedLines.{whole_goals, whole_help, whole_open, whole_result}
use Rattle.pg_table.proofs.PrintedLines.{wide_turn}
use Rattle.pg_table.proofs.laws.lines_fit_into_rows.Goals as goal

pub returns-clause-board : goal.returns-clause-board
returns-clause-board c = λ g s wide.
    whole_fits s.look.columns (board_text g s) (whole_board g s wide)

pub returns-clause-lines : goal.returns-clause-lines
returns-clause-lines c = λ g p through.
    whole_fits 80 (lines_text g p through) (whole_open 80 g p through (omega arith))

pub returns-clause-goals : goal.returns-clause-goals
returns-clause-goals c = λ g. whole_fits 80 (goals_text g) (whole_goals 80 g (omega arith))

pub returns-clause-help : goal.returns-clause-help
returns-clause-help c = λ g. whole_fits 80 (help_text g) (whole_help 80 g (omega arith))

pub returns-clause-turn : goal.returns-clause-turn
returns-clause-turn c = λ p few.
    wide_fits 80 80 [] (turn_text p) (whole_none 80) (wide_turn p (omega (arith, few)))
    (omega arith)

pub returns-clause-result : goal.returns-clause-result
returns-clause-result c = λ score.
    whole_fits 80 (result_text score) (whole_result 80 score (omega arith))
