use Rattle.std.proofs.Common.{string_bytes}
use Rattle.std.proofs.lemmas.Result.{IfOk-weaker}
use Rattle.pg_drawing.proofs.Found.{connectivity_drawn, positional_drawn, vectors_drawn}
use Rattle.pg_drawing.proofs.telling.board_text.Goals as goal

pub returns-in-Positional : goal.returns-in-Positional
returns-in-Positional c = IfOk-weaker _ _ _
    (λ text draws. positional_drawn c.args.look c.args.board.now
    (string_bytes text) c.in-Positional.game c.in-Positional.is draws) c.game_text.ensures

pub returns-in-Connectivity : goal.returns-in-Connectivity
returns-in-Connectivity c = IfOk-weaker _ _ _
    (λ text draws. connectivity_drawn c.args.look c.args.board.now
    (string_bytes text) c.in-Connectivity.game c.in-Connectivity.is draws) c.span_game_text.ensures

pub returns-in-Vectors : goal.returns-in-Vectors
returns-in-Vectors c = IfOk-weaker _ _ _
    (λ text draws. vectors_drawn c.args.look c.args.board.now
    (string_bytes text) c.in-Vectors.game c.in-Vectors.is draws) c.vector_game_text.ensures
