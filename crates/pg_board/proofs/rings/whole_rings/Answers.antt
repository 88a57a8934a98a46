use Rattle.std.proofs.Common.{◌∷◌, [], ◌∙◌, ap}
use Rattle.std.specs.List.{range_with_len}
use Rattle.pg_board.proofs.rings.whole_rings.Goals as goal

pub returns-clause-shape : goal.returns-clause-shape
returns-clause-shape c = c.lines-lines.ensures.shape

pub returns-clause-live_x : goal.returns-clause-live_x
returns-clause-live_x c =
    c.in_ok-live_x.ensures ∙ ap (λ n. range_with_len 0 n ∷ []) c.lines-lines.ensures.count

pub returns-clause-live_y : goal.returns-clause-live_y
returns-clause-live_y c =
    c.in_ok-live_y.ensures ∙ ap (λ n. range_with_len 0 n ∷ []) c.lines-lines.ensures.count

pub returns-clause-free : goal.returns-clause-free
returns-clause-free c =
    c.in_ok-free.ensures ∙ ap (λ n. range_with_len 0 n ∷ []) (c.from.ensures ∙ c.points.ensures)
