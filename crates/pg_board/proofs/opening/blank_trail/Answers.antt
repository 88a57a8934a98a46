use Rattle.std.proofs.Common.{◌≡◌, ◌∙◌, length, List, ℕ, subst, sym}
use Rattle.std.proofs.lemmas.Result.{IfOk-weaker}
use Rattle.pg_undo.specs.Trail.{Cells}
use Rattle.pg_board.specs.Opening.{AreBlank}
use Rattle.pg_board.proofs.opening.blank_trail.Goals as goal

pub returns-clause-cells : goal.returns-clause-cells
returns-clause-cells c =
    IfOk-weaker _ _ _ (λ (trail : Cells) (is : trail.cells ≡ c.as_slice.result.now).
    subst (λ (cells : List ℕ). AreBlank c.args.layout.now (length c.args.layout.now.lines) cells)
    (sym (is ∙ c.as_slice.ensures.value)) c.in_ok-cells.ensures) c.new.ensures.cells

pub returns-clause-spare : goal.returns-clause-spare
returns-clause-spare c = IfOk-weaker _ _ _
    (λ (trail : Cells) (is : trail.spare ≡ c.whole_room.result). is ∙ c.whole_room.ensures)
    c.new.ensures.spare
