use Rattle.std.proofs.Common.{◌≡◌, ◌∙◌, ap, length}
use Rattle.pg_board.specs.Shape.{Shape, shape_of}
use Rattle.pg_board.proofs.board.Board.lines.Goals as goal

pub returns : goal.returns
returns c =
    let shape : c.self.inside.layout ≡ shape_of c.args.self.now.game =
    c.self.invariant.layout ∙ ap (λ v. shape_of v.game) c.self.view_is in
    c.lines.ensures.count ∙ ap (λ (s : Shape). length s.lines) shape
