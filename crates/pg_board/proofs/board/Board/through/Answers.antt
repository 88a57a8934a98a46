use Rattle.std.proofs.Common.{◌≡◌, ◌<◌, ◌∙◌, sym, ap, subst}
use Rattle.pg_board.specs.Shape.{Shape, shape_of, lines_through}
use Rattle.pg_board.proofs.Judging.{through-of}
use Rattle.pg_board.proofs.board.Board.through.Goals as goal

pub through-requires : goal.through-requires
through-requires c =
    let shape : c.self.inside.layout ≡ shape_of c.args.self.now.game =
    c.self.invariant.layout ∙ ap (λ v. shape_of v.game) c.self.view_is in
    subst (λ (s : Shape). c.args.v < s.points) (sym shape) c.requires

pub returns : goal.returns
returns c =
    let shape : c.self.inside.layout ≡ shape_of c.args.self.now.game =
    c.self.invariant.layout ∙ ap (λ v. shape_of v.game) c.self.view_is in
    c.through.ensures.lines
    ∙ (ap (λ (s : Shape). lines_through s c.args.v) shape
    ∙ through-of c.args.self.now.game c.args.v)
