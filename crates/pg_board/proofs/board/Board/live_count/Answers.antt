use Rattle.std.proofs.Common.{◌≡◌, ap, ◌∙◌, length}
use Rattle.pg_board.proofs.Common.{X, Y, present}
use Rattle.pg_board.specs.Shape.{shape_of}
use Rattle.pg_board.specs.Board.{live_lines}
use Rattle.pg_board.specs.Fits.{position_of, live_lines_in}
use Rattle.pg_board.proofs.Fitting.{fit-first}
use Rattle.pg_board.proofs.Answering.{live-is}
use Rattle.pg_board.proofs.Judging.{live-lines-of}
use Rattle.pg_board.proofs.board.Board.live_count.Goals as goal

pub returns-in-X : goal.returns-in-X
returns-in-X c =
    let shape : c.self.inside.layout ≡ shape_of c.args.self.now.game =
    c.self.invariant.layout ∙ ap (λ v. shape_of v.game) c.self.view_is in
    let at : position_of c.self.inside.layout c.self.inside.trail.cells
    ≡ c.args.self.now.stand.position = ap (λ v. v.stand.position) c.self.view_is in
    let live : present c.self.inside.rings.live_x
    ≡ live_lines c.args.self.now.game c.args.self.now.stand.position X =
    live-is _ _ _ _ _ (fit-first _ _ _ _ _ _ c.self.invariant.fit) X
    ∙ ((λ i. live_lines_in (shape i) (at i) X)
    ∙ live-lines-of c.args.self.now.game c.args.self.now.stand.position X) in
    rw c.in-X.is (c.len.ensures ∙ ap length live)

pub returns-in-Y : goal.returns-in-Y
returns-in-Y c =
    let shape : c.self.inside.layout ≡ shape_of c.args.self.now.game =
    c.self.invariant.layout ∙ ap (λ v. shape_of v.game) c.self.view_is in
    let at : position_of c.self.inside.layout c.self.inside.trail.cells
    ≡ c.args.self.now.stand.position = ap (λ v. v.stand.position) c.self.view_is in
    let live : present c.self.inside.rings.live_y
    ≡ live_lines c.args.self.now.game c.args.self.now.stand.position Y =
    live-is _ _ _ _ _ (fit-first _ _ _ _ _ _ c.self.invariant.fit) Y
    ∙ ((λ i. live_lines_in (shape i) (at i) Y)
    ∙ live-lines-of c.args.self.now.game c.args.self.now.stand.position Y) in
    rw c.in-Y.is (c.len-in-Y.ensures ∙ ap length live)
