use Rattle.std.proofs.Common.{◌≡◌, ap, ◌∙◌, subst}
use Rattle.std.specs.Prelude.{slice_get}
use Rattle.pg_board.proofs.Common.{ShareNone, X, Y, Position, IsPosition, present}
use Rattle.pg_board.specs.Shape.{shape_of}
use Rattle.pg_board.specs.Fits.{position_of}
use Rattle.pg_board.proofs.Fitting.{fit-first}
use Rattle.pg_board.specs.Board.{live_lines}
use Rattle.pg_board.specs.Fits.{live_lines_in}
use Rattle.pg_board.proofs.Walks.{disjoint-is}
use Rattle.pg_board.proofs.Answering.{live-is}
use Rattle.pg_board.proofs.Judging.{live-lines-of, position-fits}
use Rattle.pg_board.proofs.board.Board.first_live.Goals as goal

pub returns-in-X : goal.returns-in-X
returns-in-X c =
    let shape : c.self.inside.layout ≡ shape_of c.args.self.now.game =
    c.self.invariant.layout ∙ ap (λ v. shape_of v.game) c.self.view_is in
    let at : position_of c.self.inside.layout c.self.inside.trail.cells
    ≡ c.args.self.now.stand.position = ap (λ v. v.stand.position) c.self.view_is in
    let live : present c.self.inside.rings.live_x
    ≡ live_lines c.args.self.now.game c.args.self.now.stand.position X =
    live-is _ _ _ _ _ (fit-first _ _ _ _ _ _ c.self.invariant.fit) X
    ∙ ((λ i. live_lines_in (shape i) (at i) X)
    ∙ live-lines-of c.args.self.now.game c.args.self.now.stand.position X) in
    let fits = subst (λ v. IsPosition v.game v.stand.position) c.self.view_is
    (position-fits c.self.inside.game.now c.self.inside.layout _ _ _ _ c.self.invariant.layout
    (fit-first _ _ _ _ _ _ c.self.invariant.fit)) in
    record {
      line = rw c.in-X.is (c.first.ensures ∙ ap (λ xs. slice_get xs 0) live);
      disjoint = subst (λ (q : Position). ShareNone q.x q.y) at
          (disjoint-is c.self.inside.layout c.self.inside.trail.cells);
      fits = fits;
    }

pub returns-in-Y : goal.returns-in-Y
returns-in-Y c =
    let shape : c.self.inside.layout ≡ shape_of c.args.self.now.game =
    c.self.invariant.layout ∙ ap (λ v. shape_of v.game) c.self.view_is in
    let at : position_of c.self.inside.layout c.self.inside.trail.cells
    ≡ c.args.self.now.stand.position = ap (λ v. v.stand.position) c.self.view_is in
    let live : present c.self.inside.rings.live_y
    ≡ live_lines c.args.self.now.game c.args.self.now.stand.position Y =
    live-is _ _ _ _ _ (fit-first _ _ _ _ _ _ c.self.invariant.fit) Y
    ∙ ((λ i. live_lines_in (shape i) (at i) Y)
    ∙ live-lines-of c.args.self.now.game c.args.self.now.stand.position Y) in
    let fits = subst (λ v. IsPosition v.game v.stand.position) c.self.view_is
    (position-fits c.self.inside.game.now c.self.inside.layout _ _ _ _ c.self.invariant.layout
    (fit-first _ _ _ _ _ _ c.self.invariant.fit)) in
    record {
      line = rw c.in-Y.is (c.first-in-Y.ensures ∙ ap (λ xs. slice_get xs 0) live);
      disjoint = subst (λ (q : Position). ShareNone q.x q.y) at
          (disjoint-is c.self.inside.layout c.self.inside.trail.cells);
      fits = fits;
    }
