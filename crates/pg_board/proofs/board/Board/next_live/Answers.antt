use Rattle.std.proofs.Common.{◌≡◌, ap, ◌∙◌, sym, subst}
use Rattle.std.specs.Prelude.{nat_lt}
use Rattle.pg_board.proofs.Common.{find, Contains, X, Y, present}
use Rattle.pg_board.specs.Shape.{shape_of}
use Rattle.pg_board.specs.Fits.{position_of}
use Rattle.pg_board.proofs.Fitting.{fit-first}
use Rattle.pg_board.specs.Board.{live_lines}
use Rattle.pg_board.specs.Fits.{live_lines_in}
use Rattle.pg_board.proofs.Answering.{live-is}
use Rattle.pg_board.proofs.Judging.{live-lines-of}
use Rattle.pg_board.proofs.board.Board.next_live.Goals as goal

pub next-requires : goal.next-requires
next-requires c =
    let shape : c.self.inside.layout ≡ shape_of c.args.self.now.game =
    c.self.invariant.layout ∙ ap (λ v. shape_of v.game) c.self.view_is in
    let at : position_of c.self.inside.layout c.self.inside.trail.cells
    ≡ c.args.self.now.stand.position = ap (λ v. v.stand.position) c.self.view_is in
    let live : present c.self.inside.rings.live_x
    ≡ live_lines c.args.self.now.game c.args.self.now.stand.position X =
    live-is _ _ _ _ _ (fit-first _ _ _ _ _ _ c.self.invariant.fit) X
    ∙ ((λ i. live_lines_in (shape i) (at i) X)
    ∙ live-lines-of c.args.self.now.game c.args.self.now.stand.position X) in
    let inside : Contains (live_lines c.args.self.now.game c.args.self.now.stand.position X)
    c.args.line = rw c.in-X.is at c.requires in
    subst (λ xs. Contains xs c.args.line) (sym live) inside

pub next-requires-in-Y : goal.next-requires-in-Y
next-requires-in-Y c =
    let shape : c.self.inside.layout ≡ shape_of c.args.self.now.game =
    c.self.invariant.layout ∙ ap (λ v. shape_of v.game) c.self.view_is in
    let at : position_of c.self.inside.layout c.self.inside.trail.cells
    ≡ c.args.self.now.stand.position = ap (λ v. v.stand.position) c.self.view_is in
    let live : present c.self.inside.rings.live_y
    ≡ live_lines c.args.self.now.game c.args.self.now.stand.position Y =
    live-is _ _ _ _ _ (fit-first _ _ _ _ _ _ c.self.invariant.fit) Y
    ∙ ((λ i. live_lines_in (shape i) (at i) Y)
    ∙ live-lines-of c.args.self.now.game c.args.self.now.stand.position Y) in
    let inside : Contains (live_lines c.args.self.now.game c.args.self.now.stand.position Y)
    c.args.line = rw c.in-Y.is at c.requires in
    subst (λ xs. Contains xs c.args.line) (sym live) inside

pub returns-in-X : goal.returns-in-X
returns-in-X c =
    let shape : c.self.inside.layout ≡ shape_of c.args.self.now.game =
    c.self.invariant.layout ∙ ap (λ v. shape_of v.game) c.self.view_is in
    let at : position_of c.self.inside.layout c.self.inside.trail.cells
    ≡ c.args.self.now.stand.position = ap (λ v. v.stand.position) c.self.view_is in
    let live : present c.self.inside.rings.live_x
    ≡ live_lines c.args.self.now.game c.args.self.now.stand.position X =
    live-is _ _ _ _ _ (fit-first _ _ _ _ _ _ c.self.invariant.fit) X
    ∙ ((λ i. live_lines_in (shape i) (at i) X)
    ∙ live-lines-of c.args.self.now.game c.args.self.now.stand.position X) in
    rw c.in-X.is (c.next.ensures ∙ ap (find (nat_lt c.args.line)) live)

pub returns-in-Y : goal.returns-in-Y
returns-in-Y c =
    let shape : c.self.inside.layout ≡ shape_of c.args.self.now.game =
    c.self.invariant.layout ∙ ap (λ v. shape_of v.game) c.self.view_is in
    let at : position_of c.self.inside.layout c.self.inside.trail.cells
    ≡ c.args.self.now.stand.position = ap (λ v. v.stand.position) c.self.view_is in
    let live : present c.self.inside.rings.live_y
    ≡ live_lines c.args.self.now.game c.args.self.now.stand.position Y =
    live-is _ _ _ _ _ (fit-first _ _ _ _ _ _ c.self.invariant.fit) Y
    ∙ ((λ i. live_lines_in (shape i) (at i) Y)
    ∙ live-lines-of c.args.self.now.game c.args.self.now.stand.position Y) in
    rw c.in-Y.is (c.next-in-Y.ensures ∙ ap (find (nat_lt c.args.line)) live)
