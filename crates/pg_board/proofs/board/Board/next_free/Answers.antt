use Rattle.std.proofs.Common.{◌≡◌, ◌<◌, ap, ◌∙◌, sym, subst}
use Rattle.std.specs.Prelude.{nat_lt, IfSome}
use Rattle.pg_board.proofs.Common.{find, Contains, free_points, present}
use Rattle.pg_board.specs.Shape.{shape_of}
use Rattle.pg_board.specs.Fits.{position_of}
use Rattle.pg_board.proofs.Fitting.{fit-first}
use Rattle.pg_board.specs.Fits.{free_points_in}
use Rattle.pg_board.proofs.Answering.{find-small, free-small}
use Rattle.pg_board.proofs.Judging.{free-points-of}
use Rattle.pg_board.proofs.board.Board.next_free.Goals as goal

pub next-requires : goal.next-requires
next-requires c =
    let fits = fit-first _ _ _ _ _ _ c.self.invariant.fit in
    let shape : c.self.inside.layout ≡ shape_of c.args.self.now.game =
    c.self.invariant.layout ∙ ap (λ v. shape_of v.game) c.self.view_is in
    let at : position_of c.self.inside.layout c.self.inside.trail.cells
    ≡ c.args.self.now.stand.position = ap (λ v. v.stand.position) c.self.view_is in
    let free : present c.self.inside.rings.free
    ≡ free_points c.args.self.now.game c.args.self.now.stand.position = fits.free_is
    ∙ ((λ i. free_points_in (shape i) (at i))
    ∙ free-points-of c.args.self.now.game c.args.self.now.stand.position) in
    rw c.from.ensures (subst (λ xs. Contains xs c.args.v) (sym free) c.requires)

pub point_of-requires : goal.point_of-requires
point_of-requires c =
    let fits = fit-first _ _ _ _ _ _ c.self.invariant.fit in
    subst (λ o. IfSome o (λ v. v < 65536)) (sym c.next.ensures)
    (find-small (nat_lt c.from.result) (present c.self.inside.rings.free) 65536
    (free-small _ _ _ _ _ fits))

pub returns : goal.returns
returns c =
    let fits = fit-first _ _ _ _ _ _ c.self.invariant.fit in
    let shape : c.self.inside.layout ≡ shape_of c.args.self.now.game =
    c.self.invariant.layout ∙ ap (λ v. shape_of v.game) c.self.view_is in
    let at : position_of c.self.inside.layout c.self.inside.trail.cells
    ≡ c.args.self.now.stand.position = ap (λ v. v.stand.position) c.self.view_is in
    let free : present c.self.inside.rings.free
    ≡ free_points c.args.self.now.game c.args.self.now.stand.position = fits.free_is
    ∙ ((λ i. free_points_in (shape i) (at i))
    ∙ free-points-of c.args.self.now.game c.args.self.now.stand.position) in
    c.point_of.ensures
    ∙ (c.next.ensures
    ∙ (ap (λ n. find (nat_lt n) (present c.self.inside.rings.free)) c.from.ensures
    ∙ ap (find (nat_lt c.args.v)) free))
