use Rattle.std.proofs.Common.{◌≡◌, ◌<◌, length, get_or, arith, rules, ap, ◌∙◌, sym, subst}
use Rattle.pg_board.specs.Shape.{shape_of}
use Rattle.pg_board.specs.Fits.{position_of}
use Rattle.pg_board.proofs.Fitting.{fit-first}
use Rattle.pg_board.specs.Shape.{Shape}
use Rattle.pg_board.specs.Counts.{count_in}
use Rattle.pg_board.specs.Fits.{held_in}
use Rattle.pg_board.proofs.CellPlaces.{count_cell-within}
use Rattle.pg_board.proofs.Answering.{count-small}
use Rattle.pg_board.proofs.board.Board.count.Goals as goal

pub count_cell-requires : goal.count_cell-requires
count_cell-requires c =
    let shape : c.self.inside.layout ≡ shape_of c.args.self.now.game =
    c.self.invariant.layout ∙ ap (λ v. shape_of v.game) c.self.view_is in
    subst (λ (s : Shape). c.args.line < length s.lines) (sym shape) c.requires

pub get-requires : goal.get-requires
get-requires c =
    let fits = fit-first _ _ _ _ _ _ c.self.invariant.fit in
    let shape : c.self.inside.layout ≡ shape_of c.args.self.now.game =
    c.self.invariant.layout ∙ ap (λ v. shape_of v.game) c.self.view_is in
    let low : c.args.line < length c.self.inside.layout.lines =
    subst (λ (s : Shape). c.args.line < length s.lines) (sym shape) c.requires in
    let within = count_cell-within c.self.inside.layout c.args.side c.args.line low in
    omega (arith, c.count_cell.ensures, fits.counted.width)

pub overflow_cast-result : goal.overflow_cast-result
overflow_cast-result c =
    let fits = fit-first _ _ _ _ _ _ c.self.invariant.fit in
    let shape : c.self.inside.layout ≡ shape_of c.args.self.now.game =
    c.self.invariant.layout ∙ ap (λ v. shape_of v.game) c.self.view_is in
    let low : c.args.line < length c.self.inside.layout.lines =
    subst (λ (s : Shape). c.args.line < length s.lines) (sym shape) c.requires in
    let is : c.get.result
    ≡ count_in c.self.inside.layout c.self.inside.trail.cells c.args.side c.args.line =
    c.get.ensures ∙ ap (λ k. get_or c.self.inside.trail.cells k 0) c.count_cell.ensures in
    let small = count-small _ _ _ _ _ fits c.args.side c.args.line low in
    let few : c.get.result < 65536 = omega arith in
    search rules

pub returns : goal.returns
returns c =
    let fits = fit-first _ _ _ _ _ _ c.self.invariant.fit in
    let shape : c.self.inside.layout ≡ shape_of c.args.self.now.game =
    c.self.invariant.layout ∙ ap (λ v. shape_of v.game) c.self.view_is in
    let at : position_of c.self.inside.layout c.self.inside.trail.cells
    ≡ c.args.self.now.stand.position = ap (λ v. v.stand.position) c.self.view_is in
    let low : c.args.line < length c.self.inside.layout.lines =
    subst (λ (s : Shape). c.args.line < length s.lines) (sym shape) c.requires in
    let is : c.get.result
    ≡ count_in c.self.inside.layout c.self.inside.trail.cells c.args.side c.args.line =
    c.get.ensures ∙ ap (λ k. get_or c.self.inside.trail.cells k 0) c.count_cell.ensures in
    is
    ∙ (fits.counts c.args.side c.args.line low
    ∙ (λ i. held_in (shape i) (at i) c.args.side c.args.line))
