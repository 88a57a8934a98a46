use Rattle.std.proofs.Common.{◌≡◌, ◌+◌, ◌∙◌, Bool, true, false, if◌then◌else◌, sym, ap, arith}
use Rattle.pg_game.specs.Position.{is_free}
use Rattle.pg_board.specs.Fits.{position_of}
use Rattle.pg_board.specs.Totals.{weight_in}
use Rattle.pg_board.proofs.CellPlaces.{mark_cell-is, mark-within}
use Rattle.pg_board.proofs.Nearness.{unmarked-is}
use Rattle.pg_board.proofs.totals.free_weight.Goals as goal

pub is_unmarked-requires : goal.is_unmarked-requires
is_unmarked-requires c = omega (
  arith,
  mark_cell-is c.args.v,
  mark-within c.args.layout.now (1 + c.args.v) (omega (arith, c.requires.range)),
  c.requires.agrees.counted.width,
)

pub returns-then-is_unmarked-clause-exact : goal.returns-then-is_unmarked-clause-exact
returns-then-is_unmarked-clause-exact c =
    let p = position_of c.args.layout.now c.args.trail.now.cells in
    let on : is_free p c.args.v ≡ true =
    sym (unmarked-is c.args.layout.now c.args.trail.now.cells c.args.v c.requires.range)
    ∙ (sym c.is_unmarked.ensures ∙ c.if-is_unmarked.true) in
    c.weight.ensures.exact
    ∙ sym (ap (λ (b : Bool).
    if b then weight_in c.args.base c.args.layout.now p c.args.side c.args.v else 0) on)

pub returns-else-is_unmarked-clause-exact : goal.returns-else-is_unmarked-clause-exact
returns-else-is_unmarked-clause-exact c =
    let p = position_of c.args.layout.now c.args.trail.now.cells in
    let off : is_free p c.args.v ≡ false =
    sym (unmarked-is c.args.layout.now c.args.trail.now.cells c.args.v c.requires.range)
    ∙ (sym c.is_unmarked.ensures ∙ c.if-is_unmarked.false) in
    sym (ap (λ (b : Bool).
    if b then weight_in c.args.base c.args.layout.now p c.args.side c.args.v else 0) off)
