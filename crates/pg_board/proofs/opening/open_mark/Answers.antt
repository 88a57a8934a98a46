use Rattle.std.proofs.Common.{◌≡◌, true, ap, ◌∙◌, sym, subst}
use Rattle.pg_board.proofs.Common.{is_free, Cells, with_set}
use Rattle.pg_board.specs.Shape.{turn_cell}
use Rattle.pg_board.specs.Opening.{turn_code}
use Rattle.pg_board.specs.Fits.{position_of}
use Rattle.pg_board.proofs.Fitting.{some-cells}
use Rattle.pg_board.proofs.OpeningSteps.{opens-more, turned-fits, turned-unmarked, code-few}
use Rattle.pg_board.proofs.opening.open_mark.Goals as goal

pub set-requires-clause-within : goal.set-requires-clause-within
set-requires-clause-within c = some-cells _ _ _ _ _ c.requires.opens.fits

pub play_point-requires-clause-fits : goal.play_point-requires-clause-fits
play_point-requires-clause-fits c =
    let now : c.set.new.self
    ≡ with_set c.args.trail.now turn_cell (turn_code c.args.side c.args.bias) =
    c.set.ensures ∙ ap (with_set c.args.trail.now turn_cell) c.turn_code.ensures in
    rw now
    (turned-fits _ c.args.p.now c.args.v _ c.args.trail.now c.args.rings.now c.requires.opens
    (code-few c.args.side c.args.bias))

pub play_point-requires-clause-open : goal.play_point-requires-clause-open
play_point-requires-clause-open c =
    let now : c.set.new.self
    ≡ with_set c.args.trail.now turn_cell (turn_code c.args.side c.args.bias) =
    c.set.ensures ∙ ap (with_set c.args.trail.now turn_cell) c.turn_code.ensures in
    subst (λ (t : Cells). is_free (position_of c.args.layout.now t.cells) c.args.v ≡ true) (sym now)
    (turned-unmarked _ c.args.p.now c.args.v _ c.args.trail.now c.args.rings.now c.requires.opens)

pub returns : goal.returns
returns c =
    let now : c.set.new.self
    ≡ with_set c.args.trail.now turn_cell (turn_code c.args.side c.args.bias) =
    c.set.ensures ∙ ap (with_set c.args.trail.now turn_cell) c.turn_code.ensures in
    opens-more _ c.args.p.now c.args.side c.args.v c.args.trail.now c.args.rings.now
    _ _ c.requires.opens c.requires.range c.requires.own
    c.requires.theirs (rw now at c.play_point.ensures)
