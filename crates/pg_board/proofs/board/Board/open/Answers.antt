use Rattle.std.proofs.Common.{◌≡◌, ◌+◌, ◌^◌, ◌≤◌, [], length, reverse, arith, ap, ◌∙◌}
use Rattle.pg_board.proofs.Common.{Y, point_count, lines_of, greatest_length, full_weight-is}
use Rattle.pg_board.proofs.Common.{some_bias, bias-le, bias-few, Cells, with_set}
use Rattle.pg_board.specs.Shape.{Shape, turn_cell}
use Rattle.pg_board.specs.Opening.{turn_code}
use Rattle.pg_board.specs.Fits.{Rules, Fits, position_of}
use Rattle.pg_board.proofs.Fitting.{some-cells}
use Rattle.pg_board.proofs.OpeningSteps.{turned-fits}
use Rattle.pg_board.proofs.Opened.{opened-position, code-low, fit-none, settled-fits}
use Rattle.pg_board.proofs.Opened.{settled-position, settled-none, earlier-none, free-few}
use Rattle.pg_board.proofs.Blank.{blank-opens}
use Rattle.pg_board.proofs.board.Board.open.Goals as goal

pub open_marks-requires-clause-opens : goal.open_marks-requires-clause-opens
open_marks-requires-clause-opens c =
    let s = c.in_ok-layout.layout in
    let longest : s.longest ≡ greatest_length (lines_of c.args.g.now) =
    ap (λ (k : Shape). k.longest) c.in_ok-layout.ensures in
    let weights : (1 + c.args.g.now.bias) ^ s.longest ≤ 2 ^ 100 = omega (
      arith,
      full_weight-is (1 + c.args.g.now.bias) c.args.g.now s.longest longest,
      bias-few c.args.g.now,
    ) in
    blank-opens (record { bias = c.args.g.now.bias; shape = s }) c.args.p.now c.in_ok-trail.trail
    c.in_ok-rings.rings
    c.in_ok-rings.ensures.shape (some_bias c.args.g.now Y) (bias-le c.args.g.now) weights
    c.in_ok-trail.ensures.cells c.in_ok-rings.ensures.live_x c.in_ok-rings.ensures.live_y
    c.in_ok-rings.ensures.free (omega (arith, c.in_ok-trail.ensures.spare))

pub set-requires-clause-within : goal.set-requires-clause-within
set-requires-clause-within c = some-cells _ _ _ _ _ c.open_marks.ensures.fits

pub set-requires-clause-room : goal.set-requires-clause-room
set-requires-clause-room c = omega (arith, c.open_marks.ensures.room)

pub invariant_of-result : goal.invariant_of-result
invariant_of-result c =
    let r : Rules = record { bias = c.args.g.now.bias; shape = c.in_ok-layout.layout } in
    let none : reverse c.in_ok-plays.plays.items ≡ [] = ap reverse c.in_ok-plays.ensures.items in
    let now : c.set.new.self
    ≡ with_set c.open_marks.new.trail turn_cell (turn_code c.args.p.now.turn c.args.p.now.left) =
    c.set.ensures ∙ ap (with_set c.open_marks.new.trail turn_cell) c.turn_code.ensures in
    let fits : Fits r c.set.new.self c.open_marks.new.rings.live_x
    c.open_marks.new.rings.live_y c.open_marks.new.rings.free = rw now
    (turned-fits r c.args.p.now c.in_ok-layout.layout.points _ c.open_marks.new.trail _
    c.open_marks.ensures (code-low c.args.p.now.turn c.args.g.now.bias c.args.p.now.left
    c.requires.position.few_left)) in
    let settled_fits : Fits r c.settle.new.self c.open_marks.new.rings.live_x
    c.open_marks.new.rings.live_y c.open_marks.new.rings.free =
    rw c.settle.ensures (settled-fits r c.set.new.self _ _ _ fits) in
    let few = free-few r _ _ _ _ fits in
    let items = ap length none in
    record {
      has_lines = c.requires.lines;
      layout = c.in_ok-layout.ensures;
      fit = fit-none r _ _ _ _ _ none settled_fits;
      places = omega (arith, c.in_ok-plays.ensures.capacity, c.from.ensures, c.points.ensures);
    }

pub returns-clause-position : goal.returns-clause-position
returns-clause-position c =
    let r : Rules = record { bias = c.args.g.now.bias; shape = c.in_ok-layout.layout } in
    let now : c.set.new.self
    ≡ with_set c.open_marks.new.trail turn_cell (turn_code c.args.p.now.turn c.args.p.now.left) =
    c.set.ensures ∙ ap (with_set c.open_marks.new.trail turn_cell) c.turn_code.ensures in
    let points : c.in_ok-layout.layout.points ≡ point_count c.args.g.now =
    ap (λ s. s.points) c.in_ok-layout.ensures in
    settled-position c.in_ok-layout.layout c.settle.new.self c.set.new.self c.settle.ensures
    ∙ (ap (λ (t : Cells). position_of c.in_ok-layout.layout t.cells) now
    ∙ opened-position r c.args.p.now c.open_marks.new.trail _ c.open_marks.ensures
    (λ v on. (let low = c.requires.position.x_range v on in omega arith))
    (λ v on. (let low = c.requires.position.y_range v on in omega arith))
    c.requires.position.some_left c.requires.position.few_left)

pub returns-clause-entries : goal.returns-clause-entries
returns-clause-entries c = settled-none c.settle.new.self c.set.new.self c.settle.ensures

pub returns-clause-earlier : goal.returns-clause-earlier
returns-clause-earlier c = earlier-none c.in_ok-layout.layout c.settle.new.self
    (reverse c.in_ok-plays.plays.items) (ap reverse c.in_ok-plays.ensures.items)
