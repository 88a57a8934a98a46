use Rattle.std.proofs.Common.{◌≡◌, ◌*◌, ◌≤◌, true, length, arith, ap, sym}
use Rattle.pg_board.specs.Shape.{degree_in}
use Rattle.pg_board.specs.Fits.{summed, entries_of}
use Rattle.pg_board.proofs.Rooms.{summed-none, summed-next, degree-few, whole-is}
use Rattle.pg_board.proofs.opening.whole_room.Goals as goal

pub loop-v-init : goal.loop-v-init
loop-v-init c = (sym (summed-none (entries_of c.args.layout.now)), omega arith)

pub loop-v-preserved : goal.loop-v-preserved
loop-v-preserved c =
    let len : length c.through.result.now ≡ degree_in c.args.layout.now c.loop-v.v =
    ap length c.through.ensures.lines in
    let few = degree-few c.args.layout.now c.loop-v.v in
    let next = summed-next (entries_of c.args.layout.now) c.loop-v.v in
    let so_far : c.loop-v.room ≡ summed (entries_of c.args.layout.now) (λ _. true) c.loop-v.v =
    c.loop-v.invariant.0 in
    let bound : c.loop-v.room ≤ 80002 * c.loop-v.v = c.loop-v.invariant.1 in
    (omega arith, omega (arith, c.through.ensures.shape.few_lines))

pub returns : goal.returns
returns c =
    let all : c.loop-v.v ≡ c.args.layout.now.points =
    omega (arith, c.loop-v-test.false, c.points-v-end.ensures) in
    let so_far : c.loop-v.room ≡ summed (entries_of c.args.layout.now) (λ _. true) c.loop-v.v =
    c.loop-v.invariant.0 in
    let whole = whole-is c.args.layout.now c.loop-v.v all in
    omega (arith, c.from.ensures)
