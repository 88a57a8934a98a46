use Rattle.std.proofs.Common.{◌≡◌, length, arith, ◌∙◌}
use Rattle.pg_board.proofs.Gathering.{gathered-all}
use Rattle.pg_board.proofs.layout.gathered.Goals as goal

pub returns : goal.returns
returns c =
    let all : c.loop-i.i ≡ length c.args.lines.now = omega arith in
    c.in_ok-all.ensures
    ∙ gathered-all c.args.lines.now c.loop-i.rows
    (length c.args.rows.now) c.loop-i.i c.loop-i.invariant.count all c.loop-i.invariant.gathered
