use Rattle.std.proofs.Common.{◌∙◌}
use Rattle.pg_span.proofs.Common.{contains, is_free}
use Rattle.pg_span.specs.Game.{marks_at}
use Rattle.pg_span.proofs.Counting.{crossed-same, parts-told}
use Rattle.pg_span.proofs.condition.parts_hold.Goals as goal

pub returns : goal.returns
returns c =
    let g = c.args.g.now in
    let p = marks_at g c.args.turn in
    let numbers = c.args.numbers.now in
    parts-told g p numbers c.crossing-taken.result c.crossing-free.result c.different.result
    c.are_few.result c.if-numbers-g.false c.crossing-taken.ensures.count
    (c.crossing-free.ensures.count
    ∙ crossed-same g p numbers (contains c.free_edges.result) (is_free p) c.free_edges.ensures)
    c.different.ensures.count c.are_few.ensures
