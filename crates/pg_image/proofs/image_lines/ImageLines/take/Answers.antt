use Rattle.std.proofs.lemmas.Result.{IfOk-weaker}
use Rattle.pg_image.proofs.LinesRead.{taken_all, taken_line, taken_none}
use Rattle.pg_image.proofs.image_lines.ImageLines.take.Goals as goal

pub loop-line-init : goal.loop-line-init
loop-line-init c = taken_none c.args.self.now c.args.piece.now

pub loop-line-preserved : goal.loop-line-preserved
loop-line-preserved c = taken_line c.args.self.now c.loop-line.self c.end_line.new.self
    c.args.piece.now c.loop-line.rest.now c.in-Some.line.now c.in-Some.others.now
    c.loop-line.invariant c.in-Some.ensures.found.0 c.in_ok-end_line.ensures

pub returns : goal.returns
returns c = IfOk-weaker c.keep.result _ _
    (λ u keeps. taken_all c.args.self.now c.loop-line.self c.keep.new.self c.args.piece.now
    c.loop-line.rest.now c.loop-line.invariant keeps) c.keep.ensures
