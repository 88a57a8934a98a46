use Rattle.std.proofs.Common.{arith}
use Rattle.pg_game.proofs.Limits.{few_summed}
use Rattle.pg_game.proofs.fit.is_line_field.Goals as goal

pub summed-requires : goal.summed-requires
summed-requires c = few_summed c.args.field.now.points c.args.bias c.as_slice-lines.result.now
    (omega arith) (c.are_lines.ensures.0 c.if-not-are_lines.false)
