use Rattle.std.proofs.Common.{string_bytes}
use Rattle.pg_answering.proofs.Sheets.{few_draw, many_draw}
use Rattle.pg_answering.proofs.drawing.run_draw.Goals as goal

pub returns-in-len4-up : goal.returns-in-len4-up
returns-in-len4-up c = many_draw string_bytes c.args.arguments.now _ _ _
    c.in-len4-up.len_at_least c.print_picture-in-len4-up.ensures

pub returns-in_default : goal.returns-in_default
returns-in_default c = few_draw string_bytes c.args.arguments.now _ _ _
    c.in_default.len_below c.print_picture.ensures
