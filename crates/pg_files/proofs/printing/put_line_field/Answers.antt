use Rattle.std.proofs.Common.{map}
use Rattle.pg_files.specs.Print.{size_words, bias_words, numbered}
use Rattle.pg_files.specs.declared.key.Key.TheVariants as keys
use Rattle.pg_files.proofs.PrintLemmas.{each_text, joined_bias}
use Rattle.pg_files.proofs.printing.put_line_field.Goals as goal

pub returns : goal.returns
returns c =
    let f = c.args.field.now in
    rw (
      c.in_ok-put_lines.ensures,
      c.in_ok-put_bias.ensures,
      c.in_ok-put_size.ensures,
      c.as_slice.ensures,
      ← each_text (numbered keys.Line) f.lines,
    )
    (joined_bias _ (size_words f.points f.grid) (bias_words c.args.bias)
    (map (numbered keys.Line) f.lines))
