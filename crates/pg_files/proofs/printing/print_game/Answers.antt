use Rattle.pg_files.specs.Views.{entry}
use Rattle.pg_base.specs.Kind.{kind_word}
use Rattle.pg_files.specs.Print.{printed, header, worded, field_words, last_lines}
use Rattle.pg_files.specs.declared.key.Key.TheVariants as keys
use Rattle.pg_files.proofs.PrintLemmas.{joined}
use Rattle.pg_files.proofs.printing.print_game.Goals as goal

pub returns : goal.returns
unfolding printed
returns c =
    let g = entry c.args.g.now in
    rw (
      c.into_bytes.ensures.value,
      c.in_ok-put_last.ensures,
      c.in_ok-put_field.ensures,
      c.in_ok-put_word.ensures,
      c.in_ok-push_str.ensures.bytes,
      c.new-out.ensures.bytes,
      c.word.ensures,
    )
    (joined header (worded keys.Kind (kind_word g.kind)) (field_words g.bias g.field)
    (last_lines g.x g.y g.turn))
