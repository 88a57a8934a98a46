use Rattle.std.proofs.Common.{ap, sym, ◌∙◌}
use Rattle.pg_files.proofs.Common.{bytes_eq, Bytes}
use Rattle.pg_files.specs.Key.{key_name}
use Rattle.pg_files.proofs.Finds.{find_more}
use Rattle.pg_files.proofs.key.Key.read.Goals as goal

pub loop-key-preserved : goal.loop-key-preserved
loop-key-preserved c = find_more (λ key. bytes_eq (key_name key) c.args.word.now) _
    c.loop-key.key-index _ c.loop-key-test.true
    (ap (λ (name : Bytes). bytes_eq name c.args.word.now) (sym c.name.ensures)
    ∙ ap (λ (name : Bytes). bytes_eq name c.args.word.now) (sym c.as_bytes.ensures.value)
    ∙ sym c.eq.ensures
    ∙ c.if-eq.false)
    ∙ c.loop-key.invariant
