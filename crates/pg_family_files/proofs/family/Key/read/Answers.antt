use Rattle.std.proofs.Common.{◌&&◌, ap, sym, ◌∙◌}
use Rattle.pg_family_files.proofs.Common.{bytes_eq, and_right, Bytes}
use Rattle.pg_family_files.proofs.Bits.{and_first}
use Rattle.pg_files.proofs.Finds.{find_more}
use Rattle.pg_family_files.specs.Family.{key_name, has_key}
use Rattle.pg_family_files.proofs.family.Key.read.Goals as goal
use Rattle.pg_family_files.proofs.family.Key.read.Goals.{else-has-via-then-has+else-eq}
use Rattle.pg_family_files.proofs.family.Key.read.Goals.{else-has-via-else-has}

pub loop-key-preserved : goal.loop-key-preserved
loop-key-preserved c =
    find_more (λ key. has_key c.args.family key && bytes_eq (key_name key) c.args.word.now) _
    c.loop-key.key-index _ c.loop-key-test.true (elim c.else-has.branch [
      | else-has-via-then-has+else-eq w ↦
          let other = ap (λ (name : Bytes). bytes_eq name c.args.word.now) (sym w.name.ensures)
          ∙ ap (λ (name : Bytes). bytes_eq name c.args.word.now) (sym w.as_bytes.ensures.value)
          ∙ sym w.eq.ensures
          ∙ w.if-eq.false in
          and_right _ _ other
      | else-has-via-else-has w ↦ and_first _ _ (sym c.has.ensures ∙ w.if-has.false)
    ])
    ∙ c.loop-key.invariant
