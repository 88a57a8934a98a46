use Rattle.std.proofs.Common.{◌≡◌, ◌+◌, ◌∷◌, List, length, arith, ◌∙◌, sym, ap}
use Rattle.pg_family_files.proofs.Common.{Bytes, reading, lines_few, reads_on, ends, is_over}
use Rattle.pg_family_files.proofs.Common.{number_of}
use Rattle.pg_family_files.specs.FamilyFile.{after}
use Rattle.pg_family_files.specs.Views.{view}
use Rattle.pg_family_files.proofs.reading.read_lines.Goals as goal

pub overflow_add-number : goal.overflow_add-number
overflow_add-number c =
    omega (arith, c.loop-line.invariant.count, lines_few c.args.text.now, c.requires)

pub loop-line-preserved : goal.loop-line-preserved
loop-line-preserved c =
    let rest : c.loop-line.line-iterator ≡ c.in-Some.line.now ∷ c.next.new.self =
    c.in-Some.ensures.steps in
    let read = after c.args.family in
    record {
      so_far = reads_on read (c.loop-line.number + 1) (view c.loop-line.draft)
          (view c.read.new.self) c.in-Some.line.now c.next.new.self c.in_default.ensures
          ∙ ap (λ (ls : List Bytes).
          reading read (c.loop-line.number + 1) (view c.loop-line.draft) ls) (sym rest)
          ∙ c.loop-line.invariant.so_far;
      count = omega (arith, ap length rest, c.loop-line.invariant.count);
    }

pub returns-in-Err : goal.returns-in-Err
returns-in-Err c =
    let rest : c.loop-line.line-iterator ≡ c.in-Some.line.now ∷ c.next.new.self =
    c.in-Some.ensures.steps in
    let read = after c.args.family in
    rw c.at.ensures
    (ends read number_of view c.in-Err.error (c.loop-line.number + 1)
    (view c.loop-line.draft) c.in-Some.line.now c.next.new.self _ c.in-Err.ensures
    (ap (λ (ls : List Bytes). reading read (c.loop-line.number + 1) (view c.loop-line.draft) ls)
    (sym rest)
    ∙ c.loop-line.invariant.so_far))

pub returns : goal.returns
returns c =
    let read = after c.args.family in
    sym c.loop-line.invariant.so_far
    ∙ ap (λ (ls : List Bytes). reading read (c.loop-line.number + 1) (view c.loop-line.draft) ls)
    c.in-None.ensures.steps.0
    ∙ is_over read (c.loop-line.number + 1) (view c.loop-line.draft)
