use Rattle.std.proofs.Common.{◌≡◌, ◌∙◌, ◌+◌, ◌∷◌, List, length, arith, ap, sym}
use Rattle.pg_layout.proofs.Common.{Bytes, ends, is_over, reading, reads_on}
use Rattle.pg_layout.specs.LayoutFile.{after}
use Rattle.pg_layout.specs.Views.{number_of}
use Rattle.pg_layout.specs.declared.line.Placed.{Placed}
use Rattle.pg_layout.proofs.reading.read_placed.Goals as goal

pub loop-line-preserved : goal.loop-line-preserved
loop-line-preserved c =
    let read = after c.args.points in
    let rest : c.loop-line.line-iterator ≡ c.in-Some.line.now ∷ c.next.new.self =
    c.in-Some.ensures.steps in
    record {
      so_far = reads_on read
          (c.loop-line.number + 1) c.loop-line.placed.items c.read_line.new.placed.items
          c.in-Some.line.now c.next.new.self c.in_default.ensures
          ∙ ap (λ (ls : List Bytes).
          reading read (c.loop-line.number + 1) c.loop-line.placed.items ls) (sym rest)
          ∙ c.loop-line.invariant.so_far;
      count = omega (arith, ap length rest, c.loop-line.invariant.count);
    }

pub returns-in-Err : goal.returns-in-Err
returns-in-Err c =
    let read = after c.args.points in
    let rest : c.loop-line.line-iterator ≡ c.in-Some.line.now ∷ c.next.new.self =
    c.in-Some.ensures.steps in
    rw c.at.ensures
    (ends read number_of (λ (qs : List Placed). qs) c.in-Err.error (c.loop-line.number + 1)
    c.loop-line.placed.items c.in-Some.line.now c.next.new.self _ c.in-Err.ensures
    (ap (λ (ls : List Bytes). reading read (c.loop-line.number + 1) c.loop-line.placed.items ls)
    (sym rest)
    ∙ c.loop-line.invariant.so_far))

pub returns : goal.returns
returns c =
    let read = after c.args.points in
    sym c.loop-line.invariant.so_far
    ∙ ap (λ (ls : List Bytes). reading read (c.loop-line.number + 1) c.loop-line.placed.items ls)
    c.in-None.ensures.steps.0
    ∙ is_over read (c.loop-line.number + 1) c.loop-line.placed.items
