use Rattle.std.proofs.Common.{◌≡◌, ◌∙◌, ◌+◌, ◌∷◌, List, length, arith, ap, sym}
use Rattle.pg_plan.proofs.Common.{Bytes, ends, is_over, reading, reads_on}
use Rattle.pg_plan.specs.PlanFile.{after}
use Rattle.pg_plan.specs.Views.{number_of}
use Rattle.pg_plan.specs.declared.place.Place.{Place}
use Rattle.pg_plan.proofs.reading.read_places.Goals as goal

pub loop-line-preserved : goal.loop-line-preserved
loop-line-preserved c =
    let rest : c.loop-line.line-iterator ≡ c.in-Some.line.now ∷ c.next.new.self =
    c.in-Some.ensures.steps in
    record {
      so_far = reads_on after
          (c.loop-line.number + 1) c.loop-line.places.items c.read_line.new.places.items
          c.in-Some.line.now c.next.new.self c.in_default.ensures
          ∙ ap (λ (ls : List Bytes).
          reading after (c.loop-line.number + 1) c.loop-line.places.items ls) (sym rest)
          ∙ c.loop-line.invariant.so_far;
      count = omega (arith, ap length rest, c.loop-line.invariant.count);
    }

pub returns-in-Err : goal.returns-in-Err
returns-in-Err c =
    let rest : c.loop-line.line-iterator ≡ c.in-Some.line.now ∷ c.next.new.self =
    c.in-Some.ensures.steps in
    rw c.at.ensures
    (ends after number_of (λ (ps : List Place). ps) c.in-Err.error (c.loop-line.number + 1)
    c.loop-line.places.items c.in-Some.line.now c.next.new.self _ c.in-Err.ensures
    (ap (λ (ls : List Bytes). reading after (c.loop-line.number + 1) c.loop-line.places.items ls)
    (sym rest)
    ∙ c.loop-line.invariant.so_far))

pub returns : goal.returns
returns c =
    sym c.loop-line.invariant.so_far
    ∙ ap (λ (ls : List Bytes). reading after (c.loop-line.number + 1) c.loop-line.places.items ls)
    c.in-None.ensures.steps.0
    ∙ is_over after (c.loop-line.number + 1) c.loop-line.places.items
