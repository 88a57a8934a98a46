use Rattle.std.proofs.Common.{◌≡◌, ◌∙◌, ◌+◌, ◌∷◌, List, length, arith, ap, sym}
use Rattle.pg_record.proofs.Common.{reading, Bytes, reads_on, ends, is_over}
use Rattle.pg_record.specs.Session.{Recorded}
use Rattle.pg_record.specs.RecordFile.{after}
use Rattle.pg_record.specs.Views.{number_of}
use Rattle.pg_record.proofs.reading.read_events.Goals as goal

pub loop-line-preserved : goal.loop-line-preserved
loop-line-preserved c =
    let rest : c.loop-line.line-iterator ≡ c.in-Some.line.now ∷ c.next.new.self =
    c.in-Some.ensures.steps in
    let read = after c.args.g.now in
    record {
      so_far = reads_on read
          (c.loop-line.number + 1) c.loop-line.session.events c.read_line.new.session.events
          c.in-Some.line.now c.next.new.self c.in_default.ensures.events
          ∙ ap (λ (ls : List Bytes).
          reading read (c.loop-line.number + 1) c.loop-line.session.events ls) (sym rest)
          ∙ c.loop-line.invariant.so_far;
      count = omega (arith, ap length rest, c.loop-line.invariant.count);
      game = c.in_default.ensures.game ∙ c.loop-line.invariant.game;
    }

pub returns-in-Err-clause-read : goal.returns-in-Err-clause-read
returns-in-Err-clause-read c =
    let rest : c.loop-line.line-iterator ≡ c.in-Some.line.now ∷ c.next.new.self =
    c.in-Some.ensures.steps in
    let read = after c.args.g.now in
    rw c.at.ensures
    (ends read number_of (λ (s : Recorded). s.events) c.in-Err.error (c.loop-line.number + 1)
    c.loop-line.session.events c.in-Some.line.now c.next.new.self _ c.in-Err.ensures.events
    (ap (λ (ls : List Bytes). reading read (c.loop-line.number + 1) c.loop-line.session.events ls)
    (sym rest)
    ∙ c.loop-line.invariant.so_far))

pub returns-clause-read : goal.returns-clause-read
returns-clause-read c =
    let read = after c.args.g.now in
    sym c.loop-line.invariant.so_far
    ∙ ap (λ (ls : List Bytes). reading read (c.loop-line.number + 1) c.loop-line.session.events ls)
    c.in-None.ensures.steps.0
    ∙ is_over read (c.loop-line.number + 1) c.loop-line.session.events
