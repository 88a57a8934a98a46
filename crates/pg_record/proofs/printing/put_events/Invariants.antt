use Rattle.std.proofs.Common.{◌≡◌, ◌++◌, take}
use Rattle.std.specs.Prelude.{string_bytes}
use Rattle.pg_record.proofs.Common.{flat_map, spelled}
use Rattle.pg_record.specs.Print.{event_words}
use Rattle.pg_record.proofs.printing.put_events.Given as goal

abbrev pub invariant-loop-event : goal.invariant-loop-event
invariant-loop-event l = string_bytes l.out
    ≡ string_bytes l.fn.out ++ flat_map (λ e. spelled (event_words e)) (take l.event-index l.events)
