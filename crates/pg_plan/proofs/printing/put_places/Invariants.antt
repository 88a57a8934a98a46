use Rattle.std.proofs.Common.{◌≡◌, ◌++◌, take}
use Rattle.std.specs.Prelude.{string_bytes}
use Rattle.pg_plan.proofs.Common.{flat_map, spelled}
use Rattle.pg_plan.specs.Print.{place_words}
use Rattle.pg_plan.proofs.printing.put_places.Given as goal

abbrev pub invariant-loop-place : goal.invariant-loop-place
invariant-loop-place l = string_bytes l.out
    ≡ string_bytes l.fn.out
    ++ flat_map (λ p. spelled (place_words p)) (take l.place-index l.places)
