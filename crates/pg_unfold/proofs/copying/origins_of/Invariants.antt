use Rattle.std.proofs.Common.{◌≡◌, map}
use Rattle.pg_unfold.specs.Marks.{copies_below}
use Rattle.pg_unfold.proofs.copying.origins_of.Given as goal

abbrev pub invariant-loop-key : goal.invariant-loop-key
invariant-loop-key l = l.origins.items ≡ map (λ c. c.node) (copies_below l.nodes l.marks l.key)
