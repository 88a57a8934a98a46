use Rattle.std.proofs.Common.{◌≡◌, ◌≤◌, ◌<◌, ◌-◌, ◌⊎◌, ℕ, true, false, length}
use Rattle.pg_exchange.proofs.Common.{contains, IsWithin}
use Rattle.pg_exchange.specs.Path.{first_label, second_label, IsReachedBoth, SpreadsOn}
use Rattle.pg_exchange.proofs.path.sweep.Given as goal

abbrev pub invariant-loop-k : goal.invariant-loop-k
invariant-loop-k l = record {
  size : length l.steps ≡ l.g.vertices;
  next : l.next ≤ 1024;
  onward : SpreadsOn (first_label l.g l.names) (second_label l.g l.names) (contains l.initial.left)
      l.g.vertices (contains l.initial.reached) l.initial.steps (contains l.reached) l.steps;
  fewer : IsWithin (contains l.left) (contains l.initial.left);
  done : (k : ℕ)
      → contains l.initial.left k ≡ true
      → contains l.left k ≡ false
      → IsReachedBoth (contains l.reached) (first_label l.g l.names k) (second_label l.g l.names k);
  across : (k : ℕ)
      → k < l.next
      → contains l.initial.left k ≡ true
      → (contains l.initial.reached (first_label l.g l.names k) ≡ true)
      ⊎ (contains l.initial.reached (second_label l.g l.names k) ≡ true)
      → IsReachedBoth (contains l.reached) (first_label l.g l.names k) (second_label l.g l.names k);
}

abbrev pub decreases-loop-k : goal.decreases-loop-k
decreases-loop-k l = 1024 - l.next
