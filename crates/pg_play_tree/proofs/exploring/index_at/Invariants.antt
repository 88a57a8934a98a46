use Rattle.std.proofs.Common.{◌≢◌, ℕ, ◌<◌, get_or}
use Rattle.pg_play_tree.specs.declared.place.Place.{Place}
use Rattle.pg_play_tree.proofs.exploring.index_at.Given as goal

abbrev pub invariant-loop-k : goal.invariant-loop-k
invariant-loop-k l = (j : ℕ) (d : Place)
    → j < l.k
    → (get_or l.places j d).position ≢ l.position
