use Rattle.std.proofs.Common.{◌≡◌, ◌<◌, ◌≤◌, ◌-◌, ℕ, true}
use Rattle.std.specs.FinSet.{contains}
use Rattle.pg_maps.specs.GridMaps.{image_of}
use Rattle.pg_maps.proofs.grid_map.GridMap.image_set.Given as goal

abbrev pub invariant-loop-v : goal.invariant-loop-v
invariant-loop-v l = record {
  next : l.next ≤ 1024;
  into : (v : ℕ)
      → v < l.next
      → contains l.set v ≡ true
      → contains l.image (image_of l.self l.grid v) ≡ true;
  from : (w : ℕ)
      → contains l.image w ≡ true
      → (v : ℕ) × (contains l.set v ≡ true) × (image_of l.self l.grid v ≡ w);
}

abbrev pub decreases-loop-v : goal.decreases-loop-v
decreases-loop-v l = 1024 - l.next
