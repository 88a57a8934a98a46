use Rattle.std.proofs.Common.{◌≡◌, ◌<◌, map}
use Rattle.pg_fold.proofs.Common.{All, range_with_len, MAX_MEMBERS, image_of, reverse_of}
use Rattle.pg_fold.proofs.tables.MapTable.new.Given as goal

abbrev pub invariant-loop-v : goal.invariant-loop-v
invariant-loop-v l = record {
  sources : l.sources.items ≡ map (image_of (reverse_of l.map) l.grid) (range_with_len 0 l.v);
  small : All (λ u. u < MAX_MEMBERS) l.sources.items;
}
