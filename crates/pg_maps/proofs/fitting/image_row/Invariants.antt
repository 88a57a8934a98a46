use Rattle.std.proofs.Common.{◌≡◌, map, take, get_or}
use Rattle.pg_maps.proofs.fitting.image_row.Given as goal

abbrev pub invariant-loop-v : goal.invariant-loop-v
invariant-loop-v l = l.row.items ≡ map (λ v. get_or l.table v 0) (take l.v-index l.line)
