use Rattle.std.proofs.Common.{take}
use Rattle.pg_play_tree.specs.Places.{Leads}
use Rattle.pg_play_tree.proofs.place.play_points.Given as goal

abbrev pub invariant-loop-v : goal.invariant-loop-v
invariant-loop-v l = Leads l.fn.player (take l.v-index l.points) l.player
