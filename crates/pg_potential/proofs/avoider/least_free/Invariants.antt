use Rattle.std.proofs.Common.{◌≡◌, ◌^◌, ◌-◌, get_or}
use Rattle.pg_game.specs.Position.{is_free}
use Rattle.pg_potential.proofs.Least.{running}
use Rattle.pg_potential.proofs.avoider.least_free.Given as goal

abbrev pub invariant-loop-v : goal.invariant-loop-v
invariant-loop-v l = l.least ≡ running (is_free l.p) (λ v. get_or l.points v 0) (2 ^ 128 - 1) l.v
