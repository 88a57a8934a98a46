use Rattle.std.proofs.Common.{◌≡◌, ◌&&◌, ℕ, take}
use Rattle.pg_pairing.proofs.Common.{list_any, contains, is_open, has_point}
use Rattle.pg_pairing.proofs.answers.open_points.Given as goal

abbrev pub invariant-loop-s : goal.invariant-loop-s
invariant-loop-s l = (q : ℕ)
    → contains l.opened q ≡ list_any (λ s. is_open l.p s && has_point q s) (take l.s-index l.pairs)
