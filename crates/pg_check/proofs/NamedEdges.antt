-- The first set of edges with e.
use Rattle.std.proofs.Common.{◌≡◌, ℕ, suc, Bool, true, false, sym, subst, arith}
use Rattle.pg_check.proofs.Common.{FinSet, nat_cmp, AreBelow, Game, point_count, with_e_named}
use Rattle.pg_base.proofs.PointSetLaws.{AreBelow-insert}

below_next : (s : FinSet nat_cmp) (n : ℕ) → AreBelow s n → AreBelow s (suc n)
below_next s n below v h = let low = below v h in omega arith

-- edges of the game stay at most e where e is put to them
pub with_e-below : (g : Game) (with_e : Bool) (first w : FinSet nat_cmp)
    → w ≡ with_e_named g with_e first
    → AreBelow first (point_count g)
    → AreBelow w (suc (point_count g))
with_e-below g true first w is below =
    subst (λ (s : FinSet nat_cmp). AreBelow s (suc (point_count g))) (sym is)
    (AreBelow-insert first (point_count g) (suc (point_count g))
    (below_next first (point_count g) below) (omega arith))
with_e-below g false first w is below =
    subst (λ (s : FinSet nat_cmp). AreBelow s (suc (point_count g))) (sym is)
    (below_next first (point_count g) below)
