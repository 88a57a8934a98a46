-- The walk over live lines.
use Rattle.std.proofs.Common.{◌≡◌, ℕ, Bool, Option, Some, None, IfSome, List, eqb, sym, subst}
use Rattle.pg_leaf.proofs.Common.{eqb-true, Contains, find, member-from_any}
use Rattle.pg_board.proofs.Nearness.{found-any}

-- what is found is a member
pub next-listed : (t : ℕ → Bool) (xs : List ℕ) (o : Option ℕ)
    → o ≡ find t xs
    → IfSome o (Contains xs)
next-listed t xs None is = tt
next-listed t xs (Some x) is =
    let member = member-from_any (λ q. eqb q x) xs (found-any t xs x (sym is)).0 in
    subst (λ (q : ℕ). Contains xs q) (eqb-true member.0 x member.2) member.1
