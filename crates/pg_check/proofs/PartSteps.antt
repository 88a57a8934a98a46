-- The next part of a certificate, by what is left of its parts.
use Rattle.std.proofs.Common.{◌≡◌, ℕ, zero, suc, ◌≤◌, List, [], ◌∷◌, ◌++◌, length, map, drop, Some}
use Rattle.std.proofs.Common.{slice_get, refl, ap, arith}
use Rattle.pg_check.proofs.Common.{Goal, Side, Claim, Node, all_parts, Part}
use Rattle.pg_cert.specs.declared.part.Part.TheVariants as parts

-- the parts of claims don't begin with a node
pub no_node_first : (others : List Claim) (n : Node) (rest : List Part)
    → parts.Node n ∷ rest ≡ all_parts others
    → ⊥
no_node_first [] n rest e = absurd cc
no_node_first (c ∷ cs) n rest e = absurd cc

-- a node comes next: it is the claim's
pub next-node : (nodes : List Node) (k : ℕ) (others : List Claim) (n : Node) (rest : List Part)
    → parts.Node n ∷ rest ≡ map parts.Node (drop k nodes) ++ all_parts others
    → (slice_get nodes k ≡ Some n)
    × (rest ≡ map parts.Node (drop (suc k) nodes) ++ all_parts others)
next-node [] zero others n rest e = absurd (no_node_first others n rest e)
next-node [] (suc k) others n rest e = absurd (no_node_first others n rest e)
next-node (y ∷ ys) zero others n rest e =
    let same : y ≡ n = cc in
    (ap Some same, let tail : rest ≡ map parts.Node ys ++ all_parts others = cc in tail)
next-node (y ∷ ys) (suc k) others n rest e = next-node ys k others n rest e

-- a claim comes next: all nodes of the one before it have come
pub next-claim : (nodes : List Node) (k : ℕ) (others : List Claim) (turn side : Side) (goal : Goal)
    (count : ℕ) (rest : List Part)
    → parts.Claim turn side goal count ∷ rest ≡ map parts.Node (drop k nodes) ++ all_parts others
    → (length nodes ≤ k) × (parts.Claim turn side goal count ∷ rest ≡ all_parts others)
next-claim [] zero others turn side goal count rest e = (omega arith, e)
next-claim [] (suc k) others turn side goal count rest e = (omega arith, e)
next-claim (y ∷ ys) zero others turn side goal count rest e = absurd cc
next-claim (y ∷ ys) (suc k) others turn side goal count rest e =
    let r = next-claim ys k others turn side goal count rest e in
    (omega (arith, r.0), r.1)

-- it is the claim of its number
pub record IsClaimAt (claims : List Claim) (i : ℕ) (turn side : Side) (goal : Goal) (count : ℕ)
    (rest : List Part) : Type 0 where
  pub claim : Claim
  pub at : slice_get claims i ≡ Some claim
  pub turn_is : turn ≡ claim.turn
  pub side_is : side ≡ claim.side
  pub goal_is : goal ≡ claim.goal
  pub count_is : count ≡ length claim.nodes
  pub rest_is : rest ≡ map parts.Node claim.nodes ++ all_parts (drop (suc i) claims)

pub claim-at : (claims : List Claim) (i : ℕ) (turn side : Side) (goal : Goal) (count : ℕ)
    (rest : List Part)
    → parts.Claim turn side goal count ∷ rest ≡ all_parts (drop i claims)
    → IsClaimAt claims i turn side goal count rest
claim-at [] zero turn side goal count rest e = absurd cc
claim-at [] (suc i) turn side goal count rest e = absurd cc
claim-at (c ∷ cs) zero turn side goal count rest e = record {
  claim = c;
  at = refl;
  turn_is = cc;
  side_is = cc;
  goal_is = cc;
  count_is = cc;
  rest_is = cc;
}
claim-at (c ∷ cs) (suc i) turn side goal count rest e =
    let r = claim-at cs i turn side goal count rest e in
    record {
      claim = r.claim;
      at = r.at;
      turn_is = r.turn_is;
      side_is = r.side_is;
      goal_is = r.goal_is;
      count_is = r.count_is;
      rest_is = r.rest_is;
    }
