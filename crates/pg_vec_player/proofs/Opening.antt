-- What a player has when it is opened.
use Rattle.std.proofs.Common.{◌≡◌, ℕ, Bool, List, [], ◌∷◌, Some, length, slice_get, refl, sym, ap}
use Rattle.std.proofs.Common.{subst, arith, true}
use Rattle.pg_vec_player.proofs.Common.{false≢true, FinSet, nat_cmp, Side, X, Y, Position}
use Rattle.pg_vec_player.proofs.Common.{AreSpanTrees, AreSpanCuts, Cert, Claim, Body, Over, Move}
use Rattle.pg_vec_player.proofs.Common.{Pairs, Potential, Trees, Cuts, Threat, Weaker, Node}
use Rattle.pg_vec_player.proofs.Common.{VecGame, VecPlan, names_sets, IsOfSide, HasTrees, HasCuts}
use Rattle.pg_vec_player.proofs.Common.{IsVecClaimValid, IsVecValid, vector_rules}
use Rattle.std.proofs.Math.Logic.{∥∥₁_map}
use Rattle.pg_cert.specs.declared.node.Body.TheVariants.{All as Every}
use Rattle.pg_gf2.specs.declared.flaw.VecFlaw.TheVariants as flaws
use Rattle.pg_switch.proofs.Known.{same_bool, same_number, same_side, are_free, free_or_e, IsChosen}
use Rattle.pg_switch.proofs.Known as known
use Rattle.pg_switch.proofs.Seats.{reached-start}
use Rattle.pg_vec_player.specs.Player.{chosen_vec_claim, plan_of_body, plan_of_node, plan_of_claim}
use Rattle.pg_vec_player.specs.Player.{vec_start, VecPlanHolds, IsOnVecPlan}
use Rattle.pg_gf2.proofs.ClassLemmas.{place}
use Rattle.pg_gf2.proofs.LawLemmas.{sets_force}

-- ---- facts that have one proof at most

trees : (spans : (ℕ → Bool) → ℕ → Bool) (n : ℕ) (p : Position) (a1 a2 : FinSet nat_cmp)
    → ∥ AreSpanTrees spans n p a1 a2 ∥₁
    → AreSpanTrees spans n p a1 a2
trees spans n p a1 a2 t = record {
  first_free = free_or_e n p X a1 (∥∥₁_map t (λ h. h.first_free));
  second_free = are_free n p a2 (∥∥₁_map t (λ h. h.second_free));
  apart = λ f k. same_bool _ _ (∥∥₁_map t (λ h. h.apart f k));
  first = λ f k. same_bool _ _ (∥∥₁_map t (λ h. h.first f k));
  first_joins = same_bool _ _ (∥∥₁_map t (λ h. h.first_joins));
  second = λ f k. same_bool _ _ (∥∥₁_map t (λ h. h.second f k));
  second_joins = same_bool _ _ (∥∥₁_map t (λ h. h.second_joins));
}

cuts : (spans : (ℕ → Bool) → ℕ → Bool) (n : ℕ) (p : Position) (d1 d2 : FinSet nat_cmp)
    → ∥ AreSpanCuts spans n p d1 d2 ∥₁
    → AreSpanCuts spans n p d1 d2
cuts spans n p d1 d2 t = record {
  first_free = free_or_e n p Y d1 (∥∥₁_map t (λ h. h.first_free));
  second_free = are_free n p d2 (∥∥₁_map t (λ h. h.second_free));
  apart = λ f k. same_bool _ _ (∥∥₁_map t (λ h. h.apart f k));
  first = λ f k. same_bool _ _ (∥∥₁_map t (λ h. h.first f k));
  first_parts = λ k. same_bool _ _ (∥∥₁_map t (λ h. h.first_parts k));
  second = λ f k. same_bool _ _ (∥∥₁_map t (λ h. h.second f k));
  second_parts = same_bool _ _ (∥∥₁_map t (λ h. h.second_parts));
}

-- ---- the claim that is chosen

pub chosen-is : (g : VecGame) (cert : Cert) (side : Side) (claim : Claim)
    → chosen_vec_claim g cert side ≡ Some claim
    → IsChosen (λ (c : Claim). c.side) (λ (c : Claim). c.turn) cert.claims side g.turn claim
unfolding chosen_vec_claim
chosen-is g cert side claim h =
    known.chosen-is (λ (c : Claim). c.side) (λ (c : Claim). c.turn) cert.claims side g.turn claim h

-- ---- the plan at the game's marks

-- what is known of a valid claim's node
record IsSoundBody (g : VecGame) (side turn : Side) (body : Body) : Type 0 where
  pub names : names_sets body ≡ true
  pub claimer : ∥ IsOfSide side body ∥₁
  pub trees : ∥ HasTrees g turn body ∥₁
  pub cuts : ∥ HasCuts g turn body ∥₁

body-holds : (g : VecGame) (side : Side) (body : Body)
    → IsSoundBody g side g.turn body
    → VecPlanHolds g side (vec_start g) (plan_of_body g body)
body-holds g side (Trees with_e first second) b = subst
    (λ (s : Side). VecPlanHolds g s (vec_start g) (plan_of_body g (Trees with_e first second)))
    (sym (same_side _ _ b.claimer)) (trees _ _ _ _ _ (∥∥₁_map b.trees (λ h. h.1)))
body-holds g side (Cuts with_e first second) b =
    subst (λ (s : Side). VecPlanHolds g s (vec_start g) (plan_of_body g (Cuts with_e first second)))
    (sym (same_side _ _ b.claimer)) (cuts _ _ _ _ _ (∥∥₁_map b.cuts (λ h. h.1)))
body-holds g side Over b = absurd (false≢true b.names)
body-holds g side (Move point child) b = absurd (false≢true b.names)
body-holds g side (Every replies) b = absurd (false≢true b.names)
body-holds g side (Pairs pairs) b = absurd (false≢true b.names)
body-holds g side Potential b = absurd (false≢true b.names)
body-holds g side (Threat points) b = absurd (false≢true b.names)
body-holds g side (Weaker child) b = absurd (false≢true b.names)

module _ (g : VecGame) (cert : Cert) (claim : Claim) (turn_is : claim.turn ≡ g.turn)
    (valid : ∥ IsVecClaimValid g cert.version claim ∥₁) where
  sound-body : (node : Node)
      → slice_get claim.nodes 0 ≡ Some node
      → IsSoundBody g claim.side g.turn node.body
  sound-body node at = subst (λ (s : Side). IsSoundBody g claim.side s node.body) turn_is (record {
    names = same_bool _ _ (∥∥₁_map valid (λ v. v.sound node at flaws.Form));
    claimer = ∥∥₁_map valid (λ v. (v.sound node at flaws.Claimer).0);
    trees = ∥∥₁_map valid (λ v. v.sound node at flaws.Trees);
    cuts = ∥∥₁_map valid (λ v. v.sound node at flaws.Cuts);
  })

  node-holds : (nodes : List Node)
      → claim.nodes ≡ nodes
      → VecPlanHolds g claim.side (vec_start g) (plan_of_node g (slice_get nodes 0))
  node-holds [] e = absurd
      (let one : length claim.nodes ≡ 1 = same_number _ _ (∥∥₁_map valid (λ v. v.one_node)) in
      let none : length claim.nodes ≡ 0 = ap length e in omega (arith, one, none))
  node-holds (node ∷ nodes) e = body-holds g claim.side node.body
      (sound-body node (ap (λ (ns : List Node). slice_get ns 0) e))

-- so the player is on its plan there
pub on-start : (g : VecGame) (cert : Cert) (side : Side) (claim : Claim) (plan : VecPlan)
    → ∥ IsVecValid g cert ∥₁
    → chosen_vec_claim g cert side ≡ Some claim
    → plan ≡ plan_of_claim g claim
    → IsOnVecPlan g side (vec_start g) plan
on-start g cert side claim plan valid h is =
    let c = chosen-is g cert side claim h in
    let there = node-holds g cert claim c.turn_is
    (∥∥₁_map valid (λ v. v c.place claim c.at)) claim.nodes refl in
    let holds = subst (λ (q : VecPlan). VecPlanHolds g side (vec_start g) q) (sym is)
    (subst (λ (s : Side). VecPlanHolds g s (vec_start g) (plan_of_claim g claim)) c.side_is
    there) in
    record {
      place = place g g.turn;
      reached = reached-start (vector_rules g) (vec_start g);
      forced = sets_force g side (vec_start g) plan.first plan.second (place g g.turn) holds;
      holds = λ _. holds;
    }
