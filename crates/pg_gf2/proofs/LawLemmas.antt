-- What valid claims force, and that a fault is told by what it says.
use Rattle.std.proofs.Common.{◌≡◌, ℕ, true, inl, inr, refl, sym, ap, ◌∙◌, subst, Option, Some, None}
use Rattle.std.proofs.Common.{length, List, slice_get, unwrap_or, arith, zero, suc, [], ◌∷◌}
use Rattle.pg_gf2.proofs.Common.{both_ways, cases_lt, FinSet, nat_cmp, Win, Side, X, Y, Body, Node}
use Rattle.pg_gf2.proofs.Common.{Cert, Claim, Version, spans_mono, ForcesBy, IsPlace, Position}
use Rattle.pg_switch.specs.Claims.{AreSpanSets, IsMonotone}
use Rattle.std.specs.Option.{is_some}
use Rattle.pg_cert.specs.declared.node.Body.TheVariants as bodies
use Rattle.pg_switch.proofs.SpanLaws.{ForcesBy-trees, ForcesBy-cuts}
use Rattle.pg_gf2.specs.declared.flaw.VecFlaw.{VecFlaw}
use Rattle.pg_gf2.specs.declared.flaw.VecFlaw.TheVariants as flaws
use Rattle.pg_gf2.specs.declared.game.VecGame.{VecGame}
use Rattle.pg_gf2.specs.Check.{flaw_number, names_sets, IsOfSide, HasTrees, HasCuts}
use Rattle.pg_gf2.specs.Check.{IsVecClaimValid, IsVecValid, IsNodeFlaw, IsClaimFlaw}
use Rattle.pg_gf2.specs.Check.{IsFirstVecFault}
use Rattle.pg_gf2.specs.Classes.{with_target, vector_rules, at_turn}
use Rattle.pg_gf2.specs.GroundLaws.{IsSpan-vectors}
use Rattle.pg_gf2.specs.Vectors.{vector_spans}
use Rattle.pg_gf2.proofs.ClassLemmas.{place}

none_there : (nodes : List Node) → length nodes ≡ 1 → slice_get nodes 0 ≡ None → ⊥
none_there [] one none = absurd (let o : 0 ≡ 1 = one in omega (arith, o))
none_there (node ∷ rest) one none = both_ways _ (ap is_some none) refl

module _ (g : VecGame) where
  pub more : IsMonotone (λ set. vector_spans (with_target g) set (length g.vectors))
  more a b w h = spans_mono (vector_spans (with_target g)) (IsSpan-vectors (with_target g)) a b
      (length g.vectors) w h

  -- trees force X's win, and cuts Y's
  pub sets_force : (side : Side) (p : Position) (a1 a2 : FinSet nat_cmp)
      → IsPlace (length g.vectors) p
      → AreSpanSets (vector_spans (with_target g)) (length g.vectors) side p a1 a2
      → ForcesBy (vector_rules g) p side Win
  sets_force X p a1 a2 at t =
      ForcesBy-trees (vector_spans (with_target g)) (IsSpan-vectors (with_target g))
      (length g.vectors) (λ set. vector_spans (with_target g) set (length g.vectors)) more
      (λ set small. refl) p a1 a2 at t
  sets_force Y p a1 a2 at t =
      ForcesBy-cuts (vector_spans (with_target g)) (IsSpan-vectors (with_target g))
      (length g.vectors) (λ set. vector_spans (with_target g) set (length g.vectors)) more
      (λ set small. refl) p a1 a2 at t

  -- the sets of a body force its side's win
  body_forces : (turn side : Side) (body : Body)
      → names_sets body ≡ true
      → IsOfSide side body
      → HasTrees g turn body
      → HasCuts g turn body
      → ForcesBy (vector_rules g) (at_turn g turn) side Win
  body_forces turn side (bodies.Trees with_e first second) names own has cuts =
      subst (λ (s : Side). ForcesBy (vector_rules g) (at_turn g turn) s Win) (sym own)
      (sets_force X (at_turn g turn) _ second (place g turn) has.1)
  body_forces turn side (bodies.Cuts with_e first second) names own trees has =
      subst (λ (s : Side). ForcesBy (vector_rules g) (at_turn g turn) s Win) (sym own)
      (sets_force Y (at_turn g turn) _ second (place g turn) has.1)
  body_forces turn side bodies.Over names own trees cuts = absurd (both_ways _ refl names)
  body_forces turn side (bodies.Move v j) names own trees cuts = absurd (both_ways _ refl names)
  body_forces turn side (bodies.All rs) names own trees cuts = absurd (both_ways _ refl names)
  body_forces turn side (bodies.Pairs ps) names own trees cuts = absurd (both_ways _ refl names)
  body_forces turn side bodies.Potential names own trees cuts = absurd (both_ways _ refl names)
  body_forces turn side (bodies.Threat ps) names own trees cuts = absurd (both_ways _ refl names)
  body_forces turn side (bodies.Weaker j) names own trees cuts = absurd (both_ways _ refl names)

  pub claim_forces : (version : Version) (claim : Claim)
      → IsVecClaimValid g version claim
      → ForcesBy (vector_rules g) (at_turn g claim.turn) claim.side Win
  claim_forces version claim valid = by_first (slice_get claim.nodes 0) refl
    where
      by_first : (o : Option Node)
          → slice_get claim.nodes 0 ≡ o
          → ForcesBy (vector_rules g) (at_turn g claim.turn) claim.side Win
      by_first (Some node) at =
          let sound = valid.sound node at in
          let own : IsOfSide claim.side node.body = (sound flaws.Claimer).0 in
          body_forces claim.turn claim.side node.body (sound flaws.Form) own (sound flaws.Trees)
          (sound flaws.Cuts)
      by_first None at = absurd (none_there claim.nodes valid.one_node at)

  -- ---- faults

  valid_none : (version : Version) (claim : Claim) (flaw : VecFlaw)
      → IsVecClaimValid g version claim
      → IsClaimFlaw g version claim flaw
      → ⊥
  valid_none version claim flaw valid f = elim f [
    | inl i ↦ i.1 (valid.version_one, valid.one_node)
    | inr i ↦ i.4.fails (valid.sound i.2 i.3 flaw)
  ]

  of_number : ℕ → VecFlaw
  of_number (suc zero) = flaws.Form
  of_number (suc (suc zero)) = flaws.Position
  of_number (suc (suc (suc zero))) = flaws.Claimer
  of_number (suc (suc (suc (suc zero)))) = flaws.Trees
  of_number _ = flaws.Cuts

  of_its_number : (f : VecFlaw) → of_number (flaw_number f) ≡ f
  unfolding of_number
  of_its_number flaws.Form = refl
  of_its_number flaws.Position = refl
  of_its_number flaws.Claimer = refl
  of_its_number flaws.Trees = refl
  of_its_number flaws.Cuts = refl

  one_node_flaw : (claim : Claim) (node : Node) (f h : VecFlaw)
      → IsNodeFlaw g claim node f
      → IsNodeFlaw g claim node h
      → f ≡ h
  one_node_flaw claim node f h i j = elim (cases_lt (flaw_number f) (flaw_number h)) [
    | inl l ↦ absurd (i.fails (j.lesser f l))
    | inr n ↦ elim (cases_lt (flaw_number h) (flaw_number f)) [
      | inl l ↦ absurd (j.fails (i.lesser h l))
      | inr m ↦
          let same : flaw_number f ≡ flaw_number h = omega (arith, n, m) in
          sym (of_its_number f) ∙ (ap of_number same ∙ of_its_number h)
    ]
  ]

  one_flaw : (version : Version) (claim : Claim) (f h : VecFlaw)
      → IsClaimFlaw g version claim f
      → IsClaimFlaw g version claim h
      → f ≡ h
  one_flaw version claim f h i j = elim i [
    | inl p ↦ elim j [ inl q ↦ p.0 ∙ sym q.0 | inr q ↦ absurd (p.1 (q.0, q.1)) ]
    | inr p ↦ elim j [
      | inl q ↦ absurd (q.1 (p.0, p.1))
      | inr q ↦ one_node_flaw claim p.2 f h p.4
          (subst (λ (n : Node). IsNodeFlaw g claim n h)
          (ap (λ (o : Option Node). unwrap_or o p.2) (sym q.3 ∙ p.3)) q.4)
    ]
  ]

  pub no_fault : (c : Cert)
      → IsVecValid g c
      → (claim node : ℕ) (why : VecFlaw) → IsFirstVecFault g c claim node why
      → ⊥
  no_fault c valid claim node why f =
      valid_none c.version f.faulty why (valid claim f.faulty f.claim_at) f.has_flaw

  pub one_fault : (c : Cert) (i k : ℕ) (w : VecFlaw) (claim node : ℕ) (why : VecFlaw)
      → IsFirstVecFault g c i k w
      → IsFirstVecFault g c claim node why
      → (i ≡ claim) × (k ≡ node) × (w ≡ why)
  one_fault c i k w claim node why f h = elim (cases_lt i claim) [
    | inl l ↦ absurd
        (valid_none c.version f.faulty w (h.claims_before i f.faulty l f.claim_at) f.has_flaw)
    | inr n ↦ elim (cases_lt claim i) [
      | inl l ↦ absurd (valid_none c.version h.faulty why
          (f.claims_before claim h.faulty l h.claim_at) h.has_flaw)
      | inr m ↦
          let same : i ≡ claim = omega (arith, n, m) in
          let at : slice_get c.claims claim ≡ Some f.faulty =
          subst (λ (q : ℕ). slice_get c.claims q ≡ Some f.faulty) same f.claim_at in
          let here : h.faulty ≡ f.faulty =
          ap (λ (o : Option Claim). unwrap_or o f.faulty) (sym h.claim_at ∙ at) in (
            same,
            f.node_first ∙ sym h.node_first,
            one_flaw c.version f.faulty w why f.has_flaw
                (subst (λ (q : Claim). IsClaimFlaw g c.version q why) here h.has_flaw),
          )
    ]
  ]
