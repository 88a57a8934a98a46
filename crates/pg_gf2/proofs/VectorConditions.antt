-- What the calls tell of trees and cuts of vectors.
use Rattle.std.proofs.Common.{◌≡◌, ℕ, ◌+◌, ◌<◌, suc, Bool, true, List, length, [], ◌∷◌, ◌++◌, sym}
use Rattle.std.proofs.Common.{ap, ◌∙◌, subst, arith}
use Rattle.pg_gf2.proofs.Common.{length-append, FinSet, contains, nat_cmp, AreBelow, AreWithin}
use Rattle.pg_gf2.proofs.Common.{either, outside, plus, Side, kept, left_without, IsSpanBridge}
use Rattle.pg_gf2.specs.declared.game.VecGame.{VecGame}
use Rattle.pg_gf2.specs.Vectors.{vector_spans}
use Rattle.pg_gf2.specs.Classes.{with_target, at_turn}
use Rattle.pg_gf2.proofs.ConditionLemmas.{SpansWith, PartsWithout, parted}

module _ (g : VecGame) (turn : Side) (vectors : List ℕ) (same : vectors ≡ with_target g) (e : ℕ)
    (is_e : e ≡ length g.vectors) where
  abbrev spans : (ℕ → Bool) → ℕ → Bool
  spans = vector_spans (with_target g)

  -- the list has one vector more than the game
  pub count : length vectors ≡ suc (length g.vectors)
  count =
      let more : length (g.vectors ++ (g.target ∷ [])) ≡ length g.vectors + 1 =
      length-append g.vectors (g.target ∷ []) in
      omega (arith, ap length same, more)

  -- the set of a call, below the end of the list
  pub within_list : (set : FinSet nat_cmp) (a : ℕ → Bool)
      → contains set ≡ a
      → ((f : ℕ) → a f ≡ true → f < suc (length g.vectors))
      → AreBelow set (length vectors)
  within_list set a is small f h =
      let low = small f (subst (λ (s : ℕ → Bool). s f ≡ true) is h) in
      omega (arith, low, count)

  plus_e : (wanted set : FinSet nat_cmp)
      → contains wanted ≡ plus (contains set) e
      → contains wanted ≡ plus (contains set) (length g.vectors)
  plus_e wanted set is = is ∙ ap (plus (contains set)) is_e

  -- ---- trees

  pub SpansWith-told : (by set all wanted : FinSet nat_cmp)
      → contains all ≡ either (contains g.x) (contains by)
      → contains wanted ≡ plus (contains set) e
      → ((f : ℕ) → contains wanted f ≡ true → vector_spans vectors (contains all) f ≡ true)
      → SpansWith spans (length g.vectors) (at_turn g turn) by set
  SpansWith-told by set all wanted all_is wanted_is told f h =
      subst (λ (s : ℕ → Bool). spans s f ≡ true) all_is
      (subst (λ (vs : List ℕ). vector_spans vs (contains all) f ≡ true) same
      (told f (subst (λ (s : ℕ → Bool). s f ≡ true) (sym (plus_e wanted set wanted_is)) h)))

  pub SpansWith-owed : (by set all wanted : FinSet nat_cmp)
      → contains all ≡ either (contains g.x) (contains by)
      → contains wanted ≡ plus (contains set) e
      → SpansWith spans (length g.vectors) (at_turn g turn) by set
      → (f : ℕ) → contains wanted f ≡ true
      → vector_spans vectors (contains all) f ≡ true
  SpansWith-owed by set all wanted all_is wanted_is holds f h =
      subst (λ (vs : List ℕ). vector_spans vs (contains all) f ≡ true) (sym same)
      (subst (λ (s : ℕ → Bool). spans s f ≡ true) (sym all_is)
      (holds f (subst (λ (s : ℕ → Bool). s f ≡ true) (plus_e wanted set wanted_is) h)))

  -- ---- cuts

  pub PartsWithout-told : (by left bridges : FinSet nat_cmp) (set : ℕ → Bool)
      → contains left ≡ left_without (length g.vectors) (at_turn g turn) by
      → contains bridges ≡ set
      → ((f : ℕ) → contains bridges f ≡ true
      → IsSpanBridge (vector_spans vectors) (contains left) f)
      → PartsWithout spans (length g.vectors) (at_turn g turn) by set
  PartsWithout-told by left bridges set left_is set_is told f h =
      subst (λ (s : ℕ → Bool). IsSpanBridge spans s f) left_is
      (subst (λ (vs : List ℕ). IsSpanBridge (vector_spans vs) (contains left) f) same
      (told f (subst (λ (s : ℕ → Bool). s f ≡ true) (sym set_is) h)))

  pub PartsWithout-owed : (by left bridges : FinSet nat_cmp) (set : ℕ → Bool)
      → contains left ≡ left_without (length g.vectors) (at_turn g turn) by
      → contains bridges ≡ set
      → PartsWithout spans (length g.vectors) (at_turn g turn) by set
      → (f : ℕ) → contains bridges f ≡ true
      → IsSpanBridge (vector_spans vectors) (contains left) f
  PartsWithout-owed by left bridges set left_is set_is holds f h =
      subst (λ (vs : List ℕ). IsSpanBridge (vector_spans vs) (contains left) f) (sym same)
      (subst (λ (s : ℕ → Bool). IsSpanBridge spans s f) (sym left_is)
      (holds f (subst (λ (s : ℕ → Bool). s f ≡ true) set_is h)))

  -- the members of the second set, and e where the first doesn't have it, as the calls tell them
  pub parted_is : (d1 d2 more bridges : FinSet nat_cmp)
      → contains more ≡ plus (contains d2) e
      → contains bridges ≡ outside (contains more) (contains d1)
      → contains bridges ≡ parted spans (length g.vectors) (at_turn g turn) d1 d2
  parted_is d1 d2 more bridges more_is is =
      is ∙ ap (λ (s : ℕ → Bool). outside s (contains d1)) (plus_e more d2 more_is)

  pub with_e_is : (set wanted : FinSet nat_cmp)
      → contains wanted ≡ plus (contains set) e
      → contains wanted ≡ plus (contains set) (length g.vectors)
  with_e_is set wanted is = plus_e wanted set is

  pub left_is : (left without d : FinSet nat_cmp)
      → contains left ≡ kept (suc (length g.vectors)) (at_turn g turn)
      → contains without ≡ outside (contains left) (contains d)
      → contains without ≡ left_without (length g.vectors) (at_turn g turn) d
  left_is left without d left_kept is = is ∙ ap (λ (s : ℕ → Bool). outside s (contains d)) left_kept

  -- one set of a call is within another
  pub within_sets : (s t : FinSet nat_cmp) (a b : ℕ → Bool)
      → contains s ≡ a
      → contains t ≡ b
      → ((f : ℕ) → a f ≡ true → b f ≡ true)
      → AreWithin s t
  within_sets s t a b s_is t_is w f h = subst (λ (q : ℕ → Bool). q f ≡ true) (sym t_is)
      (w f (subst (λ (q : ℕ → Bool). q f ≡ true) s_is h))
