use Rattle.std.proofs.Common.{◌≡◌, ℕ, Bool, true, false, ◌⊎◌, inl, inr, refl, sym, ◌∙◌, ◌≢◌, ◌<◌}
use Rattle.std.proofs.Common.{subst, cond, List, length, get_or}
use Rattle.pg_exchange.proofs.Common.{set, both_ways, cases_Bool, cases_eq, false_from_ne_true}
use Rattle.pg_exchange.proofs.Common.{true_from_ne_false, minus, either, outside, IsWithin}
use Rattle.pg_exchange.proofs.Common.{minus_parts, minus_from, either_cases, either_left}
use Rattle.pg_exchange.proofs.Common.{either_right, outside_parts, outside_from}
use Rattle.std.proofs.lemmas.List.{get_or-set_other, get_or-set_same}
use Rattle.pg_exchange.specs.Matroid.{Matroid}
use Rattle.pg_exchange.specs.declared.search.Parent.{Parent}
use Rattle.pg_exchange.specs.Chain.{links, IsTree, IsSearch, no_parent, up_of, second_of, IsNoted}
use Rattle.pg_exchange.proofs.TreeLemmas.{IsTree-step}

module _ (parents : List Parent) (i : ℕ) (parent : Parent) where
  pub parent-same : i < length parents → get_or (set parents i parent) i no_parent ≡ parent
  parent-same l = get_or-set_same parents i parent no_parent l

  pub parent-other : (z : ℕ) → z ≢ i
      → get_or (set parents i parent) z no_parent ≡ get_or parents z no_parent
  parent-other z d = get_or-set_other parents i z parent no_parent d

-- what a step of a search writes at what is new, and at what was seen
module _ (a seen : ℕ → Bool) (f : ℕ) (by_second : Bool) (parents parents' : List Parent)
    (n : IsNoted (outside a seen) f by_second parents parents') (z : ℕ) where
  pub noted_new : a z ≡ true
      → seen z ≡ false
      → (up_of parents' z ≡ f) × (second_of parents' z ≡ by_second)
  noted_new h o = n.noted z (outside_from a seen z h o)

  pub noted_seen : seen z ≡ true
      → (up_of parents' z ≡ up_of parents z) × (second_of parents' z ≡ second_of parents z)
  noted_seen h = n.others z
      (false_from_ne_true _ (λ k. both_ways _ (outside_parts a seen z k).1 h))

pub done_cases : (m : Matroid) (b c seen todo seen2 todo2 : ℕ → Bool) (f : ℕ)
    → seen2 ≡ either (either seen (links m b f)) (links m c f)
    → todo2 ≡ either (either (minus todo f) (outside (links m b f) seen))
    (outside (links m c f) (either seen (links m b f)))
    → (z : ℕ) → outside seen2 todo2 z ≡ true
    → (outside seen todo z ≡ true) ⊎ (f ≡ z)
done_cases m b c seen todo seen2 todo2 f es et z h =
    let p : (seen2 z ≡ true) × (todo2 z ≡ false) = outside_parts seen2 todo2 z h in
    elim (cases_eq f z) [
      | inr d ↦ inl (outside_from seen todo z
          (true_from_ne_false _ (λ n. both_ways _ p.1 (waits z (elim (cases_Bool (links m b f z)) [
            | inl k ↦ either_left _ _ z (either_right _ _ z (outside_from (links m b f) seen z k n))
            | inr k ↦ either_right _ _ z
                (outside_from (links m c f) (either seen (links m b f)) z
                (elim (either_cases (either seen (links m b f)) (links m c f) z
                (subst (λ j. j z ≡ true) es p.0)) [
                  | inr w ↦ w
                  | inl w ↦ absurd (elim (either_cases seen (links m b f) z w) [
                    | inl v ↦ both_ways _ n v
                    | inr v ↦ both_ways _ k v
                  ])
                ]) (false_from_ne_true _ (λ w. elim (either_cases seen (links m b f) z w) [
                  | inl v ↦ both_ways _ n v
                  | inr v ↦ both_ways _ k v
                ])))
          ])))) (false_from_ne_true _ (λ k. both_ways _ p.1
          (waits z (either_left _ _ z (either_left _ _ z (minus_from todo f z k d)))))))
      | inl e ↦ inr e
    ]
  where
    waits : (z : ℕ)
        → either (either (minus todo f) (outside (links m b f) seen))
        (outside (links m c f) (either seen (links m b f))) z ≡ true
        → todo2 z ≡ true
    waits z h = subst (λ j. j z ≡ true) (sym et) h

pub IsTree-next : (m : Matroid) (b c from seen todo seen2 todo2 : ℕ → Bool) (up up1 up2 : ℕ → ℕ)
    (second second1 second2 : ℕ → Bool) (f : ℕ)
    → IsSearch m b c from seen todo
    → todo f ≡ true
    → seen2 ≡ either (either seen (links m b f)) (links m c f)
    → todo2 ≡ either (either (minus todo f) (outside (links m b f) seen))
    (outside (links m c f) (either seen (links m b f)))
    → ((z : ℕ) → links m b f z ≡ true → seen z ≡ false → (up1 z ≡ f) × (second1 z ≡ false))
    → ((z : ℕ) → seen z ≡ true → (up1 z ≡ up z) × (second1 z ≡ second z))
    → ((z : ℕ) → links m c f z ≡ true
    → either seen (links m b f) z ≡ false
    → (up2 z ≡ f) × (second2 z ≡ true))
    → ((z : ℕ) → either seen (links m b f) z ≡ true → (up2 z ≡ up1 z) × (second2 z ≡ second1 z))
    → IsTree m b c from seen (outside seen todo) up second
    → IsTree m b c from seen2 (outside seen2 todo2) up2 second2
IsTree-next m b c from seen todo seen2 todo2 up up1 up2 second second1 second2 f s tf es et noted1
    others1 noted2 others2 t = IsTree-step m b c from seen (outside seen todo) seen2
    (outside seen2 todo2) up up2 second second2 f
    (λ q h. let p : (seen q ≡ true) × (todo q ≡ false) = outside_parts seen todo q h in
    s.followed q p.0 p.1) (λ q h. (outside_parts seen todo q h).0) (s.waiting f tf)
    (false_from_ne_true _ (λ h. both_ways _ (outside_parts seen todo f h).1 tf)) (λ z h.
    let o = others2 z (either_left seen (links m b f) z h) in
    let i = others1 z h in (o.0 ∙ i.0, o.1 ∙ i.1)) (λ z n h. elim (cases_Bool (links m b f z)) [
      | inl k ↦ let o = others2 z (either_right seen (links m b f) z k) in let i = noted1 z k n in
          (o.0 ∙ i.0, subst (λ j. links m (cond j c b) f z ≡ true) (sym (o.1 ∙ i.1)) k)
      | inr k ↦
          let u : links m c f z ≡ true = elim (either_cases (either seen (links m b f))
          (links m c f) z (subst (λ j. j z ≡ true) es h)) [
            | inr w ↦ w
            | inl w ↦ absurd (elim (either_cases seen (links m b f) z w) [
              | inl v ↦ both_ways _ n v
              | inr v ↦ both_ways _ k v
            ])
          ] in
          let i =
          noted2 z u (false_from_ne_true _ (λ w. elim (either_cases seen (links m b f) z w) [
            | inl v ↦ both_ways _ n v
            | inr v ↦ both_ways _ k v
          ])) in
          (i.0, subst (λ j. links m (cond j c b) f z ≡ true) (sym i.1) u)
    ])
    (λ z h. subst (λ j. j z ≡ true) (sym es) (elim (either_cases (links m b f) (links m c f) z h) [
      | inl k ↦ either_left _ _ z (either_right _ _ z k)
      | inr k ↦ either_right _ _ z k
    ])) (done_cases m b c seen todo seen2 todo2 f es et) more now t
  where
    later : (z : ℕ)
        → todo2 z ≡ true
        → either (either (minus todo f) (outside (links m b f) seen))
        (outside (links m c f) (either seen (links m b f))) z ≡ true
    later z h = subst (λ j. j z ≡ true) et h

    more : IsWithin (outside seen todo) (outside seen2 todo2)
    more z h =
        let p : (seen z ≡ true) × (todo z ≡ false) = outside_parts seen todo z h in
        outside_from seen2 todo2 z
        (subst (λ j. j z ≡ true) (sym es) (either_left _ _ z (either_left _ _ z p.0)))
        (false_from_ne_true _ (λ k. elim (either_cases _ _ z (later z k)) [
          | inl u ↦ elim (either_cases _ _ z u) [
            | inl v ↦ both_ways _ p.1 (minus_parts todo f z v).0
            | inr v ↦ both_ways _ (outside_parts _ _ z v).1 p.0
          ]
          | inr u ↦ both_ways _ (outside_parts _ _ z u).1 (either_left _ _ z p.0)
        ]))

    now : outside seen2 todo2 f ≡ true
    now = outside_from seen2 todo2 f
        (subst (λ j. j f ≡ true) (sym es) (either_left _ _ f (either_left _ _ f (s.waiting f tf))))
        (false_from_ne_true _ (λ k. elim (either_cases _ _ f (later f k)) [
          | inl u ↦ elim (either_cases _ _ f u) [
            | inl v ↦ (minus_parts todo f f v).1 refl
            | inr v ↦ both_ways _ (outside_parts _ _ f v).1 (s.waiting f tf)
          ]
          | inr u ↦ both_ways _ (outside_parts _ _ f u).1 (either_left _ _ f (s.waiting f tf))
        ]))
