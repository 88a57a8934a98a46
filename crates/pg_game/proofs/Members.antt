-- What holds of the members of a list.
use Rattle.std.proofs.Common.{◌≡◌, ℕ, zero, suc, ◌<◌, Bool, true, false, ◌&&◌, List, [], ◌∷◌}
use Rattle.std.proofs.Common.{length, get_or, refl, sym, ap, ◌∙◌, inl, inr, ◌⊎◌, arith, subst₂}
use Rattle.pg_game.proofs.Common.{get_or_default, Contains-get_or, cases_Bool, cases_order}
use Rattle.pg_game.proofs.Common.{false≢true, list_any_at, list_all_at, Any-from_list_any, filter}
use Rattle.pg_game.proofs.Common.{Contains, All, AllPairs, list_any, list_all}

module _ {X : Type 0} where
  pub Contains-head : (x : X) (xs : List X) → Contains (x ∷ xs) x
  Contains-head x xs = (0, omega arith, refl)

  pub Contains-tail : (x y : X) (xs : List X) → Contains xs y → Contains (x ∷ xs) y
  Contains-tail x y xs c = (suc c.0, omega arith, c.2)

  -- a member passes where all do, and fails where none passes
  pub true-at : (t : X → Bool) (xs : List X) (x : X)
      → list_all t xs ≡ true
      → Contains xs x
      → t x ≡ true
  true-at t xs x all c = elim (cases_Bool (t x)) [
    | inl on ↦ on
    | inr off ↦ absurd (false≢true (sym (list_all_at t xs c.0 x c.1 (ap t c.2 ∙ off)) ∙ all))
  ]

  pub false-at : (t : X → Bool) (xs : List X) (x : X)
      → list_any t xs ≡ false
      → Contains xs x
      → t x ≡ false
  false-at t xs x none c = elim (cases_Bool (t x)) [
    | inl on ↦ absurd (false≢true (sym none ∙ list_any_at t xs c.0 x c.1 (ap t c.2 ∙ on)))
    | inr off ↦ off
  ]

  -- a test that fails at every member fails, and one that passes at one passes
  pub list_any-none : (t : X → Bool) (xs : List X)
      → ((x : X) → Contains xs x → t x ≡ false)
      → list_any t xs ≡ false
  list_any-none t [] each = refl
  list_any-none t (x ∷ xs) each =
      rw (each x (Contains-head x xs)) (list_any-none t xs (λ y c. each y (Contains-tail x y xs c)))

  pub list_any-one : (t : X → Bool) (xs : List X) (x : X)
      → Contains xs x
      → t x ≡ true
      → list_any t xs ≡ true
  list_any-one t xs x c on = list_any_at t xs c.0 x c.1 (ap t c.2 ∙ on)

  -- a member that passes a test that some member passes
  pub member-from_any : (t : X → Bool) (xs : List X)
      → list_any t xs ≡ true
      → (x : X) × Contains xs x × (t x ≡ true)
  member-from_any t xs on =
      let found = Any-from_list_any t xs on in
      (found.1, (found.0, found.2, found.3), found.4)

  filter-here : (t : X → Bool) (x v : X) (xs : List X)
      → x ≡ v
      → t v ≡ true
      → Contains (filter t (x ∷ xs)) v
  filter-here t x v xs e on = let here : t x ≡ true = ap t e ∙ on in rw here (0, omega arith, e)

  filter-at : (t : X → Bool) (xs : List X) (v : X) (k : ℕ)
      → k < length xs
      → get_or xs k v ≡ v
      → t v ≡ true
      → Contains (filter t xs) v
  filter-at t [] v k h e on = absurd (omega arith)
  filter-at t (x ∷ xs) v zero h e on = filter-here t x v xs e on
  filter-at t (x ∷ xs) v (suc k) h e on =
      let rest = filter-at t xs v k (omega arith) e on in
      elim (cases_Bool (t x)) [
        | inl here ↦ rw here (Contains-tail x v (filter t xs) rest)
        | inr off ↦ rw off rest
      ]

  pub Contains-filter : (t : X → Bool) (xs : List X) (v : X)
      → Contains xs v
      → t v ≡ true
      → Contains (filter t xs) v
  Contains-filter t xs v c on = filter-at t xs v c.0 c.1 c.2 on

  -- two tests one after the other
  pub filter_both : (t f : X → Bool) (xs : List X)
      → filter t (filter f xs) ≡ filter (λ x. f x && t x) xs
  filter_both t f [] = refl
  filter_both t f (x ∷ xs) =
      let tail = filter_both t f xs in
      elim (cases_Bool (f x)) [
        | inl on ↦ rw on (elim (cases_Bool (t x)) [
          | inl here ↦ rw here (ap (λ ys. x ∷ ys) tail)
          | inr out ↦ rw out tail
        ])
        | inr off ↦ rw off tail
      ]

  -- what holds of each member that passes
  pub All-from_members : (P : X → Type 0) (xs : List X) → ((x : X) → Contains xs x → P x) → All P xs
  All-from_members P xs each k d h = each (get_or xs k d) (Contains-get_or xs k d h)

  -- two members are one, or the one is related to the other
  pub apart-or_same : (R : X → X → Type 0) (xs : List X) (s t : X)
      → AllPairs R xs
      → Contains xs s
      → Contains xs t
      → (s ≡ t) ⊎ (R s t ⊎ R t s)
  apart-or_same R xs s t pairs cs ct =
      let t_at : get_or xs ct.0 s ≡ t = get_or_default xs ct.0 s t ct.1 ∙ ct.2 in
      elim (cases_order cs.0 ct.0) [
        | inl same ↦ inl (sym cs.2 ∙ ap (λ k. get_or xs k s) same ∙ t_at)
        | inr apart ↦ elim apart [
          | inl before ↦ inr (inl (subst₂ R cs.2 t_at (pairs cs.0 ct.0 s before ct.1)))
          | inr later ↦ inr (inr (subst₂ R t_at cs.2 (pairs ct.0 cs.0 s later cs.1)))
        ]
      ]
