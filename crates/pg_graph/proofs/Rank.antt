-- Bases have the same number of members, and settled bases share the fewest.
use Rattle.std.proofs.Common.{◌≡◌, ℕ, Bool, true, false, ◌⊎◌, inl, inr, refl, arith, sym, ◌≢◌, ◌<◌}
use Rattle.std.proofs.Common.{◌≤◌, ◌+◌, subst, not, ◌&&◌, ◌||◌, suc, zero}
use Rattle.pg_graph.proofs.Common.{both_ways, cases_Bool, false_from_ne_true, true_from_ne_false}
use Rattle.pg_graph.proofs.Common.{and_parts, and_from, not-true, not_from_false, plus, minus, both}
use Rattle.pg_graph.proofs.Common.{either, outside, IsWithin, IsBelow, count, one_if, minus_parts}
use Rattle.pg_graph.proofs.Common.{minus_from, plus_cases, both_parts, both_from, either_left}
use Rattle.pg_graph.proofs.Common.{either_right, outside_parts, outside_from, sets, find_below}
use Rattle.pg_graph.proofs.Common.{count_le, count_plus, count_minus, count_both_either}
use Rattle.pg_graph.specs.Span.{IsSpan, IsBase, IsReached, swapped, circuit}
use Rattle.pg_graph.proofs.Swap.{spans_mono, spans_less, swap_free}
use Rattle.pg_graph.proofs.Circuit.{spans-circuit, circuit_parts}

pub count_less : (a b : ℕ → Bool) (x n : ℕ)
    → IsWithin a b
    → a x ≡ false
    → b x ≡ true
    → x < n
    → count a n < count b n
count_less a b x n w out into l =
    let more : count a n ≤ count (minus b x) n = count_le a (minus b x) n (λ z k h. minus_from b x z
    (w z h) (λ e. both_ways _ out (subst (λ i. a i ≡ true) (sym e) h))) in
    let here : count (minus b x) n + 1 ≡ count b n = count_minus b x n into l in
    omega arith

-- a swap leaves the number of members
pub count-swapped : (b : ℕ → Bool) (y x n : ℕ)
    → b y ≡ true
    → b x ≡ false
    → y < n
    → x < n
    → count (swapped b y x) n ≡ count b n
unfolding swapped
count-swapped b y x n by bx ly lx =
    let less : count (minus b y) n + 1 ≡ count b n = count_minus b y n by ly in
    let none : minus b y x ≡ false =
    false_from_ne_true _ (λ t. both_ways _ bx (minus_parts b y x t).0) in
    let more : count (plus (minus b y) x) n ≡ count (minus b y) n + 1 =
    count_plus (minus b y) x n none lx in
    omega arith

swapped_cases : (b : ℕ → Bool) (y x z : ℕ)
    → swapped b y x z ≡ true
    → ((b z ≡ true) × (y ≢ z)) ⊎ (x ≡ z)
unfolding swapped
swapped_cases b y x z h = elim (plus_cases (minus b y) x z h) [
  | inl m ↦ inl (minus_parts b y z m)
  | inr e ↦ inr e
]

-- a swap that takes out a number that isn't in s and brings in one that is leaves fewer outside s
fewer_outside : (i s : ℕ → Bool) (x y n : ℕ)
    → i x ≡ true
    → s x ≡ false
    → s y ≡ true
    → x < n
    → count (outside (swapped i x y) s) n < count (outside i s) n
fewer_outside i s x y n ix sx sy l =
    count_less (outside (swapped i x y) s) (outside i s) x n
    (λ z h.
    let p : (swapped i x y z ≡ true) × (s z ≡ false) = outside_parts (swapped i x y) s z h in
    elim (swapped_cases i x y z p.0) [
      | inl q ↦ outside_from i s z q.0 p.1
      | inr e ↦ absurd (both_ways _ p.1 (subst (λ k. s k ≡ true) e sy))
    ])
    (false_from_ne_true _ (λ t.
    let p : (swapped i x y x ≡ true) × (s x ≡ false) = outside_parts (swapped i x y) s x t in
    elim (swapped_cases i x y x p.0) [
      | inl q ↦ q.1 refl
      | inr e ↦ both_ways _ sx (subst (λ k. s k ≡ true) e sy)
    ]))
    (outside_from i s x ix sx) l

spread_at : (e p q r : ℕ → Bool) (z : ℕ)
    → (p z ≡ true → e z ≡ true)
    → (q z ≡ true → e z ≡ true)
    → one_if (either p q z) ≤ (one_if (both p r z) + one_if (both q r z)) + one_if (outside e r z)
unfolding either both outside
spread_at e p q r z wp wq = by_values (e z) (p z) (q z) (r z) wp wq
  where
    by_values : (e p q r : Bool)
        → (p ≡ true → e ≡ true)
        → (q ≡ true → e ≡ true)
        → one_if (p || q) ≤ (one_if (p && r) + one_if (q && r)) + one_if (e && not r)
    by_values true true true true wp wq = omega arith
    by_values true true true false wp wq = omega arith
    by_values true true false true wp wq = omega arith
    by_values true true false false wp wq = omega arith
    by_values true false true true wp wq = omega arith
    by_values true false true false wp wq = omega arith
    by_values e false false r wp wq = omega arith
    by_values false true q r wp wq = absurd (both_ways false refl (wp refl))
    by_values false p true r wp wq = absurd (both_ways false refl (wq refl))

gather_at : (e b c r : ℕ → Bool) (z : ℕ)
    → (e z ≡ true → r z ≡ false → either b c z ≡ true)
    → (r z ≡ true → b z ≡ true → c z ≡ false)
    → (one_if (both b r z) + one_if (both c r z)) + one_if (outside e r z) ≤ one_if (either b c z)
unfolding either both outside
gather_at e b c r z cover apart = by_values (e z) (b z) (c z) (r z) cover apart
  where
    by_values : (e b c r : Bool)
        → (e ≡ true → r ≡ false → (b || c) ≡ true)
        → (r ≡ true → b ≡ true → c ≡ false)
        → (one_if (b && r) + one_if (c && r)) + one_if (e && not r) ≤ one_if (b || c)
    by_values true true true true cover apart = absurd (both_ways true (apart refl refl) refl)
    by_values true true true false cover apart = omega arith
    by_values true true false true cover apart = omega arith
    by_values true true false false cover apart = omega arith
    by_values true false true true cover apart = omega arith
    by_values true false true false cover apart = omega arith
    by_values true false false true cover apart = omega arith
    by_values true false false false cover apart = absurd (both_ways false refl (cover refl refl))
    by_values false true true true cover apart = absurd (both_ways true (apart refl refl) refl)
    by_values false true true false cover apart = omega arith
    by_values false true false true cover apart = omega arith
    by_values false true false false cover apart = omega arith
    by_values false false true true cover apart = omega arith
    by_values false false true false cover apart = omega arith
    by_values false false false true cover apart = omega arith
    by_values false false false false cover apart = omega arith

-- what is in one of two sets is in the part r of one of them, or outside r
count_spread : (e p q r : ℕ → Bool) (n : ℕ)
    → IsWithin p e
    → IsWithin q e
    → count (either p q) n ≤ (count (both p r) n + count (both q r) n) + count (outside e r) n
unfolding count
count_spread e p q r zero wp wq = omega arith
count_spread e p q r (suc n) wp wq =
    let here : one_if (either p q n)
    ≤ (one_if (both p r n) + one_if (both q r n)) + one_if (outside e r n) =
    spread_at e p q r n (wp n) (wq n) in
    let rest : count (either p q) n
    ≤ (count (both p r) n + count (both q r) n) + count (outside e r) n =
    count_spread e p q r n wp wq in
    omega arith

count_gather : (e b c r : ℕ → Bool) (n : ℕ)
    → ((f : ℕ) → e f ≡ true → r f ≡ false → either b c f ≡ true)
    → ((f : ℕ) → r f ≡ true → b f ≡ true → c f ≡ false)
    → (count (both b r) n + count (both c r) n) + count (outside e r) n ≤ count (either b c) n
unfolding count
count_gather e b c r zero cover apart = omega arith
count_gather e b c r (suc n) cover apart =
    let here : (one_if (both b r n) + one_if (both c r n)) + one_if (outside e r n)
    ≤ one_if (either b c n) = gather_at e b c r n (cover n) (apart n) in
    let rest : (count (both b r) n + count (both c r) n) + count (outside e r) n
    ≤ count (either b c) n = count_gather e b c r n cover apart in
    omega arith

module _ (spans : (ℕ → Bool) → ℕ → Bool) (law : IsSpan spans) where
  -- members none of which the others span are no more than a set that spans them has
  pub count_free : (m : ℕ) (i s : ℕ → Bool) (n : ℕ)
      → count (outside i s) n ≤ m
      → IsBelow i n
      → IsBelow s n
      → ((f : ℕ) → i f ≡ true → spans (minus i f) f ≡ false)
      → ((f : ℕ) → i f ≡ true → spans s f ≡ true)
      → count i n ≤ count s n
  count_free zero i s n few bi bs free full = count_le i s n (λ z l h. true_from_ne_false _ (λ no.
      let none : count (minus (outside i s) z) n + 1 ≡ count (outside i s) n =
      count_minus (outside i s) z n (outside_from i s z h no) l in
      absurd (omega arith)))
  count_free (suc m) i s n few bi bs free full =
      elim (find_below (outside i s) n) [
        | inr none ↦ count_le i s n
            (λ z l h. true_from_ne_false _ (λ no. both_ways _ (none z l) (outside_from i s z h no)))
        | inl w ↦
            let x : ℕ = w.0 in
            let px : (i x ≡ true) × (s x ≡ false) = outside_parts i s x w.2 in
            elim (find_below (fresh i s x) n) [
              | inr none ↦ absurd (both_ways _ (free x px.0) (law.closed (minus i x) s x (λ g h.
                  true_from_ne_false _ (λ no. both_ways _ (none g (bs g h)) (and_from (s g)
                  (not (spans (minus i x) g)) h (not_from_false _ no)))) (full x px.0)))
              | inl v ↦
                  let y : ℕ = v.0 in
                  let py : (s y ≡ true) × (not (spans (minus i x) y) ≡ true) =
                  and_parts (s y) (not (spans (minus i x) y)) v.2 in
                  let ny : spans (minus i x) y ≡ false = not-true _ py.1 in
                  let iy : i y ≡ false = false_from_ne_true _
                  (λ t. both_ways _ ny (law.holds (minus i x) y (minus_from i x y t (λ e.
                  both_ways _ px.1 (subst (λ k. s k ≡ true) (sym e) py.0))))) in
                  let less : count (outside (swapped i x y) s) n < count (outside i s) n =
                  fewer_outside i s x y n px.0 px.1 py.0 w.1 in
                  let same : count (swapped i x y) n ≡ count i n =
                  count-swapped i x y n px.0 iy w.1 v.1 in
                  let rest : count (swapped i x y) n ≤ count s n = count_free m (swapped i x y) s n
                  (omega arith) (λ z h. elim (swapped_cases i x y z h) [
                    | inl q ↦ bi z q.0
                    | inr e ↦ bs z (subst (λ k. s k ≡ true) e py.0)
                  ]) bs (swap_free spans law i x y px.0 free ny)
                  (λ z h. elim (swapped_cases i x y z h) [
                    | inl q ↦ full z q.0
                    | inr e ↦ law.holds s z (subst (λ k. s k ≡ true) e py.0)
                  ]) in
                  omega arith
            ]
      ]
    where
      fresh : (ℕ → Bool) → (ℕ → Bool) → ℕ → ℕ → Bool
      fresh i s x y = s y && not (spans (minus i x) y)

  -- (c) all bases have equally many members
  pub count_base : (e b c : ℕ → Bool) (n : ℕ)
      → IsBelow e n
      → IsBase spans e b
      → IsBase spans e c
      → count b n ≡ count c n
  count_base e b c n below pb pc =
      let bb : IsBelow b n = λ z h. below z (pb.within z h) in
      let bc : IsBelow c n = λ z h. below z (pc.within z h) in
      let there : count b n ≤ count c n = count_free (count (outside b c) n) b c n
      (omega arith) bb bc pb.free (λ f h. pc.spanning f (pb.within f h)) in
      let back : count c n ≤ count b n = count_free (count (outside c b) n) c b n
      (omega arith) bc bb pc.free (λ f h. pb.spanning f (pc.within f h)) in
      omega arith

  -- a base has as many members among the reached as any set of free elements
  reached_most : (e b p r : ℕ → Bool) (n : ℕ)
      → IsBelow e n
      → IsBase spans e b
      → IsWithin r e
      → ((f : ℕ) → r f ≡ true → b f ≡ false → IsWithin (circuit spans b f) r)
      → IsBase spans e p
      → count (both p r) n ≤ count (both b r) n
  reached_most e b p r n below pb w inside pp =
      let bb : IsBelow b n = λ z h. below z (pb.within z h) in
      count_free (count (outside (both p r) (both b r)) n) (both p r) (both b r) n (omega arith)
      (λ z h. below z (w z (both_parts p r z h).1)) (λ z h. below z (w z (both_parts b r z h).1))
      (λ f h. spans_less spans law (minus (both p r) f) (minus p f) f (λ z k. grind (arith, sets))
      (pp.free f (both_parts p r f h).0)) (λ f h.
      let q : (p f ≡ true) × (r f ≡ true) = both_parts p r f h in
      elim (cases_Bool (b f)) [
        | inl t ↦ law.holds (both b r) f (both_from b r f t q.1)
        | inr o ↦ spans_mono spans law (circuit spans b f) (both b r) f
            (λ z k. both_from b r z (circuit_parts spans b f z k).0 (inside f q.1 o z k))
            (spans-circuit spans law b f n bb pb.free (pb.spanning f (w f q.1)))
      ])

  -- (d) no two bases have fewer common elements
  pub count_settled : (e b c r p q : ℕ → Bool) (n : ℕ)
      → IsBelow e n
      → IsBase spans e b
      → IsBase spans e c
      → IsReached spans e b c r
      → IsBase spans e p
      → IsBase spans e q
      → count (both b c) n ≤ count (both p q) n
  count_settled e b c r p q n below pb pc reached pp pq =
      let same1 : count p n ≡ count b n = count_base e p b n below pp pb in
      let same2 : count q n ≡ count c n = count_base e q c n below pq pc in
      let all1 : count (both b c) n + count (either b c) n ≡ count b n + count c n =
      count_both_either b c n in
      let all2 : count (both p q) n + count (either p q) n ≡ count p n + count q n =
      count_both_either p q n in
      let most1 : count (both p r) n ≤ count (both b r) n =
      reached_most e b p r n below pb reached.elements_only reached.first pp in
      let most2 : count (both q r) n ≤ count (both c r) n =
      reached_most e c q r n below pc reached.elements_only reached.second pq in
      let parents : count (either p q) n
      ≤ (count (both p r) n + count (both q r) n) + count (outside e r) n =
      count_spread e p q r n pp.within pq.within in
      let down : (count (both b r) n + count (both c r) n) + count (outside e r) n
      ≤ count (either b c) n = count_gather e b c r n
      (λ f ef rf. true_from_ne_false _ (λ none. both_ways _ rf
      (reached.begins f ef (false_from_ne_true _ (λ t. both_ways _ none (either_left b c f t)))
      (false_from_ne_true _ (λ t. both_ways _ none (either_right b c f t)))))) reached.apart in
      omega arith
