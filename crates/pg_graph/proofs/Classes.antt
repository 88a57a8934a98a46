-- Sets of trees and sets of cuts out of two settled bases.
use Rattle.std.proofs.Common.{◌≡◌, ℕ, Bool, true, false, inl, inr, sym, ◌≢◌, subst}
use Rattle.pg_graph.proofs.Common.{both_ways, cases_Bool, false_from_ne_true, true_from_ne_false}
use Rattle.pg_graph.proofs.Common.{minus, both, either, outside, IsWithin, IsBelow, minus_parts}
use Rattle.pg_graph.proofs.Common.{minus_from, both_parts, both_from, either_cases, either_left}
use Rattle.pg_graph.proofs.Common.{either_right, outside_parts, outside_from}
use Rattle.pg_graph.specs.Span.{IsSpan, IsBase, IsReached, IsTrees, IsCuts, circuit}
use Rattle.pg_graph.proofs.Swap.{spans_mono}
use Rattle.pg_graph.proofs.Circuit.{spans-circuit, circuit_parts}
use Rattle.pg_graph.proofs.Bases.{IsSpan-over}

-- what X's edges x add to what a set spans
abbrev pub over : ((ℕ → Bool) → ℕ → Bool) → (ℕ → Bool) → (ℕ → Bool) → ℕ → Bool
over spans x a f = spans (either x a) f

module _ (spans : (ℕ → Bool) → ℕ → Bool) (law : IsSpan spans) (x elements : ℕ → Bool) (n : ℕ)
    (small : IsBelow elements n) where
  -- a base spans what is reached, by its members there
  pub reached_spans : (b r : ℕ → Bool) (f : ℕ)
      → IsBase (over spans x) elements b
      → IsWithin r elements
      → ((f : ℕ) → r f ≡ true → b f ≡ false → IsWithin (circuit (over spans x) b f) r)
      → r f ≡ true
      → spans (either x (both b r)) f ≡ true
  reached_spans b r f pb w inside rf =
      elim (cases_Bool (b f)) [
        | inl t ↦
            law.holds (either x (both b r)) f (either_right x (both b r) f (both_from b r f t rf))
        | inr o ↦ spans_mono (over spans x) (IsSpan-over spans law x) (circuit (over spans x) b f)
            (both b r) f
            (λ z k. both_from b r z (circuit_parts (over spans x) b f z k).0 (inside f rf o z k))
            (spans-circuit (over spans x) (IsSpan-over spans law x) b f n
            (λ z h. small z (pb.within z h)) pb.free (pb.spanning f (w f rf)))
      ]

  -- where e is reached and no member of both is, the two bases give trees
  pub IsTrees-reached : (e : ℕ) (b c r : ℕ → Bool)
      → IsBase (over spans x) elements b
      → IsBase (over spans x) elements c
      → IsReached (over spans x) elements b c r
      → r e ≡ true
      → IsTrees spans e x (both b r) (both c r)
  IsTrees-reached e b c r pb pc reached re = record {
    apart = λ f h.
        let p : (b f ≡ true) × (r f ≡ true) = both_parts b r f h in
        false_from_ne_true _ (λ k. both_ways _ (reached.apart f p.1 p.0) (both_parts c r f k).0);
    first =
        λ f h. reached_spans b r f pb reached.elements_only reached.first (both_parts c r f h).1;
    first_joins = reached_spans b r e pb reached.elements_only reached.first re;
    second =
        λ f h. reached_spans c r f pc reached.elements_only reached.second (both_parts b r f h).1;
    second_joins = reached_spans c r e pc reached.elements_only reached.second re;
  }

  -- an unreached member of c is a bridge, where the unreached that aren't in c are left out
  bridge : (b c r : ℕ → Bool) (f : ℕ)
      → IsBase (over spans x) elements c
      → IsWithin r elements
      → ((f : ℕ) → r f ≡ true → c f ≡ false → IsWithin (circuit (over spans x) c f) r)
      → x f ≡ false
      → c f ≡ true
      → r f ≡ false
      → spans (minus (outside (either x elements) (outside (outside elements r) c)) f) f ≡ false
  bridge b c r f pc w inside xf cf rf = false_from_ne_true _ (λ s. both_ways _ (pc.free f cf)
      (law.closed (either x (minus c f))
      (minus (outside (either x elements) (outside (outside elements r) c)) f) f (λ z h.
      let p : (outside (either x elements) (outside (outside elements r) c) z ≡ true) × (f ≢ z) =
      minus_parts (outside (either x elements) (outside (outside elements r) c)) f z h in
      let o : (either x elements z ≡ true) × (outside (outside elements r) c z ≡ false) =
      outside_parts (either x elements) (outside (outside elements r) c) z p.0 in
      elim (either_cases x elements z o.0) [
        | inl k ↦ law.holds (either x (minus c f)) z (either_left x (minus c f) z k)
        | inr k ↦ elim (cases_Bool (r z)) [
          | inl t ↦ spans_mono spans law (either x (both c r)) (either x (minus c f)) z
              (λ i j. elim (either_cases x (both c r) i j) [
                | inl u ↦ either_left x (minus c f) i u
                | inr u ↦
                    let q : (c i ≡ true) × (r i ≡ true) = both_parts c r i u in
                    either_right x (minus c f) i
                    (minus_from c f i q.0
                    (λ v. both_ways _ rf (subst (λ y. r y ≡ true) (sym v) q.1)))
              ])
              (reached_spans c r z pc w inside t)
          | inr t ↦ law.holds (either x (minus c f)) z
              (either_right x (minus c f) z
              (minus_from c f z (true_from_ne_false _ (λ u. both_ways _ o.1
              (outside_from (outside elements r) c z (outside_from elements r z k t) u))) p.1))
        ]
      ]) s))

  -- where e isn't reached, the unreached give cuts
  pub IsCuts-unreached : (e : ℕ) (b c r : ℕ → Bool)
      → ((f : ℕ) → elements f ≡ true → x f ≡ false)
      → elements e ≡ true
      → IsBase (over spans x) elements b
      → IsBase (over spans x) elements c
      → IsReached (over spans x) elements b c r
      → r e ≡ false
      → IsCuts spans e (either x elements) (outside (outside elements r) c)
      (outside (outside elements r) b)
  IsCuts-unreached e b c r apart ee pb pc reached re = record {
    apart = λ f h.
        let p = outside_parts (outside elements r) c f h in
        let q = outside_parts elements r f p.0 in
        false_from_ne_true _ (λ k. both_ways _ q.1
        (reached.begins f q.0 (outside_parts (outside elements r) b f k).1 p.1));
    first = λ f h.
        let p = outside_parts (outside elements r) b f h in
        let q = outside_parts elements r f p.0 in
        bridge b c r f pc reached.elements_only reached.second (apart f q.0)
        (in_c f q.0 q.1 p.1) q.1;
    first_parts = λ h. bridge b c r e pc reached.elements_only reached.second (apart e ee)
        (true_from_ne_false _ (λ o. both_ways _ h
        (outside_from (outside elements r) c e (outside_from elements r e ee re) o))) re;
    second = λ f h.
        let p = outside_parts (outside elements r) c f h in
        let q = outside_parts elements r f p.0 in
        bridge c b r f pb reached.elements_only reached.first (apart f q.0)
        (in_b f q.0 q.1 p.1) q.1;
    second_parts = λ h. bridge c b r e pb reached.elements_only reached.first (apart e ee)
        (true_from_ne_false _ (λ o. both_ways _ h
        (outside_from (outside elements r) b e (outside_from elements r e ee re) o))) re;
    first_in = λ f h. either_right x elements f
        (outside_parts elements r f (outside_parts (outside elements r) c f h).0).0;
    second_in = λ f h. either_right x elements f
        (outside_parts elements r f (outside_parts (outside elements r) b f h).0).0;
    joins_in = either_right x elements e ee;
  } where
    in_c : (f : ℕ) → elements f ≡ true → r f ≡ false → b f ≡ false → c f ≡ true
    in_c f h o n = true_from_ne_false _ (λ k. both_ways _ o (reached.begins f h n k))

    in_b : (f : ℕ) → elements f ≡ true → r f ≡ false → c f ≡ false → b f ≡ true
    in_b f h o n = true_from_ne_false _ (λ k. both_ways _ o (reached.begins f h k n))
