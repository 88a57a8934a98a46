-- Cuts in play: an answer to the loss of an edge keeps two sets that bridge each other.
use Rattle.std.proofs.Common.{◌≡◌, ◌≢◌, ℕ, Bool, true, false, inl, inr, sym, subst}
use Rattle.pg_graph.proofs.Common.{both_ways, cases_Bool, false_from_ne_true, minus, outside}
use Rattle.pg_graph.proofs.Common.{IsWithin, IsBelow, minus_parts, minus_from}
use Rattle.pg_graph.proofs.Common.{outside_from}
use Rattle.pg_graph.specs.Span.{IsSpan, IsCuts}
use Rattle.pg_graph.proofs.FreeLemmas.{still_free, still_free_without, free_again}
use Rattle.pg_graph.proofs.Swap.{spans_less}
use Rattle.pg_graph.proofs.Cuts.{IsCuts-other, IsCuts-dropped, IsCuts-claimed, IsCuts-answered}
use Rattle.pg_graph.proofs.Cuts.{find_parting}

-- ---- whoever moves

-- two sets of free elements that bridge each other; e isn't free
pub record CutsStand (spans : (ℕ → Bool) → ℕ → Bool) (e : ℕ) (r free : ℕ → Bool) : Type 0 where
  pub first : ℕ → Bool
  pub second : ℕ → Bool
  pub cuts : IsCuts spans e r first second
  pub first_free : IsWithin first free
  pub second_free : IsWithin second free

-- the same, but one element of the first set may not be free
pub record CutsOwed (spans : (ℕ → Bool) → ℕ → Bool) (e : ℕ) (r free : ℕ → Bool) : Type 0 where
  pub first : ℕ → Bool
  pub second : ℕ → Bool
  pub lost : ℕ
  pub cuts : IsCuts spans e r first second
  pub first_free : IsWithin (minus first lost) free
  pub second_free : IsWithin second free

module _ (spans : (ℕ → Bool) → ℕ → Bool) (law : IsSpan spans) (e : ℕ) where
  pub CutsOwed-stand : (r free : ℕ → Bool) → CutsStand spans e r free → CutsOwed spans e r free
  CutsOwed-stand r free t = record {
    first = t.first;
    second = t.second;
    lost = e;
    cuts = t.cuts;
    first_free = λ z h. t.first_free z (minus_parts t.first e z h).0;
    second_free = t.second_free;
  }

  -- the other side takes a free element, which stays in r
  pub CutsOwed-taken : (r free : ℕ → Bool) (v : ℕ)
      → CutsStand spans e r free
      → CutsOwed spans e r (minus free v)
  CutsOwed-taken r free v t =
      elim (cases_Bool (t.second v)) [
        | inl i ↦ record {
          first = t.second;
          second = t.first;
          lost = v;
          cuts = IsCuts-other spans e r t.first t.second t.cuts;
          first_free = still_free t.second free v t.second_free;
          second_free = still_free_without t.first free v t.first_free
              (false_from_ne_true _ (λ h. both_ways _ (t.cuts.apart v h) i));
        }
        | inr o ↦ record {
          first = t.first;
          second = t.second;
          lost = v;
          cuts = t.cuts;
          first_free = still_free t.first free v t.first_free;
          second_free = still_free_without t.second free v t.second_free o;
        }
      ]

  -- some free element is an answer, where there is one
  pub CutsStand-answer : (r free : ℕ → Bool) (n z : ℕ)
      → IsBelow r n
      → free e ≡ false
      → free z ≡ true
      → CutsOwed spans e r free
      → (v : ℕ) × (free v ≡ true) × CutsStand spans e (minus r v) (minus free v)
  CutsStand-answer r free n z small e_taken fz t =
      let x = t.lost in
      let left = minus t.first x in
      elim (cases_Bool (t.first x)) [
        | inr o ↦ (z, fz, claimed t.first t.cuts (free_again t.first free x t.first_free o))
        | inl i ↦ elim (cases_Bool (spans (outside r t.first) x)) [
          | inl s ↦
              let q = find_parting spans law e r t.first t.second x n small t.cuts i s in (
                q.0,
                t.second_free q.0 q.1,
                record {
                  first = left;
                  second = minus t.second q.0;
                  cuts = IsCuts-answered spans law e r t.first t.second x q.0 t.cuts i q.1
                      (not_e q.0 (t.second_free q.0 q.1)) q.2;
                  first_free = still_free_without left free q.0 t.first_free
                      (false_from_ne_true _
                      (λ h. both_ways _ (t.cuts.apart q.0 (minus_parts t.first x q.0 h).0) q.1));
                  second_free = still_free t.second free q.0 t.second_free;
                },
              )
          | inr s ↦ (
            z,
            fz,
            claimed left (IsCuts-dropped spans law e r t.first t.second x t.cuts s) t.first_free,
          )
        ]
      ]
    where
      not_e : (v : ℕ) → free v ≡ true → v ≢ e
      not_e v h q = both_ways _ e_taken (subst (λ k. free k ≡ true) q h)

      claimed : (a : ℕ → Bool)
          → IsCuts spans e r a t.second
          → IsWithin a free
          → CutsStand spans e (minus r z) (minus free z)
      claimed a cuts w = record {
        first = minus a z;
        second = minus t.second z;
        cuts = IsCuts-claimed spans law e r a t.second z cuts (not_e z fz);
        first_free = still_free a free z w;
        second_free = still_free t.second free z t.second_free;
      }

  -- a part of r without e and free elements doesn't span e
  pub CutsOwed-parts : (r free set : ℕ → Bool)
      → CutsOwed spans e r free
      → free e ≡ false
      → IsWithin set r
      → ((z : ℕ) → set z ≡ true → free z ≡ false)
      → set e ≡ false
      → spans set e ≡ false
  CutsOwed-parts r free set t e_taken w taken out =
      spans_less spans law set (minus (outside r t.second) e) e
      (λ z h. minus_from (outside r t.second) e z (outside_from r t.second z (w z h)
      (false_from_ne_true _ (λ k. both_ways _ (taken z h) (t.second_free z k))))
      (λ q. both_ways _ out (subst (λ k. set k ≡ true) (sym q) h)))
      (t.cuts.second_parts (false_from_ne_true _ (λ k. both_ways _ e_taken (t.second_free e k))))
