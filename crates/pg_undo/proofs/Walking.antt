-- Walking a ring.
use Rattle.std.proofs.Common.{◌≡◌, ℕ, zero, suc, ◌+◌, ◌<◌, ◌≤◌, Bool, true, false, ◌&&◌, List, Some}
use Rattle.std.proofs.Common.{None, cond, ltb, get_or, refl, sym, ap, ◌∙◌, inl, inr, arith}
use Rattle.std.specs.Prelude.{slice_get}
use Rattle.std.specs.List.{filter, find, range_with_len, Contains}
use Rattle.std.proofs.lemmas.Bool.{cases_lt, and_from, and_left, and_right, lt-ltb, le-ltb}
use Rattle.std.proofs.lemmas.List.{get_or_read}
use Rattle.pg_undo.specs.Ring.{present}
use Rattle.pg_undo.specs.Links.{slot, Follows, AreLinks, is_left, history}
use Rattle.pg_undo.proofs.Finding.{first_below, none_below, first_of_all}
use Rattle.pg_undo.proofs.Linking.{slot-of, slot-start, stands-left, stands-start, stands-member}
use Rattle.pg_undo.proofs.Linking.{next_place, links-linked, in_arrays}
use Rattle.pg_undo.proofs.Histories.{present-of, member-at}

-- what follows a place is the first member from there on
following : (n : ℕ) (left : ℕ → Bool) (i j : ℕ) (t : ℕ → Bool)
    → Follows n left i j
    → ((k : ℕ) → i ≤ k → t k ≡ true)
    → ((k : ℕ) → k < i → t k ≡ false)
    → cond (ltb (slot n j) n) (Some (slot n j)) None ≡ find t (filter left (range_with_len 0 n))
following n left i zero t f above below = absurd (let h : i < 0 = f.above in omega arith)
following n left i (suc k) t f above below =
    let high : i < suc k = f.above in
    let within : suc k ≤ n + 1 = f.within in
    let skipped : (w : ℕ) → w < k → w < n → (left w && t w) ≡ false =
    λ w lower small. elim (cases_lt w i) [
      | inl lt ↦ and_right (left w) (t w) (below w lt)
      | inr ge ↦ and_left (left w) (t w)
          (sym (stands-left n left w small) ∙ f.between (suc w) (omega arith) (omega arith))
    ] in
    rw (slot-of n k) (elim (cases_lt k n) [
      | inl lt ↦
          let on =
          and_from (left k) (t k) (sym (stands-left n left k lt) ∙ f.to) (above k (omega arith)) in
          rw (lt-ltb k n lt)
          (sym (first_below t left k n lt on (λ w lower. skipped w lower (omega arith))))
      | inr ge ↦
          rw (le-ltb k n ge) (sym (none_below t left n (λ w low. skipped w (omega arith) low)))
    ])

-- what the first call reads
pub first-is : (n : ℕ) (next previous out : List ℕ) (lists : List (List ℕ)) (x : ℕ)
    → AreLinks n next previous out
    → history n out ≡ lists
    → x ≡ get_or next n x
    → cond (ltb x n) (Some x) None ≡ slice_get (present lists) 0
first-is n next previous out lists x links is read =
    let linked = links-linked n next previous out links in
    let place = in_arrays n next previous out n links (omega arith) in
    let after = next_place n (is_left out) 0 (omega arith) (stands-start n (is_left out)) in
    let at : x ≡ slot n after.0 = get_or_read next n x place.next_low read 0
    ∙ (ap (λ s. get_or next s 0) (sym (slot-start n)) ∙ linked.forth 0 after.0 after.1) in
    rw at
    (following n (is_left out) 0 after.0 (λ _. true) after.1 (λ k h. refl)
    (λ k h. absurd (omega arith))
    ∙ (ap (find (λ _. true)) (sym (present-of n out lists is))
    ∙ sym (first_of_all (present lists))))

-- what the next call reads
pub next-is : (n : ℕ) (next previous out : List ℕ) (lists : List (List ℕ)) (u x : ℕ)
    → AreLinks n next previous out
    → history n out ≡ lists
    → Contains (present lists) u
    → x ≡ get_or next u x
    → cond (ltb x n) (Some x) None ≡ find (ltb u) (present lists)
next-is n next previous out lists u x links is inside read =
    let linked = links-linked n next previous out links in
    let at_u = member-at n out lists u is inside in
    let low : u < n = at_u.0 in
    let place = in_arrays n next previous out u links (omega arith) in
    let after =
    next_place n (is_left out) (suc u) (omega arith) (stands-member n (is_left out) u at_u.1) in
    let at : x ≡ slot n after.0 = get_or_read next u x place.next_low read 0
    ∙ (ap (λ s. get_or next s 0) (sym (slot-of n u)) ∙ linked.forth (suc u) after.0 after.1) in
    rw at
    (following n (is_left out) (suc u) after.0 (ltb u) after.1 (λ k h. lt-ltb u k (omega arith))
    (λ k h. le-ltb u k (omega arith))
    ∙ ap (find (ltb u)) (sym (present-of n out lists is)))
