use Rattle.std.proofs.Common.{◌≡◌, ℕ, Bool, true, false, ◌⊎◌, inl, inr, refl, arith, sym, ◌∙◌, ap}
use Rattle.std.proofs.Common.{◌≢◌, ◌<◌, ◌≤◌, ◌+◌, subst, suc, zero, eqb, ltb, cond}
use Rattle.pg_exchange.proofs.Common.{both_ways, cases_Bool, false_from_ne_true, true_from_ne_false}
use Rattle.pg_exchange.proofs.Common.{and_parts, and_from, eq-eqb, ne_eqb, ltb-true, lt-ltb, minus}
use Rattle.pg_exchange.proofs.Common.{either, IsWithin, IsBelow, one_if, count, IsSpan, IsBase}
use Rattle.pg_exchange.proofs.Common.{circuit, swapped, either_left, either_right, count_minus}
use Rattle.pg_exchange.proofs.Common.{count_less, circuit_parts}
use Rattle.pg_exchange.specs.Matroid.{Matroid}
use Rattle.pg_exchange.specs.Chain.{links, IsNearest, IsTree, IsShifted, lower, SomeTree, SomeShift}
use Rattle.pg_exchange.specs.Chain.LeadsIn.{at_once}
use Rattle.pg_exchange.proofs.SearchSteps.{links_parts}
use Rattle.pg_exchange.proofs.ShiftLemmas.{links-swapped, members-swapped}
use Rattle.pg_exchange.proofs.LevelLemmas.{LeadsIn-before}

-- a number is given to f
pub numbered : (ℕ → ℕ) → ℕ → ℕ → ℕ → ℕ
numbered order f last z = cond (eqb f z) last (order z)

pub numbered_self : (order : ℕ → ℕ) (f last : ℕ) → numbered order f last f ≡ last
unfolding numbered
numbered_self order f last = rw (eq-eqb f f refl) refl

pub numbered_other : (order : ℕ → ℕ) (f last z : ℕ) → f ≢ z → numbered order f last z ≡ order z
unfolding numbered
numbered_other order f last z d = rw (ne_eqb f z d) refl

pub IsTree-begin : (m : Matroid) (b c from done : ℕ → Bool) (up : ℕ → ℕ) (second : ℕ → Bool)
    → ((z : ℕ) → done z ≡ false)
    → IsTree m b c from from done up second
IsTree-begin m b c from done up second none = record {
  order = λ z. z;
  last = 0;
  before = λ f h. absurd (both_ways _ (none f) h);
  parent = λ z h o. absurd (both_ways _ o h);
  later = λ z h. absurd (both_ways _ (none z) h);
  first = λ f z h. absurd (both_ways _ (none f) h);
}

-- f is followed, and fresh elements of its circuits get f above them
pub IsTree-step : (m : Matroid) (b c from seen done seen2 done2 : ℕ → Bool) (up up2 : ℕ → ℕ)
    (second second2 : ℕ → Bool) (f : ℕ)
    → ((q : ℕ) → done q ≡ true → IsWithin (either (links m b q) (links m c q)) seen)
    → IsWithin done seen
    → seen f ≡ true
    → done f ≡ false
    → ((z : ℕ) → seen z ≡ true → (up2 z ≡ up z) × (second2 z ≡ second z))
    → ((z : ℕ) → seen z ≡ false
    → seen2 z ≡ true
    → (up2 z ≡ f) × (links m (cond (second2 z) c b) f z ≡ true))
    → ((z : ℕ) → either (links m b f) (links m c f) z ≡ true → seen2 z ≡ true)
    → ((z : ℕ) → done2 z ≡ true → (done z ≡ true) ⊎ (f ≡ z))
    → IsWithin done done2
    → done2 f ≡ true
    → IsTree m b c from seen done up second
    → IsTree m b c from seen2 done2 up2 second2
IsTree-step m b c from seen done seen2 done2 up up2 second second2 f followed inside sf nf old fresh
    all cases more now t = record {
      order = numbered t.order f t.last;
      last = suc t.last;
      before = λ q h. elim (cases q h) [
        | inl k ↦ let e = keeps q k in let l : t.order q < t.last = t.before q k in omega arith
        | inr e ↦
            let i : numbered t.order f t.last q ≡ t.last =
            subst (λ k. numbered t.order f t.last k ≡ t.last) e (numbered_self t.order f t.last) in
            omega arith
      ];
      parent = λ z h o. elim (cases_Bool (seen z)) [
        | inl k ↦ let p = t.parent z k o in let q = old z k in (
          subst (λ k. done2 k ≡ true) (sym q.0) (more (up z) p.0),
          subst (λ i. links m (cond i c b) (up2 z) z ≡ true) (sym q.1)
              (subst (λ i. links m (cond (second z) c b) i z ≡ true) (sym q.0) p.1),
        )
        | inr k ↦
            let q = fresh z k h in (
              subst (λ k. done2 k ≡ true) (sym q.0) now,
              subst (λ i. links m (cond (second2 z) c b) i z ≡ true) (sym q.0) q.1,
            )
      ];
      later = λ z h o. elim (cases z h) [
        | inl k ↦
            let e : up2 z ≡ up z = (old z (inside z k)).0 in
            let p : done (up z) ≡ true = (t.parent z (inside z k) o).0 in
            let l : t.order (up z) < t.order z = t.later z k o in
            let x : numbered t.order f t.last (up z) ≡ t.order (up z) = keeps (up z) p in
            let y : numbered t.order f t.last z ≡ t.order z = keeps z k in
            let w : numbered t.order f t.last (up2 z) ≡ numbered t.order f t.last (up z) =
            ap (numbered t.order f t.last) e in
            omega arith
        | inr i ↦
            let sz : seen z ≡ true = subst (λ k. seen k ≡ true) i sf in
            let e : up2 z ≡ up z = (old z sz).0 in
            let p : done (up z) ≡ true = (t.parent z sz o).0 in
            let l : t.order (up z) < t.last = t.before (up z) p in
            let x : numbered t.order f t.last (up z) ≡ t.order (up z) = keeps (up z) p in
            let y : numbered t.order f t.last z ≡ t.last =
            subst (λ k. numbered t.order f t.last k ≡ t.last) i (numbered_self t.order f t.last) in
            let w : numbered t.order f t.last (up2 z) ≡ numbered t.order f t.last (up z) =
            ap (numbered t.order f t.last) e in
            omega arith
      ];
      first = λ q z h o k. elim (cases q h) [
        | inl d ↦
            let sz : seen z ≡ true = followed q d z k in
            let l : t.order (up z) ≤ t.order q = t.first q z d o k in
            let x : numbered t.order f t.last (up z) ≡ t.order (up z) =
            keeps (up z) (t.parent z sz o).0 in
            let y : numbered t.order f t.last q ≡ t.order q = keeps q d in
            let w : numbered t.order f t.last (up2 z) ≡ numbered t.order f t.last (up z) =
            ap (numbered t.order f t.last) (old z sz).0 in
            omega arith
        | inr i ↦
            let y : numbered t.order f t.last q ≡ t.last =
            subst (λ k. numbered t.order f t.last k ≡ t.last) i (numbered_self t.order f t.last) in
            elim (cases_Bool (seen z)) [
              | inl sz ↦
                  let p : done (up z) ≡ true = (t.parent z sz o).0 in
                  let l : t.order (up z) < t.last = t.before (up z) p in
                  let x : numbered t.order f t.last (up z) ≡ t.order (up z) = keeps (up z) p in
                  let w : numbered t.order f t.last (up2 z) ≡ numbered t.order f t.last (up z) =
                  ap (numbered t.order f t.last) (old z sz).0 in
                  omega arith
              | inr nz ↦
                  let u : up2 z ≡ f =
                  (fresh z nz
                  (all z (subst (λ k. either (links m b k) (links m c k) z ≡ true) (sym i) k))).0 in
                  let w : numbered t.order f t.last (up2 z) ≡ numbered t.order f t.last f =
                  ap (numbered t.order f t.last) u in
                  let x : numbered t.order f t.last f ≡ t.last = numbered_self t.order f t.last in
                  omega arith
            ]
      ];
    } where
      keeps : (q : ℕ) → done q ≡ true → numbered t.order f t.last q ≡ t.order q
      keeps q k = numbered_other t.order f t.last q
          (λ e. both_ways _ nf (subst (λ k. done k ≡ true) (sym e) k))

lower_parts : (done : ℕ → Bool) (order : ℕ → ℕ) (limit z : ℕ)
    → lower done order limit z ≡ true
    → (done z ≡ true) × (order z < limit)
unfolding lower
lower_parts done order limit z h =
    let p : (done z ≡ true) × (ltb (order z) limit ≡ true) =
    and_parts (done z) (ltb (order z) limit) h in
    (p.0, ltb-true (order z) limit p.1)

lower_from : (done : ℕ → Bool) (order : ℕ → ℕ) (limit z : ℕ)
    → done z ≡ true
    → order z < limit
    → lower done order limit z ≡ true
unfolding lower
lower_from done order limit z h l =
    and_from (done z) (ltb (order z) limit) h (lt-ltb (order z) limit l)

-- a swap along the last link of the chain, in the first base
pub IsShifted-first : (m : Matroid) (b c b' c' from seen done : ℕ → Bool) (up : ℕ → ℕ)
    (second : ℕ → Bool) (t : IsTree m b c from seen done up second) (y at left : ℕ)
    → IsSpan m.spans
    → IsBelow m.elements 1024
    → IsBase m.spans m.elements b'
    → IsWithin done m.elements
    → from at ≡ false
    → seen at ≡ true
    → second at ≡ false
    → IsShifted m b c b' c' from done t.order up y at (suc left)
    → IsShifted m b c (swapped b' at (up at)) c' from done t.order up y (up at) left
IsShifted-first m b c b' c' from seen done up second t y at left law small base de fa sa ka s =
    let p : (done (up at) ≡ true) × (links m (cond (second at) c b) (up at) at ≡ true) =
    t.parent at sa fa in
    let l : t.order (up at) < s.limit = s.below fa in
    let k0 : links m b (up at) at ≡ true =
    subst (λ i. links m (cond i c b) (up at) at ≡ true) ka p.1 in
    let k : links m b' (up at) at ≡ true = s.same_first (up at) p.0 l at ∙ k0 in
    let q : (b' (up at) ≡ false) × (circuit m.spans b' (up at) at ≡ true) =
    links_parts m b' (up at) at k in
    let r : (b' at ≡ true) × (m.spans (minus b' at) (up at) ≡ false) =
    circuit_parts m.spans b' (up at) at q.1 in
    record {
      limit = t.order (up at);
      few =
          let c2 = count_less (lower done t.order (t.order (up at))) (lower done t.order s.limit)
          (up at) 1024 (λ z h.
          let i = lower_parts done t.order (t.order (up at)) z h in
          lower_from done t.order s.limit z i.0 (omega arith)) (false_from_ne_true _
          (λ h. let i = lower_parts done t.order (t.order (up at)) (up at) h in omega arith))
          (lower_from done t.order s.limit (up at) p.0 l) (small (up at) (de (up at) p.0)) in
          let w : count (lower done t.order s.limit) 1024 ≤ suc left = s.few in omega arith;
      below = λ o. t.later (up at) p.0 o;
      same_first = λ f h i z. links-swapped m b' at (up at) f 1024 law small base (de f h) k
          (false_from_ne_true _ (λ g.
          let g0 : links m b f at ≡ true = sym (s.same_first f h (omega arith) at) ∙ g in
          let j : t.order (up at) ≤ t.order f = t.first f at h fa (either_left _ _ at g0) in
          omega arith)) (λ e. at_most f h i e)
          (λ e. let u : t.order (up at) ≡ t.order f = ap t.order e in omega arith) z
          ∙ s.same_first f h (omega arith) z;
      same_second = λ f h i z. s.same_second f h (omega arith) z;
      members = λ z.
          let v = members-swapped b' c' at (up at) z r.0 q.0 in
          let w = s.members z in
          omega arith;
    }
  where
    at_most : (f : ℕ) → done f ≡ true → t.order f < t.order (up at) → at ≡ f → ⊥
    at_most f h i e =
        let d : done at ≡ true = subst (λ k. done k ≡ true) (sym e) h in
        let j : t.order (up at) < t.order at = t.later at d fa in
        let u : t.order at ≡ t.order f = ap t.order e in
        omega arith

-- a swap along the last link of the chain, in the second base
pub IsShifted-second : (m : Matroid) (b c b' c' from seen done : ℕ → Bool) (up : ℕ → ℕ)
    (second : ℕ → Bool) (t : IsTree m b c from seen done up second) (y at left : ℕ)
    → IsSpan m.spans
    → IsBelow m.elements 1024
    → IsBase m.spans m.elements c'
    → IsWithin done m.elements
    → from at ≡ false
    → seen at ≡ true
    → second at ≡ true
    → IsShifted m b c b' c' from done t.order up y at (suc left)
    → IsShifted m b c b' (swapped c' at (up at)) from done t.order up y (up at) left
IsShifted-second m b c b' c' from seen done up second t y at left law small base de fa sa ka s =
    let p : (done (up at) ≡ true) × (links m (cond (second at) c b) (up at) at ≡ true) =
    t.parent at sa fa in
    let l : t.order (up at) < s.limit = s.below fa in
    let k0 : links m c (up at) at ≡ true =
    subst (λ i. links m (cond i c b) (up at) at ≡ true) ka p.1 in
    let k : links m c' (up at) at ≡ true = s.same_second (up at) p.0 l at ∙ k0 in
    let q : (c' (up at) ≡ false) × (circuit m.spans c' (up at) at ≡ true) =
    links_parts m c' (up at) at k in
    let r : (c' at ≡ true) × (m.spans (minus c' at) (up at) ≡ false) =
    circuit_parts m.spans c' (up at) at q.1 in
    record {
      limit = t.order (up at);
      few =
          let c2 = count_less (lower done t.order (t.order (up at))) (lower done t.order s.limit)
          (up at) 1024 (λ z h.
          let i = lower_parts done t.order (t.order (up at)) z h in
          lower_from done t.order s.limit z i.0 (omega arith)) (false_from_ne_true _
          (λ h. let i = lower_parts done t.order (t.order (up at)) (up at) h in omega arith))
          (lower_from done t.order s.limit (up at) p.0 l) (small (up at) (de (up at) p.0)) in
          let w : count (lower done t.order s.limit) 1024 ≤ suc left = s.few in omega arith;
      below = λ o. t.later (up at) p.0 o;
      same_first = λ f h i z. s.same_first f h (omega arith) z;
      same_second = λ f h i z. links-swapped m c' at (up at) f 1024 law small base (de f h) k
          (false_from_ne_true _ (λ g.
          let g0 : links m c f at ≡ true = sym (s.same_second f h (omega arith) at) ∙ g in
          let j : t.order (up at) ≤ t.order f = t.first f at h fa (either_right _ _ at g0) in
          omega arith)) (λ e. at_most f h i e)
          (λ e. let u : t.order (up at) ≡ t.order f = ap t.order e in omega arith) z
          ∙ s.same_second f h (omega arith) z;
      members = λ z.
          let v = members-swapped c' b' at (up at) z r.0 q.0 in
          let w = s.members z in
          omega arith;
    }
  where
    at_most : (f : ℕ) → done f ≡ true → t.order f < t.order (up at) → at ≡ f → ⊥
    at_most f h i e =
        let d : done at ≡ true = subst (λ k. done k ≡ true) (sym e) h in
        let j : t.order (up at) < t.order at = t.later at d fa in
        let u : t.order at ≡ t.order f = ap t.order e in
        omega arith

pub count_most : (a : ℕ → Bool) (n : ℕ) → count a n ≤ n
unfolding count
count_most a zero = omega arith
count_most a (suc n) =
    let r : count a n ≤ n = count_most a n in
    let o : one_if (a n) ≤ 1 = one_most (a n) in
    omega arith
  where
    one_most : (p : Bool) → one_if p ≤ 1
    one_most true = omega arith
    one_most false = omega arith

pub SomeShift-begin : (m : Matroid) (b c from : ℕ → Bool) (up : ℕ → ℕ) (second : ℕ → Bool) (y : ℕ)
    → SomeTree m b c from up second y
    → SomeShift m b c b c from up second y y 1024
SomeShift-begin m b c from up second y t = record {
  seen = t.seen;
  done = t.done;
  known = t.known;
  only = t.only;
  sees = t.sees;
  tree = t.tree;
  depth = t.depth;
  begun = t.begun;
  deeper = t.deeper;
  near = t.near;
  size = 0;
  chain = at_once;
  sum = omega arith;
  state = record {
    limit = t.tree.last;
    few = count_most _ 1024;
    below = λ o. t.tree.before (up y) (t.tree.parent y t.sees o).0;
    same_first = λ f h l z. refl;
    same_second = λ f h l z. refl;
    members = λ z. refl;
  };
}

-- what a swap along the last link needs
pub link_first : (m : Matroid) (b c b' c' from : ℕ → Bool) (up : ℕ → ℕ) (second : ℕ → Bool)
    (y at left : ℕ)
    → SomeShift m b c b' c' from up second y at left
    → from at ≡ false
    → second at ≡ false
    → (m.elements (up at) ≡ true) × (b' (up at) ≡ false) × (circuit m.spans b' (up at) at ≡ true)
link_first m b c b' c' from up second y at left s fa ka =
    let p : (done' (up at) ≡ true) × (links m (cond (second at) c b) (up at) at ≡ true) =
    s.tree.parent at s.sees fa in
    let q : (b' (up at) ≡ false) × (circuit m.spans b' (up at) at ≡ true) =
    links_parts m b' (up at) at (s.state.same_first (up at) p.0 (s.state.below fa) at
    ∙ subst (λ i. links m (cond i c b) (up at) at ≡ true) ka p.1) in
    (s.only (up at) (s.known (up at) p.0), q.0, q.1)
  where
    done' : ℕ → Bool
    done' = s.done

pub link_second : (m : Matroid) (b c b' c' from : ℕ → Bool) (up : ℕ → ℕ) (second : ℕ → Bool)
    (y at left : ℕ)
    → SomeShift m b c b' c' from up second y at left
    → from at ≡ false
    → second at ≡ true
    → (m.elements (up at) ≡ true) × (c' (up at) ≡ false) × (circuit m.spans c' (up at) at ≡ true)
link_second m b c b' c' from up second y at left s fa ka =
    let p : (done' (up at) ≡ true) × (links m (cond (second at) c b) (up at) at ≡ true) =
    s.tree.parent at s.sees fa in
    let q : (c' (up at) ≡ false) × (circuit m.spans c' (up at) at ≡ true) =
    links_parts m c' (up at) at (s.state.same_second (up at) p.0 (s.state.below fa) at
    ∙ subst (λ i. links m (cond i c b) (up at) at ≡ true) ka p.1) in
    (s.only (up at) (s.known (up at) p.0), q.0, q.1)
  where
    done' : ℕ → Bool
    done' = s.done

pub SomeShift-first : (m : Matroid) (b c b' c' from : ℕ → Bool) (up : ℕ → ℕ) (second : ℕ → Bool)
    (y at left : ℕ)
    → IsSpan m.spans
    → IsBelow m.elements 1024
    → IsBase m.spans m.elements b'
    → from at ≡ false
    → second at ≡ false
    → SomeShift m b c b' c' from up second y at (suc left)
    → SomeShift m b c (swapped b' at (up at)) c' from up second y (up at) left
SomeShift-first m b c b' c' from up second y at left law small base fa ka s = record {
  seen = s.seen;
  done = s.done;
  known = s.known;
  only = s.only;
  tree = s.tree;
  sees = s.known (up at) (s.tree.parent at s.sees fa).0;
  depth = s.depth;
  begun = s.begun;
  deeper = s.deeper;
  near = s.near;
  size = suc s.size;
  chain = LeadsIn-before m b c (up at) at
      (either_left (links m b (up at)) (links m c (up at)) at
      (subst (λ i. links m (cond i c b) (up at) at ≡ true) ka (s.tree.parent at s.sees fa).1))
      s.chain;
  sum =
      let d : s.depth at ≡ suc (s.depth (up at)) = s.deeper at s.sees fa in
      let e : s.depth at + s.size ≡ s.depth y = s.sum in
      omega arith;
  state = IsShifted-first m b c b' c' from s.seen s.done up second s.tree y at left law small base
      (λ z h. s.only z (s.known z h)) fa s.sees ka s.state;
}

pub SomeShift-second : (m : Matroid) (b c b' c' from : ℕ → Bool) (up : ℕ → ℕ) (second : ℕ → Bool)
    (y at left : ℕ)
    → IsSpan m.spans
    → IsBelow m.elements 1024
    → IsBase m.spans m.elements c'
    → from at ≡ false
    → second at ≡ true
    → SomeShift m b c b' c' from up second y at (suc left)
    → SomeShift m b c b' (swapped c' at (up at)) from up second y (up at) left
SomeShift-second m b c b' c' from up second y at left law small base fa ka s = record {
  seen = s.seen;
  done = s.done;
  known = s.known;
  only = s.only;
  tree = s.tree;
  sees = s.known (up at) (s.tree.parent at s.sees fa).0;
  depth = s.depth;
  begun = s.begun;
  deeper = s.deeper;
  near = s.near;
  size = suc s.size;
  chain = LeadsIn-before m b c (up at) at
      (either_right (links m b (up at)) (links m c (up at)) at
      (subst (λ i. links m (cond i c b) (up at) at ≡ true) ka (s.tree.parent at s.sees fa).1))
      s.chain;
  sum =
      let d : s.depth at ≡ suc (s.depth (up at)) = s.deeper at s.sees fa in
      let e : s.depth at + s.size ≡ s.depth y = s.sum in
      omega arith;
  state = IsShifted-second m b c b' c' from s.seen s.done up second s.tree y at left law small base
      (λ z h. s.only z (s.known z h)) fa s.sees ka s.state;
}

-- a chain can't be longer than there are elements
pub shift_ends : (m : Matroid) (b c b' c' from : ℕ → Bool) (up : ℕ → ℕ) (second : ℕ → Bool)
    (y at left : ℕ)
    → left ≡ 0
    → IsBelow m.elements 1024
    → SomeShift m b c b' c' from up second y at left
    → from at ≡ true
shift_ends m b c b' c' from up second y at left e small s = true_from_ne_false _ (λ o.
    let p = s.tree.parent at s.sees o in
    let k = count_minus (lower s.done s.tree.order s.state.limit) (up at) 1024
    (lower_from s.done s.tree.order s.state.limit (up at) p.0 (s.state.below o))
    (small (up at) (s.only (up at) (s.known (up at) p.0))) in
    let f : count (lower s.done s.tree.order s.state.limit) 1024 ≤ left = s.state.few in
    omega arith)

-- back at the beginning, the chain that was followed is as short as any that leads there
pub IsNearest-shift : (m : Matroid) (b c b' c' from : ℕ → Bool) (up : ℕ → ℕ) (second : ℕ → Bool)
    (y at left : ℕ)
    → from at ≡ true
    → SomeShift m b c b' c' from up second y at left
    → IsNearest m b c from at y
IsNearest-shift m b c b' c' from up second y at left here s = record {
  size = s.size;
  chain = s.chain;
  near = λ start n o l.
      let d : s.depth at ≡ 0 = s.begun at here in
      let e : s.depth at + s.size ≡ s.depth y = s.sum in
      let k : s.depth y ≤ n = s.near start n o l in
      omega arith;
}
