-- Where the steps to parents lead after a step was shortened or two roots were united.
use Rattle.std.proofs.Common.{◌≡◌, ◌≢◌, ℕ, ◌<◌, ◌≤◌, eqb, cond, List, length, get_or, refl, arith}
use Rattle.std.proofs.Common.{inl, inr, sym, ◌∙◌, subst, zero, suc}
use Rattle.pg_graph.proofs.Common.{set, length-set, cases_eq, cases_Bool, eq-eqb, ne_eqb}
use Rattle.pg_graph.proofs.Common.{get_or-set_other, get_or-set_same}
use Rattle.pg_graph.specs.Roots.{climb, root_of, IsUpward, SameRoots}

climb_own : (parents : List ℕ) (n v : ℕ) → get_or parents v 0 ≡ v → climb parents n v ≡ v
unfolding climb
climb_own parents zero v e = refl
climb_own parents (suc n) v e = rw e (climb_own parents n v e)

-- one more step changes nothing
climb_more : (parents : List ℕ)
    → IsUpward parents
    → (n v : ℕ) → v < length parents
    → v ≤ n
    → climb parents (suc n) v ≡ climb parents n v
unfolding climb
climb_more parents u zero v l h =
    let z : v ≡ 0 = omega arith in
    let s : get_or parents v 0 ≤ v = u v l in
    let t : get_or parents v 0 ≡ v = omega arith in
    t
climb_more parents u (suc n) v l h =
    let s : get_or parents v 0 ≤ v = u v l in
    elim (cases_eq (get_or parents v 0) v) [
      | inl e ↦ climb_own parents (suc (suc n)) v e ∙ sym (climb_own parents (suc n) v e)
      | inr d ↦ climb_more parents u n (get_or parents v 0) (omega arith) (omega arith)
    ]

-- what is the same along each step, and is itself at each root, is the root
climb_only : (parents : List ℕ)
    → IsUpward parents
    → (r : ℕ → ℕ) → ((v : ℕ) → v < length parents → r (get_or parents v 0) ≡ r v)
    → ((v : ℕ) → v < length parents → get_or parents v 0 ≡ v → r v ≡ v)
    → (n v : ℕ) → v < length parents
    → v ≤ n
    → climb parents n v ≡ r v
unfolding climb
climb_only parents u r same top zero v l h =
    let s : get_or parents v 0 ≤ v = u v l in
    let t : get_or parents v 0 ≡ v = omega arith in
    sym (top v l t)
climb_only parents u r same top (suc n) v l h =
    let s : get_or parents v 0 ≤ v = u v l in
    elim (cases_eq (get_or parents v 0) v) [
      | inl e ↦ climb_own parents (suc n) v e ∙ sym (top v l e)
      | inr d ↦ climb_only parents u r same top n (get_or parents v 0) (omega arith) (omega arith)
          ∙ same v l
    ]

pub root_only : (parents : List ℕ)
    → IsUpward parents
    → (r : ℕ → ℕ) → ((v : ℕ) → v < length parents → r (get_or parents v 0) ≡ r v)
    → ((v : ℕ) → v < length parents → get_or parents v 0 ≡ v → r v ≡ v)
    → (v : ℕ) → v < length parents
    → root_of parents v ≡ r v
unfolding root_of
root_only parents u r same top v l =
    climb_only parents u r same top (length parents) v l (omega arith)

pub root-own : (parents : List ℕ) (v : ℕ) → get_or parents v 0 ≡ v → root_of parents v ≡ v
unfolding root_of
root-own parents v e = climb_own parents (length parents) v e

pub root-parents : (parents : List ℕ)
    → IsUpward parents
    → (v : ℕ) → v < length parents
    → root_of parents (get_or parents v 0) ≡ root_of parents v
unfolding root_of climb
root-parents parents u v l = along (length parents) refl
  where
    along : (n : ℕ) → length parents ≡ n → climb parents n (get_or parents v 0) ≡ climb parents n v
    along zero e = absurd (omega arith)
    along (suc n) e =
        let s : get_or parents v 0 ≤ v = u v l in
        climb_more parents u n (get_or parents v 0) (omega arith) (omega arith)

-- a step may go to where two lead
pub IsUpward-set : (parents : List ℕ) (i x : ℕ)
    → IsUpward parents
    → x ≤ i
    → IsUpward (set parents i x)
IsUpward-set parents i x u h v l =
    let e : length (set parents i x) ≡ length parents = length-set parents i x in
    elim (cases_eq v i) [
      | inl q ↦ subst (λ k. get_or (set parents i x) k 0 ≤ k) (sym q)
          (rw (get_or-set_same parents i x 0 (omega arith)) h)
      | inr d ↦ rw (get_or-set_other parents i v x 0 d) (u v (omega arith))
    ]

pub root-halved : (parents : List ℕ) (i : ℕ)
    → IsUpward parents
    → i < length parents
    → get_or parents i 0 ≢ i
    → SameRoots parents (set parents i (get_or parents (get_or parents i 0) 0))
root-halved parents i u l ne w lw =
    let s : get_or parents i 0 ≤ i = u i l in
    let s2 : get_or parents (get_or parents i 0) 0 ≤ get_or parents i 0 =
    u (get_or parents i 0) (omega arith) in
    let e : length (set parents i (get_or parents (get_or parents i 0) 0)) ≡ length parents =
    length-set parents i (get_or parents (get_or parents i 0) 0) in
    root_only (set parents i (get_or parents (get_or parents i 0) 0))
    (IsUpward-set parents i (get_or parents (get_or parents i 0) 0) u (omega arith))
    (root_of parents) (λ v lv. elim (cases_eq v i) [
      | inl q ↦ subst
          (λ k. root_of parents (get_or (set parents i (get_or parents (get_or parents i 0) 0)) k 0)
          ≡ root_of parents k) (sym q)
          (rw (get_or-set_same parents i (get_or parents (get_or parents i 0) 0) 0 l)
          (root-parents parents u (get_or parents i 0) (omega arith) ∙ root-parents parents u i l))
      | inr d ↦ rw (get_or-set_other parents i v (get_or parents (get_or parents i 0) 0) 0 d)
          (root-parents parents u v (omega arith))
    ]) (λ v lv t. elim (cases_eq v i) [
      | inl q ↦ absurd (let t2 : get_or parents (get_or parents i 0) 0 ≡ i =
          sym (get_or-set_same parents i (get_or parents (get_or parents i 0) 0) 0 l)
          ∙ subst (λ k. get_or (set parents i (get_or parents (get_or parents i 0) 0)) k 0 ≡ k) q
          t in
          ne (omega arith))
      | inr d ↦ root-own parents v
          (sym (get_or-set_other parents i v (get_or parents (get_or parents i 0) 0) 0 d) ∙ t)
    ]) w (omega arith)

-- the root hi is put below the root lo
pub root-merged : (parents : List ℕ) (lo hi : ℕ)
    → IsUpward parents
    → hi < length parents
    → lo ≤ hi
    → get_or parents lo 0 ≡ lo
    → get_or parents hi 0 ≡ hi
    → (w : ℕ) → w < length parents
    → root_of (set parents hi lo) w ≡ cond (eqb (root_of parents w) hi) lo (root_of parents w)
root-merged parents lo hi u l h tl th w lw =
    let e : length (set parents hi lo) ≡ length parents = length-set parents hi lo in
    root_only (set parents hi lo) (IsUpward-set parents hi lo u h)
    (λ v. cond (eqb (root_of parents v) hi) lo (root_of parents v)) (λ v lv. elim (cases_eq v hi) [
      | inl q ↦ subst (λ k. cond (eqb (root_of parents (get_or (set parents hi lo) k 0)) hi) lo
          (root_of parents (get_or (set parents hi lo) k 0))
          ≡ cond (eqb (root_of parents k) hi) lo (root_of parents k)) (sym q) (rw (
            get_or-set_same parents hi lo 0 l,
            root-own parents lo tl,
            root-own parents hi th,
          ) (rw (eq-eqb hi hi refl) (elim (cases_Bool (eqb lo hi)) [
            | inl t ↦ rw t refl
            | inr f ↦ rw f refl
          ])))
      | inr d ↦
          rw (get_or-set_other parents hi v lo 0 d, root-parents parents u v (omega arith)) refl
    ]) (λ v lv t. elim (cases_eq v hi) [
      | inl q ↦
          let t2 : lo ≡ hi = sym (get_or-set_same parents hi lo 0 l)
          ∙ subst (λ k. get_or (set parents hi lo) k 0 ≡ k) q t in
          subst (λ k. cond (eqb (root_of parents k) hi) lo (root_of parents k) ≡ k) (sym q)
          (rw (root-own parents hi th, eq-eqb hi hi refl) t2)
      | inr d ↦
          let t2 : root_of parents v ≡ v =
          root-own parents v (sym (get_or-set_other parents hi v lo 0 d) ∙ t) in
          rw t2 (rw (ne_eqb v hi d) refl)
    ]) w (omega arith)

climb_le : (parents : List ℕ)
    → IsUpward parents
    → (n v : ℕ) → v < length parents
    → climb parents n v ≤ v
unfolding climb
climb_le parents u zero v l = omega arith
climb_le parents u (suc n) v l =
    let s : get_or parents v 0 ≤ v = u v l in
    let r : climb parents n (get_or parents v 0) ≤ get_or parents v 0 =
    climb_le parents u n (get_or parents v 0) (omega arith) in
    omega arith

pub own_from_root : (parents : List ℕ)
    → IsUpward parents
    → (v : ℕ) → v < length parents
    → root_of parents v ≡ v
    → get_or parents v 0 ≡ v
unfolding root_of
own_from_root parents u v l e =
    let s : get_or parents v 0 ≤ v = u v l in
    let r : climb parents (length parents) (get_or parents v 0) ≤ get_or parents v 0 =
    climb_le parents u (length parents) (get_or parents v 0) (omega arith) in
    let m : climb parents (length parents) (get_or parents v 0) ≡ climb parents (length parents) v =
    root-parents parents u v l in
    omega arith
