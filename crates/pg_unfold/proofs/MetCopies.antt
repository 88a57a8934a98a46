-- One pass from the root down marks exactly the copies that are met.
use Rattle.std.proofs.Common.{◌≡◌, ℕ, zero, suc, ◌+◌, ◌*◌, ◌-◌, ◌%◌, ◌<◌, Bool, true, false, List}
use Rattle.std.proofs.Common.{length, set, replicate, sym, ap, ◌∙◌, subst, inl, inr, arith}
use Rattle.pg_unfold.proofs.Common.{cases_lt, length-set, length-replicate, slice_get_within}
use Rattle.pg_unfold.proofs.Common.{ImageNode, numbered, number_of, IsMarked}
use Rattle.pg_unfold.specs.Copies.{Copy, LeadsTo, IsAt, IsMetBy}
use Rattle.pg_unfold.specs.Marks.{key_of, copy_at, AreAdded, Hands, AreEarlier, AreMet, HasPassed}
use Rattle.pg_unfold.proofs.Keys.{copy_at-key}
use Rattle.pg_unfold.proofs.Marking.{marked_set, from_set}
use Rattle.pg_unfold.proofs.Handing.{hands-down}

unmarked : (n k : ℕ) → IsMarked (replicate n false) k → ⊥
unmarked zero k h = absurd cc
unmarked (suc n) zero h = absurd cc
unmarked (suc n) (suc k) h = unmarked n k h

module _ (nodes : List ImageNode) where
  pub passed-none : 0 < length nodes
      → (marks : List Bool)
      → marks ≡ set (replicate (8 * length nodes) false) (8 * (length nodes - 1)) true
      → HasPassed nodes (8 * length nodes) marks
  passed-none some marks is = record {
    size = size;
    sound = λ k h. elim (from_set none at k (subst (λ ms. IsMarked ms k) is h)) [
      | inl old ↦ absurd (unmarked (8 * length nodes) k old)
      | inr e ↦ (
        0,
        (
          omega (arith, e, some),
          ap numbered (let zero_map : k % 8 ≡ 0 = omega (arith, e) in zero_map),
        ),
      )
    ];
    root = subst (λ ms. IsMarked ms at) (sym is)
        (marked_set none at (let count = length-replicate {A = Bool} (8 * length nodes) false in
        omega (arith, count, some)));
    closed = λ k next high h hands.
        absurd (let within = slice_get_within marks k true h in omega (arith, within, size));
  }
    where
      none : List Bool
      none = replicate (8 * length nodes) false

      at : ℕ
      at = 8 * (length nodes - 1)

      size : length marks ≡ 8 * length nodes
      size = ap length is ∙ length-set none at true ∙ length-replicate (8 * length nodes) false

  pub passed-skip : (before key : ℕ) (marks : List Bool)
      → before ≡ key + 1
      → (IsMarked marks key → ⊥)
      → HasPassed nodes before marks
      → HasPassed nodes key marks
  passed-skip before key marks next off h = record {
    size = h.size;
    sound = h.sound;
    root = h.root;
    closed = λ k to high on hands. elim (cases_lt key k) [
      | inl above ↦ h.closed k to (omega (arith, above, next)) on hands
      | inr le ↦ absurd
          (off (subst (λ j. IsMarked marks j) (let e : k ≡ key = omega (arith, le, high) in e) on))
    ];
  }

  pub passed-hand : AreEarlier nodes
      → (before key : ℕ) (old new : List Bool) → before ≡ key + 1
      → IsMarked old key
      → AreAdded (Hands nodes key) old new
      → length new ≡ length old
      → HasPassed nodes before old
      → HasPassed nodes key new
  passed-hand earlier before key old new next on added same h = record {
    size = same ∙ h.size;
    sound = λ k now. elim (added.only k now) [
      | inl was ↦ h.sound k was
      | inr hands ↦ let met = h.sound key on in (suc met.0, (copy_at key, met.1, hands))
    ];
    root = added.kept (8 * (length nodes - 1)) h.root;
    closed = λ k to high now hands. elim (cases_lt key k) [
      | inl above ↦
          added.kept to (h.closed k to (omega (arith, above, next)) (was k above now) hands)
      | inr le ↦
          let e : k ≡ key = omega (arith, le, high) in
          added.put to (subst (λ j. Hands nodes j to) e hands)
    ];
  }
    where
      was : (k : ℕ) → key < k → IsMarked new k → IsMarked old k
      was k above now = elim (added.only k now) [
        | inl old ↦ old
        | inr hands ↦
            absurd (let down = hands-down nodes earlier key k hands in omega (arith, down, above))
      ]

  module _ (marks : List Bool) (h : HasPassed nodes 0 marks) where
    reached : (n : ℕ) (c : Copy) → IsMetBy nodes n c → IsMarked marks (key_of c)
    reached zero c met =
        let number : number_of c.map ≡ 0 = ap number_of met.1 in
        let e : 8 * (length nodes - 1) ≡ key_of c = omega (arith, met.0, number) in
        subst (IsMarked marks) e h.root
    reached (suc n) c met =
        let b : Copy = met.0 in
        let from = reached n b met.1 in
        h.closed (key_of b) (key_of c) (omega arith) from
        (subst (λ (d : Copy). IsAt nodes d (λ node. LeadsTo node d (copy_at (key_of c))))
        (sym (copy_at-key b))
        (subst (λ (d : Copy). IsAt nodes b (λ node. LeadsTo node b d)) (sym (copy_at-key c)) met.2))

    pub AreMet-passed : AreMet nodes marks
    AreMet-passed = record {
      whole = h.size;
      sound = h.sound;
      complete = λ c met. reached met.0 c met.1;
    }
