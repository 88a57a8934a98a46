use Rattle.std.proofs.Common.{◌≡◌, ◌<◌, ◌≤◌, ◌+◌, ℕ, Bool, true, false, length, List, sym, ap, ◌∙◌}
use Rattle.std.proofs.Common.{subst, subst₂, arith, inl, inr}
use Rattle.pg_gf2.proofs.Common.{FinSet, contains, contains-empty, empty, nat_cmp, vec_len}
use Rattle.pg_gf2.proofs.Common.{vec_capacity, both_ways, cases_eq, false_from_ne_true, below, plus}
use Rattle.pg_gf2.proofs.Common.{IsWithin, plus_cases, plus_old, plus_new, below_parts, below_from}
use Rattle.pg_gf2.proofs.Common.{below_in, below_out, emptied, with_point}
use Rattle.pg_gf2.specs.declared.row.Row.{Row}
use Rattle.pg_gf2.specs.Vectors.{vector_at}
use Rattle.pg_gf2.specs.Rows.{IsEliminated, reduced}
use Rattle.pg_gf2.proofs.RowLemmas.{told_whole}
use Rattle.pg_gf2.proofs.EliminationLemmas.{eliminated_all, eliminated_begin, eliminated_own}
use Rattle.pg_gf2.proofs.EliminationLemmas.{eliminated_skip}
use Rattle.pg_gf2.proofs.room.fill.Goals as goal
use Rattle.pg_gf2.proofs.room.fill.Goals.{then-has+then-left-ne0, then-has+else-left-ne0, else-has}

nothing_below : (x : ℕ → Bool) (z : ℕ) → below x 0 z ≡ false
nothing_below x z =
    false_from_ne_true _ (λ h. let p : z < 0 = (below_parts x 0 z h).1 in omega arith)

one_more : (x : ℕ → Bool) (k : ℕ) → IsWithin (below x (k + 1)) (plus (below x k) k)
one_more x k z h =
    let p : (x z ≡ true) × (z < k + 1) = below_parts x (k + 1) z h in
    elim (cases_eq k z) [
      | inl e ↦ plus_new (below x k) k z e
      | inr d ↦ plus_old (below x k) k z (below_from x k z p.0 (omega arith))
    ]

pub loop-k-init : goal.loop-k-init
loop-k-init c =
    let v = vector_at c.args.vectors.now in
    let x = contains c.args.set.now in
    record {
      eliminated = subst (λ (rows : List Row). IsEliminated v (length c.args.vectors.now) x
          (λ _. false) (below x 0) rows) (sym c.clear.ensures.items)
          (eliminated_begin v (length c.args.vectors.now) x (below x 0) (nothing_below x));
      within = λ z h. absurd (both_ways _ (emptied c.empty-base.result c.empty-base.ensures z) h);
      few = omega (arith, c.clear.ensures.len);
      room = omega (arith, c.clear.ensures.capacity, c.requires.room);
    }

pub loop-k-preserved : goal.loop-k-preserved
unfolding vector_at
loop-k-preserved c =
    let v = vector_at c.args.vectors.now in
    let n = length c.args.vectors.now in
    let x = contains c.args.set.now in
    let k = c.loop-k.k in
    let low : k < n = omega arith in
    let i = c.loop-k.invariant in
    elim c.if-has.branch [
      | then-has+then-left-ne0 w ↦
          let xk : x k ≡ true = sym w.if-has.ensures in
          let left : w.rest-left.result ≡ reduced c.loop-k.rows.items (v k) = w.rest-left.ensures
          ∙ ap (λ (rows : List Row). reduced rows (v k)) w.deref.ensures.value in
          let told = told_whole v n x (λ _. false) c.loop-k.rows.items
          (v k) w.rest-left.result i.eliminated.told left in
          let now : contains c.if-has.base ≡ plus (contains c.loop-k.base) k =
          ap (λ (s : FinSet nat_cmp). contains s) w.base-is
          ∙ with_point c.loop-k.base w.put.new.self k w.put.ensures in
          let count : vec_len c.if-has.rows ≡ vec_len c.loop-k.rows + 1 =
          ap vec_len w.rows-is ∙ w.put_row.ensures.len in
          let more : vec_capacity c.loop-k.rows ≤ vec_capacity c.if-has.rows =
          subst (λ (q : ℕ). vec_capacity c.loop-k.rows ≤ q)
          (sym (ap vec_capacity w.rows-is)) w.put_row.ensures.capacity in
          record {
            eliminated = subst₂
                (λ (set : ℕ → Bool) (rows : List Row). IsEliminated v n x (λ _. false) set rows)
                (below_in x k xk) (sym (ap (λ r. r.items) w.rows-is))
                (eliminated_own v n x (below x k) told.0 empty c.loop-k.rows.items
                w.put_row.new.rows.items w.rest-left.result k low xk i.eliminated left told.1
                (contains-empty nat_cmp) w.put_row.ensures.row);
            within = λ z h. elim (plus_cases (contains c.loop-k.base) k z
                (subst (λ (s : ℕ → Bool). s z ≡ true) now h)) [
                  | inl m ↦ i.within z m
                  | inr e ↦ subst (λ (j : ℕ). x j ≡ true) e xk
                ];
            few = omega (arith, count, i.few);
            room = omega (arith, more, i.room);
          }
      | then-has+else-left-ne0 w ↦
          let left : reduced c.loop-k.rows.items (v k) ≡ 0 = sym
          (w.rest-left.ensures ∙ ap (λ (rows : List Row). reduced rows (v k)) w.deref.ensures.value)
          ∙ w.if-left-ne0.false in
          let count : vec_len c.if-has.rows ≡ vec_len c.loop-k.rows = ap vec_len w.rows-is in
          let more : vec_capacity c.if-has.rows ≡ vec_capacity c.loop-k.rows =
          ap vec_capacity w.rows-is in
          record {
            eliminated =
                subst (λ (rows : List Row). IsEliminated v n x (λ _. false) (below x (k + 1)) rows)
                (sym (ap (λ r. r.items) w.rows-is))
                (eliminated_skip v n x (λ _. false) (below x k)
                (below x (k + 1)) c.loop-k.rows.items k i.eliminated (one_more x k) (λ _. left));
            within =
                λ z h. i.within z (subst (λ (s : FinSet nat_cmp). contains s z ≡ true) w.base-is h);
            few = omega (arith, count, i.few);
            room = omega (arith, more, i.room);
          }
      | else-has w ↦
          let count : vec_len c.if-has.rows ≡ vec_len c.loop-k.rows = ap vec_len w.rows-is in
          let more : vec_capacity c.if-has.rows ≡ vec_capacity c.loop-k.rows =
          ap vec_capacity w.rows-is in
          record {
            eliminated = subst₂ (λ (set : ℕ → Bool) (rows : List Row).
                IsEliminated v n x (λ _. false) set rows) (below_out x k (sym w.if-has.ensures))
                (sym (ap (λ r. r.items) w.rows-is)) i.eliminated;
            within =
                λ z h. i.within z (subst (λ (s : FinSet nat_cmp). contains s z ≡ true) w.base-is h);
            few = omega (arith, count, i.few);
            room = omega (arith, more, i.room);
          }
    ]

pub returns-clause-eliminated : goal.returns-clause-eliminated
returns-clause-eliminated c = eliminated_all c.args.vectors.now (contains c.args.set.now)
    (λ _. false) (contains c.args.set.now) c.loop-k.rows.items c.loop-k.k
    (omega arith) c.loop-k.invariant.eliminated
