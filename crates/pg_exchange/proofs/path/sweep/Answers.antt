use Rattle.std.proofs.Common.{◌≡◌, ◌<◌, ◌≤◌, ◌+◌, ◌⊎◌, ℕ, Bool, true, false, arith, slice_index, ap}
use Rattle.std.proofs.Common.{◌∙◌, sym, subst, inl, inr}
use Rattle.pg_exchange.proofs.Common.{cases_eq, cases_lt, cases_Bool, both_ways, false_from_ne_true}
use Rattle.pg_exchange.proofs.Common.{FinSet, contains, nat_cmp, minus, minus_parts, minus_from}
use Rattle.pg_exchange.specs.Path.{first_label, second_label, IsReachedBoth, SpreadsOn}
use Rattle.pg_exchange.proofs.Tests.{without_point}
use Rattle.pg_exchange.proofs.PathLemmas.{SpreadsOn-twice}
use Rattle.pg_exchange.proofs.path.sweep.Goals as goal
use Rattle.pg_exchange.proofs.path.sweep.Goals.{then-cross, else-cross}

pub loop-k-preserved : goal.loop-k-preserved
unfolding first_label second_label
loop-k-preserved c =
    let g = c.args.g.now in
    let names = c.args.names.now in
    let i = c.loop-k.invariant in
    let k = c.in-Some.k in
    let found = c.in-Some.ensures.found in
    let range : k < 1024 = c.in-Some.ensures.range in
    let begun = contains c.args.left.now in
    let left = contains c.loop-k.left in
    let old = contains c.args.reached.now in
    let now = contains c.cross.new.reached in
    let la = first_label g names in
    let lb = second_label g names in
    let first : la k ≡ slice_index names c.ends_of-u.result.0 =
    ap (λ (p : ℕ × ℕ). slice_index names p.0) (sym c.ends_of-u.ensures.ends) in
    let second : lb k ≡ slice_index names c.ends_of-u.result.1 =
    ap (λ (p : ℕ × ℕ). slice_index names p.1) (sym c.ends_of-u.ensures.ends) in
    let both : c.cross.result ≡ true → IsReachedBoth now (la k) (lb k) = λ t.
    let p = c.cross.ensures.both t in (
      subst (λ (z : ℕ). now z ≡ true) (sym first) p.0,
      subst (λ (z : ℕ). now z ≡ true) (sym second) p.1,
    ) in
    let crossed : (old (la k) ≡ true) ⊎ (old (lb k) ≡ true) → c.cross.result ≡ true = λ some.
    elim (cases_Bool c.cross.result) [
      | inl t ↦ t
      | inr o ↦
          let p = c.cross.ensures.neither o in
          absurd (elim some [
            | inl h ↦ both_ways _ p.0
                (subst (λ (z : ℕ). contains c.loop-k.reached z ≡ true) first
                (i.onward.more (la k) h))
            | inr h ↦ both_ways _ p.1
                (subst (λ (z : ℕ). contains c.loop-k.reached z ≡ true) second
                (i.onward.more (lb k) h))
          ])
    ] in
    let e : SpreadsOn la lb begun g.vertices (contains c.loop-k.reached) c.loop-k.steps now
    c.cross.new.steps =
    subst (λ (n : ℕ). SpreadsOn la lb begun n (contains c.loop-k.reached) c.loop-k.steps now
    c.cross.new.steps) i.size
    (c.cross.ensures.onward la lb begun (i.fewer k found.member) (inl (first, second))) in
    let onward = SpreadsOn-twice la lb begun begun g.vertices old c.args.steps.now
    (contains c.loop-k.reached) c.loop-k.steps now c.cross.new.steps (λ z h. h) i.onward e in
    let lifted : (j : ℕ) → begun j ≡ true → left j ≡ false → IsReachedBoth now (la j) (lb j) =
    λ j on out. let p = i.done j on out in (e.more (la j) p.0, e.more (lb j) p.1) in
    let across : (j : ℕ) → j < k + 1
    → begun j ≡ true
    → (old (la j) ≡ true) ⊎ (old (lb j) ≡ true)
    → IsReachedBoth now (la j) (lb j) = λ j l on some. elim (cases_eq j k) [
      | inl at ↦ subst (λ (z : ℕ). IsReachedBoth now (la z) (lb z)) (sym at)
          (both (crossed (subst (λ (z : ℕ). (old (la z) ≡ true) ⊎ (old (lb z) ≡ true)) at some)))
      | inr d ↦ elim (cases_lt j c.loop-k.next) [
        | inl lt ↦ let p = i.across j lt on some in (e.more (la j) p.0, e.more (lb j) p.1)
        | inr ge ↦ elim (cases_Bool (left j)) [
          | inl h ↦ absurd (let least : k ≤ j = found.least j ge h in omega arith)
          | inr out ↦ lifted j on out
        ]
      ]
    ] in
    elim c.if-cross.branch [
      | then-cross w ↦
          let is : contains c.if-cross.left ≡ minus left k =
          ap (λ (s : FinSet nat_cmp). contains s) w.left-is
          ∙ without_point c.loop-k.left w.take.new.self k w.take.ensures in
          record {
            size = omega arith;
            next = omega arith;
            onward = onward;
            fewer = λ z h. i.fewer z
                (minus_parts left k z (subst (λ (s : ℕ → Bool). s z ≡ true) is h)).0;
            done = λ j on out. elim (cases_eq k j) [
              | inl at ↦
                  subst (λ (z : ℕ). IsReachedBoth now (la z) (lb z)) at (both w.if-cross.true)
              | inr d ↦ lifted j on
                  (false_from_ne_true _ (λ h. both_ways _ out
                  (subst (λ (s : ℕ → Bool). s j ≡ true) (sym is) (minus_from left k j h d))))
            ];
            across = across;
          }
      | else-cross w ↦
          let is : contains c.if-cross.left ≡ left =
          ap (λ (s : FinSet nat_cmp). contains s) w.left-is in
          record {
            size = omega arith;
            next = omega arith;
            onward = onward;
            fewer = λ z h. i.fewer z (subst (λ (s : ℕ → Bool). s z ≡ true) is h);
            done = λ j on out. lifted j on (subst (λ (s : ℕ → Bool). s j ≡ false) is out);
            across = across;
          }
    ]

pub returns-clause-swept : goal.returns-clause-swept
returns-clause-swept c =
    let i = c.loop-k.invariant in
    record {
      fewer = i.fewer;
      done = i.done;
      across = λ k on some. elim (cases_lt k c.loop-k.next) [
        | inl lt ↦ i.across k lt on some
        | inr ge ↦ i.done k on (c.in_default.ensures.none k ge)
      ];
    }
