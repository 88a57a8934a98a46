use Rattle.std.proofs.Common.{◌≡◌, ◌+◌, ℕ, Bool, true, false, List, suc, arith, sym, ap, ◌∙◌, subst}
use Rattle.std.proofs.Common.{inl, inr}
use Rattle.std.specs.FinSet.{union}
use Rattle.std.specs.Ordering.{nat_cmp}
use Rattle.pg_graph.proofs.Common.{both_ways, FinSet, contains, plus, either, either_cases}
use Rattle.pg_graph.proofs.Common.{contains-insert_plus, contains-union_either, true_from_ne_false}
use Rattle.pg_graph.specs.Graph.{edge_count, first_end_of, second_end_of, spans_in}
use Rattle.pg_graph.specs.Joiner.{extended}
use Rattle.pg_graph.specs.Labels.{IsLabelling}
use Rattle.pg_graph.proofs.GraphLemmas.{unspanned-from, unspanned-apart}
use Rattle.pg_graph.proofs.Growing.{plus_either, extended-begin, extended-in, extended-out}
use Rattle.pg_graph.proofs.StepLemmas.{IsLabelling-joined, IsLabelling-idle, ends_two}
use Rattle.pg_graph.proofs.joins.extended.Goals as goal
use Rattle.pg_graph.proofs.joins.extended.Goals.{then-has+then-union, then-has+else-union, else-has}

-- the union as a test
begun_is : (s t u : FinSet nat_cmp)
    → u ≡ union s t
    → contains u ≡ either (contains s) (contains t)
begun_is s t u e = ap (λ (w : FinSet nat_cmp). contains w) e ∙ contains-union_either s t

pub label-requires-clause-set : goal.label-requires-clause-set
label-requires-clause-set c z h =
    let is = begun_is c.args.set.now c.args.base.now c.union-begun.result
    c.union-begun.ensures.union in
    elim (either_cases (contains c.args.set.now) (contains c.args.base.now) z
    (subst (λ (s : ℕ → Bool). s z ≡ true) is h)) [
      | inl k ↦ c.requires.sets.first_range z k
      | inr k ↦ c.requires.sets.second_range z k
    ]

pub loop-k-init : goal.loop-k-init
loop-k-init c =
    let g = c.args.g.now in
    record {
      labelled = subst
          (λ (s : ℕ → Bool). IsLabelling (first_end_of g) (second_end_of g) s c.label.new.parents)
          (begun_is c.args.set.now c.args.base.now c.union-begun.result
          c.union-begun.ensures.union) c.label.ensures;
      value = extended-begin g (contains c.args.set.now) (contains c.args.candidates.now)
          (contains c.args.base.now);
    }

pub loop-k-preserved : goal.loop-k-preserved
loop-k-preserved c =
    let g = c.args.g.now in
    let a = first_end_of g in
    let b = second_end_of g in
    let set = contains c.args.set.now in
    let base = contains c.args.base.now in
    let candidates = contains c.args.candidates.now in
    let k = c.loop-k.k in
    let i = c.loop-k.invariant in
    let there = contains c.loop-k.there in
    let parents = c.loop-k.parents in
    elim c.if-has.branch [
      | then-has+then-union w ↦
          let on : candidates k ≡ true = cc in
          let two = ends_two g (either set there) k parents w.ends_of-a.result w.union.result
          c.requires.graph (omega arith) (omega arith) w.ends_of-a.ensures.ends i.labelled
          w.union.ensures.two in
          let apart : spans_in g (either set there) k ≡ false =
          unspanned-from g (either set there) k (two.0 w.if-union.true) in
          let now : contains c.if-has.there ≡ plus there k =
          ap (λ (s : FinSet nat_cmp). contains s) (w.there-is ∙ w.put.ensures)
          ∙ contains-insert_plus c.loop-k.there k in
          record {
            labelled = subst (λ (new : List ℕ). IsLabelling a b
                (either set (contains c.if-has.there)) new) (sym w.parents-is)
                (subst (λ (s : ℕ → Bool). IsLabelling a b s w.union.new.parents)
                (plus_either set there k ∙ ap (λ (s : ℕ → Bool). either set s) (sym now))
                (IsLabelling-joined g (either set there) k parents w.union.new.parents
                w.ends_of-a.result c.requires.graph (omega arith) (omega arith) (omega arith)
                w.ends_of-a.ensures.ends w.union.ensures.upward w.union.ensures.merged
                i.labelled));
            value = now ∙ (ap (λ (s : ℕ → Bool). plus s k) i.value
                ∙ extended-in g set candidates base k (k + 1) (omega arith) on
                (subst (λ (s : ℕ → Bool). spans_in g (either set s) k ≡ false) i.value apart));
          }
      | then-has+else-union w ↦
          let idle = IsLabelling-idle g (either set there) k parents w.union.new.parents
          w.ends_of-a.result w.union.result c.requires.graph (omega arith) (omega arith)
          (omega arith) w.ends_of-a.ensures.ends w.union.ensures.upward w.union.ensures.merged
          w.union.ensures.two w.if-union.false i.labelled in
          let spanned : spans_in g (either set there) k ≡ true = true_from_ne_false _
          (λ out. unspanned-apart g (either set there) k out idle.0) in
          let now : contains c.if-has.there ≡ there =
          ap (λ (s : FinSet nat_cmp). contains s) w.there-is in
          record {
            labelled = subst (λ (new : List ℕ). IsLabelling a b
                (either set (contains c.if-has.there)) new) (sym w.parents-is)
                (subst (λ (s : ℕ → Bool). IsLabelling a b (either set s) w.union.new.parents)
                (sym now) idle.1);
            value = now ∙ (i.value ∙ extended-out g set candidates base k (k + 1) (omega arith)
                (λ _. subst (λ (s : ℕ → Bool). spans_in g (either set s) k ≡ true) i.value
                spanned));
          }
      | else-has w ↦
          let absent : candidates k ≡ false = cc in
          let now : contains c.if-has.there ≡ there =
          ap (λ (s : FinSet nat_cmp). contains s) w.there-is in
          record {
            labelled = subst (λ (new : List ℕ). IsLabelling a b
                (either set (contains c.if-has.there)) new) (sym w.parents-is)
                (subst (λ (s : ℕ → Bool). IsLabelling a b (either set s) parents) (sym now)
                i.labelled);
            value = now ∙ (i.value ∙ extended-out g set candidates base k (k + 1) (omega arith)
                (λ on. absurd (both_ways _ absent on)));
          }
    ]

pub returns : goal.returns
returns c =
    let g = c.args.g.now in
    let last : c.loop-k.k ≡ suc (edge_count g) = omega arith in
    subst (λ (n : ℕ). contains c.loop-k.there ≡ extended g (contains c.args.set.now)
    (contains c.args.candidates.now) (contains c.args.base.now) n) last c.loop-k.invariant.value
