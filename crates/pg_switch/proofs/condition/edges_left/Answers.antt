use Rattle.std.proofs.Common.{ℕ, Bool, not, ◌∙◌, sym, ap, refl}
use Rattle.pg_switch.proofs.Common.{FinSet, contains, contains-empty, empty, nat_cmp, plus}
use Rattle.pg_switch.proofs.Common.{below_none, below_in, below_out, contains-insert_plus}
use Rattle.pg_switch.proofs.condition.edges_left.Goals.{then-not-has, else-not-has}
use Rattle.pg_switch.proofs.condition.edges_left.Goals as goal

pub loop-k-init : goal.loop-k-init
loop-k-init c = ap (λ (s : FinSet nat_cmp). contains s) c.empty-left.ensures
    ∙ below_none (λ f. not (contains c.args.set.now f)) (contains empty) 0 refl
    (contains-empty nat_cmp)

pub loop-k-preserved : goal.loop-k-preserved
loop-k-preserved c =
    let out : ℕ → Bool = λ f. not (contains c.args.set.now f) in
    let k = c.loop-k.k in
    elim c.if-not-has.branch [
      | then-not-has w ↦ ap (λ (s : FinSet nat_cmp). contains s) (w.left-is ∙ w.put.ensures)
          ∙ contains-insert_plus c.loop-k.left k
          ∙ ap (λ (a : ℕ → Bool). plus a k) c.loop-k.invariant
          ∙ below_in out k (sym (ap not c.has.ensures) ∙ ap not w.if-not-has.true)
      | else-not-has w ↦ ap (λ (s : FinSet nat_cmp). contains s) w.left-is
          ∙ c.loop-k.invariant
          ∙ below_out out k (sym (ap not c.has.ensures) ∙ ap not w.if-not-has.false)
    ]
