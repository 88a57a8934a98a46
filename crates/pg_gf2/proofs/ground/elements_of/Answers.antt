use Rattle.std.proofs.Common.{◌≡◌, ℕ, Bool, not, arith, ap, ◌∙◌, sym, refl, length}
use Rattle.pg_gf2.proofs.Common.{FinSet, contains, nat_cmp, plus, below, either, below_none}
use Rattle.pg_gf2.proofs.Common.{below_in, below_out, emptied, with_point, of_either, free_with_e}
use Rattle.pg_gf2.proofs.ground.elements_of.Goals as goal
use Rattle.pg_gf2.proofs.ground.elements_of.Goals.{then-not-has, else-not-has}

pub loop-k-init : goal.loop-k-init
loop-k-init c = below_none _ (contains c.empty-elements.result) 0 refl
    (emptied c.empty-elements.result c.empty-elements.ensures)

pub loop-k-preserved : goal.loop-k-preserved
loop-k-preserved c =
    let k = c.loop-k.k in
    let x = contains c.args.g.now.x in
    let y = contains c.args.g.now.y in
    let marked =
    of_either c.args.g.now.x c.args.g.now.y c.union-marked.result c.union-marked.ensures.union in
    let at : c.has.result ≡ either x y k = c.has.ensures ∙ ap (λ (s : ℕ → Bool). s k) marked in
    let fit : ℕ → Bool = λ f. not (either x y f) in
    elim c.if-not-has.branch [
      | then-not-has w ↦ ap (λ (s : FinSet nat_cmp). contains s) w.elements-is
          ∙ (with_point c.loop-k.elements w.put.new.self k w.put.ensures
          ∙ (ap (λ (s : ℕ → Bool). plus s k) c.loop-k.invariant
          ∙ below_in fit k (ap not (sym at ∙ w.if-not-has.true))))
      | else-not-has w ↦ ap (λ (s : FinSet nat_cmp). contains s) w.elements-is
          ∙ (c.loop-k.invariant ∙ below_out fit k (ap not (sym at ∙ w.if-not-has.false)))
    ]

pub returns : goal.returns
unfolding free_with_e
returns c =
    let fit : ℕ → Bool = λ f. not (either (contains c.args.g.now.x) (contains c.args.g.now.y) f) in
    let n = length c.args.g.now.vectors in
    let count : length c.as_slice.result.now ≡ n = ap length c.as_slice.ensures in
    let last : c.loop-k.k ≡ n = omega arith in
    with_point c.loop-k.elements c.put-2.new.self (length c.as_slice.result.now) c.put-2.ensures
    ∙ (ap (λ (s : ℕ → Bool). plus s (length c.as_slice.result.now))
    (c.loop-k.invariant ∙ ap (below fit) last)
    ∙ ap (plus (below fit n)) count)
