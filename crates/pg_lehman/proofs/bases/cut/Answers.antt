use Rattle.std.proofs.Common.{◌≡◌, ℕ, Bool, ap, subst, sym, ◌∙◌}
use Rattle.pg_lehman.proofs.Common.{both_ways, false_from_ne_true, contains, outside, both_parts}
use Rattle.pg_lehman.proofs.Common.{IsBase, IsReached, Matroid, IsSettled, of_outside}
use Rattle.pg_lehman.proofs.bases.cut.Goals as goal

pub returns-clause-taken : goal.returns-clause-taken
returns-clause-taken g c =
    let s = c.double.new.bases in
    let m = g.G.Ground.matroid c.args.bases.now.first in
    let b = g.G.Ground.base s.first in
    let d = g.G.Ground.base s.second in
    let r = contains c.reached-near.result in
    let kept = c.double.ensures.kept in
    let on = both_parts b d c.args.e c.double.ensures.common in
    let reached : IsReached m.spans m.elements b d r =
    subst (λ (q : Matroid). IsReached q.spans q.elements b d r) kept
    (c.reached-near.ensures.reached
    (subst (λ (q : Matroid). IsSettled q b d) (sym kept) c.double.ensures.settled)) in
    let far : contains c.without-far.result ≡ outside m.elements r = of_outside c.elements.result
    c.reached-near.result c.without-far.result c.without-far.ensures.difference
    ∙ ap (λ (k : ℕ → Bool). outside k r) (c.elements.ensures
    ∙ ap (λ (q : Matroid). q.elements) (c.reached-near.ensures.kept.first ∙ kept)) in
    let one : contains c.base.result ≡ d =
    c.base.ensures ∙ c.reached-near.ensures.kept_bases.second in
    let two : contains c.base-2.result ≡ b =
    c.base-2.ensures ∙ c.reached-near.ensures.kept_bases.first in
    record {
      b = b;
      c = d;
      r = r;
      bases = record {
        first_base = subst (λ (q : Matroid). IsBase q.spans q.elements b) kept
            (g.met.G.Ground.is_base s.first);
        second_base = subst (λ (q : Matroid). IsBase q.spans q.elements d) (sym s.same ∙ kept)
            (g.met.G.Ground.is_base s.second);
        reached = reached;
      };
      e_unreached = false_from_ne_true _ (λ k. both_ways _ (reached.apart c.args.e k on.0) on.1);
      e_first = on.0;
      e_second = on.1;
      first = of_outside c.without-far.result c.base.result c.without.result
          c.without.ensures.difference
          ∙ (ap (λ (k : ℕ → Bool). outside k (contains c.base.result)) far
          ∙ ap (λ (k : ℕ → Bool). outside (outside m.elements r) k) one);
      second = of_outside c.without-far.result c.base-2.result c.without-2.result
          c.without-2.ensures.difference
          ∙ (ap (λ (k : ℕ → Bool). outside k (contains c.base-2.result)) far
          ∙ ap (λ (k : ℕ → Bool). outside (outside m.elements r) k) two);
    }
