use Rattle.std.proofs.Common.{ℕ, Bool, ap, subst, sym, ◌∙◌}
use Rattle.pg_lehman.proofs.Common.{contains, both, IsBase, IsReached, Matroid, IsSettled}
use Rattle.pg_lehman.proofs.bases.short.Goals as goal

pub returns-clause-taken : goal.returns-clause-taken
returns-clause-taken g c =
    let s = c.free.new.bases in
    let m = g.G.Ground.matroid c.args.bases.now.first in
    let b = g.G.Ground.base s.first in
    let d = g.G.Ground.base s.second in
    let r = contains c.reached-near.result in
    let kept = c.free.ensures.kept in
    let reached : IsReached m.spans m.elements b d r =
    subst (λ (q : Matroid). IsReached q.spans q.elements b d r) kept
    (c.reached-near.ensures.reached
    (subst (λ (q : Matroid). IsSettled q b d) (sym kept) c.free.ensures.settled)) in
    record {
      b = b;
      c = d;
      r = r;
      bases = record {
        first_base = subst (λ (q : Matroid). IsBase q.spans q.elements b) kept
            (g.met.G.Ground.is_base s.first);
        second_base = subst (λ (q : Matroid). IsBase q.spans q.elements d) (sym s.same ∙ kept)
            (g.met.G.Ground.is_base s.second);
        reached = reached;
      };
      e_reached =
          reached.begins c.args.e c.requires.element c.free.ensures.first c.free.ensures.second;
      e_first = c.free.ensures.first;
      e_second = c.free.ensures.second;
      first = c.common_points.ensures
          ∙ ap (λ (k : ℕ → Bool). both k r)
          (c.base.ensures ∙ c.reached-near.ensures.kept_bases.first);
      second = c.common_points-2.ensures
          ∙ ap (λ (k : ℕ → Bool). both k r)
          (c.base-2.ensures ∙ c.reached-near.ensures.kept_bases.second);
    }
