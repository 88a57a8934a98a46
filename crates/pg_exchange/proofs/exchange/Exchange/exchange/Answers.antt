use Rattle.std.proofs.Common.{◌≡◌, ◌+◌, ◌-◌, ℕ, true, false, arith, ap, ◌∙◌, sym, subst, suc, refl}
use Rattle.pg_exchange.proofs.Common.{IsBase, circuit, contains}
use Rattle.pg_exchange.specs.Chain.{SomeShift, up_of, second_of}
use Rattle.pg_exchange.proofs.TreeLemmas.{SomeShift-begin, link_first, link_second, SomeShift-first}
use Rattle.pg_exchange.proofs.TreeLemmas.{SomeShift-second, IsNearest-shift, shift_ends}
use Rattle.pg_exchange.proofs.exchange.Exchange.exchange.Goals as goal
use Rattle.pg_exchange.proofs.exchange.Exchange.exchange.Goals.{then-parent, else-parent}

pub loop-i-init : goal.loop-i-init
loop-i-init g c = record {
  kept = record { first = refl; second = refl };
  shift = SomeShift-begin _ _ _ _ _ _ _ c.requires.tree;
}

pub has-requires : goal.has-requires
has-requires g c =
    let s = c.loop-i.invariant.shift in
    g.met.G.Ground.small c.args.self.now.first c.loop-i.at (s.only c.loop-i.at s.sees)

pub swap-requires-clause-element : goal.swap-requires-clause-element
swap-requires-clause-element g c =
    let i = c.loop-i.invariant in
    let k = link_second _ _ _ _ _ _ _ _ _ _ _ i.shift
    (cc (c.has.ensures, c.if-has.false)) c.if-parent.true in
    subst (λ q. q.elements (up_of c.args.parents.now c.loop-i.at) ≡ true)
    (sym (i.kept.second ∙ sym c.args.self.now.same)) k.0

pub swap-requires-clause-outside : goal.swap-requires-clause-outside
swap-requires-clause-outside g c =
    let k = link_second _ _ _ _ _ _ _ _ _ _ _ c.loop-i.invariant.shift
    (cc (c.has.ensures, c.if-has.false)) c.if-parent.true in
    k.1

pub swap-requires-clause-exchanges : goal.swap-requires-clause-exchanges
swap-requires-clause-exchanges g c =
    let i = c.loop-i.invariant in
    let k = link_second _ _ _ _ _ _ _ _ _ _ _ i.shift
    (cc (c.has.ensures, c.if-has.false)) c.if-parent.true in
    subst
    (λ q. circuit q.spans (g.G.Ground.base c.loop-i.self.second)
    (up_of c.args.parents.now c.loop-i.at) c.loop-i.at ≡ true)
    (sym (i.kept.second ∙ sym c.args.self.now.same)) k.2

pub swap-requires-else-parent-clause-element : goal.swap-requires-else-parent-clause-element
swap-requires-else-parent-clause-element g c =
    let i = c.loop-i.invariant in
    let k = link_first _ _ _ _ _ _ _ _ _ _ _ i.shift
    (cc (c.has.ensures, c.if-has.false)) c.if-parent.false in
    subst (λ q. q.elements (up_of c.args.parents.now c.loop-i.at) ≡ true) (sym i.kept.first) k.0

pub swap-requires-else-parent-clause-outside : goal.swap-requires-else-parent-clause-outside
swap-requires-else-parent-clause-outside g c =
    let k = link_first _ _ _ _ _ _ _ _ _ _ _ c.loop-i.invariant.shift
    (cc (c.has.ensures, c.if-has.false)) c.if-parent.false in
    k.1

pub swap-requires-else-parent-clause-exchanges :
    goal.swap-requires-else-parent-clause-exchanges
swap-requires-else-parent-clause-exchanges g c =
    let i = c.loop-i.invariant in
    let k = link_first _ _ _ _ _ _ _ _ _ _ _ i.shift
    (cc (c.has.ensures, c.if-has.false)) c.if-parent.false in
    subst
    (λ q. circuit q.spans (g.G.Ground.base c.loop-i.self.first)
    (up_of c.args.parents.now c.loop-i.at) c.loop-i.at ≡ true) (sym i.kept.first) k.2

pub loop-i-preserved : goal.loop-i-preserved
loop-i-preserved g c =
    let i = c.loop-i.invariant in
    let m = g.G.Ground.matroid c.args.self.now.first in
    let b = g.G.Ground.base c.args.self.now.first in
    let d = g.G.Ground.base c.args.self.now.second in
    let b2 = g.G.Ground.base c.loop-i.self.first in
    let d2 = g.G.Ground.base c.loop-i.self.second in
    let from = contains c.args.from.now in
    let up = up_of c.args.parents.now in
    let tests = second_of c.args.parents.now in
    let left : ℕ = 1024 - (c.loop-i._i + 1) in
    let e : 1024 - c.loop-i._i ≡ suc left = omega arith in
    let s = subst (λ n. SomeShift m b d b2 d2 from up tests c.args.y c.loop-i.at n) e i.shift in
    let fa : from c.loop-i.at ≡ false = cc (c.has.ensures, c.if-has.false) in
    elim c.if-parent.branch [
      | then-parent w ↦
          let same : g.G.Ground.matroid c.loop-i.self.second ≡ m =
          i.kept.second ∙ sym c.args.self.now.same in
          let new = SomeShift-second m b d b2 d2 from up tests c.args.y c.loop-i.at left
          (g.met.G.Ground.spanning c.args.self.now.first)
          (g.met.G.Ground.small c.args.self.now.first)
          (subst (λ q. IsBase q.spans q.elements d2) same
          (g.met.G.Ground.is_base c.loop-i.self.second)) fa w.if-parent.true s in
          record {
            kept = record {
              first = ap (λ q. g.G.Ground.matroid q.first) w.self-is ∙ i.kept.first;
              second = ap (λ q. g.G.Ground.matroid q.second) w.self-is
                  ∙ (w.swap.ensures.kept ∙ i.kept.second);
            };
            shift = subst (λ q. SomeShift m b d (g.G.Ground.base q.first) (g.G.Ground.base q.second)
                from up tests c.args.y (up c.loop-i.at) left) (sym w.self-is)
                (subst (λ q. SomeShift m b d b2 q from up tests c.args.y (up c.loop-i.at) left)
                (sym w.swap.ensures.exchanged) new);
          }
      | else-parent w ↦
          let new = SomeShift-first m b d b2 d2 from up tests c.args.y c.loop-i.at left
          (g.met.G.Ground.spanning c.args.self.now.first)
          (g.met.G.Ground.small c.args.self.now.first)
          (subst (λ q. IsBase q.spans q.elements b2) i.kept.first
          (g.met.G.Ground.is_base c.loop-i.self.first)) fa w.if-parent.false s in
          record {
            kept = record {
              first = ap (λ q. g.G.Ground.matroid q.first) w.self-is
                  ∙ (w.swap-else-parent.ensures.kept ∙ i.kept.first);
              second = ap (λ q. g.G.Ground.matroid q.second) w.self-is ∙ i.kept.second;
            };
            shift = subst (λ q. SomeShift m b d (g.G.Ground.base q.first) (g.G.Ground.base q.second)
                from up tests c.args.y (up c.loop-i.at) left) (sym w.self-is)
                (subst (λ q. SomeShift m b d q d2 from up tests c.args.y (up c.loop-i.at) left)
                (sym w.swap-else-parent.ensures.exchanged) new);
          }
    ]

pub returns-clause-begins : goal.returns-clause-begins
returns-clause-begins g c = shift_ends _ _ _ _ _ _ _ _ _ _ _ (omega arith)
    (g.met.G.Ground.small c.args.self.now.first) c.loop-i.invariant.shift

pub returns-clause-nearest : goal.returns-clause-nearest
returns-clause-nearest g c =
    let i = c.loop-i.invariant in
    IsNearest-shift _ _ _ _ _ _ _ _ _ _ _
    (shift_ends _ _ _ _ _ _ _ _ _ _ _ (omega arith)
    (g.met.G.Ground.small c.args.self.now.first) i.shift) i.shift
