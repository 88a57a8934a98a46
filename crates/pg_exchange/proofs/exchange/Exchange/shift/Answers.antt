use Rattle.pg_exchange.proofs.Common.{both_ways, false_from_ne_true, either, outside, minus}
use Rattle.pg_exchange.proofs.Common.{IsWithin, contains, both_parts, both_from, outside_parts}
use Rattle.pg_exchange.proofs.Common.{outside_from, either_left}
use Rattle.pg_exchange.proofs.Tests.{emptied}
use Rattle.std.proofs.Common.{◌≡◌, ℕ, Bool, true, false, ap, ◌∙◌, sym, refl, subst, arith, inl, inr}
use Rattle.pg_exchange.specs.Chain.{links, IsNoted, IsNearest, IsSearch, IsMoved, SomeTree, up_of}
use Rattle.pg_exchange.specs.Chain.{second_of}
use Rattle.pg_exchange.proofs.SearchSteps.{either-none, either-moved, IsSearch-begin, IsSearch-next}
use Rattle.pg_exchange.proofs.SearchSteps.{IsSearch-fewer, Leads-seen}
use Rattle.pg_exchange.proofs.TreeLemmas.{IsTree-begin}
use Rattle.pg_exchange.proofs.SearchLemmas.{IsTree-next, done_cases, noted_new, noted_seen}
use Rattle.pg_exchange.proofs.LevelLemmas.{IsLevelled-begin, IsLevelled-follow, level-near}
use Rattle.pg_exchange.proofs.LevelLemmas.{IsShortest-level}
use Rattle.pg_exchange.proofs.exchange.Exchange.shift.Goals as goal

pub loop-f-init : goal.loop-f-init
loop-f-init g c = record {
  parents_size = refl;
  search = subst (λ (k : ℕ → Bool). IsSearch (g.G.Ground.matroid c.args.self.now.first)
      (g.G.Ground.base c.args.self.now.first) (g.G.Ground.base c.args.self.now.second)
      (contains c.args.from.now) (contains c.args.from.now) k)
      (either-none (contains c.args.from.now) (contains c.empty-later.result)
      (emptied c.empty-later.result c.empty-later.ensures)) (IsSearch-begin _ _ _ _ c.requires);
  tree = IsTree-begin _ _ _ _ _ _ _ (λ z. false_from_ne_true _ (λ h.
      let p = outside_parts (contains c.args.from.now)
      (either (contains c.args.from.now) (contains c.empty-later.result)) z h in
      both_ways _ p.1 (either_left _ _ z p.0)));
  levels = IsLevelled-begin _ _ _ _ _ (contains c.args.from.now) (contains c.empty-later.result) _
      (emptied c.empty-later.result c.empty-later.ensures);
  missed = λ z h.
      let p = outside_parts (contains c.args.from.now)
      (either (contains c.args.from.now) (contains c.empty-later.result)) z h in
      absurd (both_ways _ p.1 (either_left _ _ z p.0));
  kept = record { first = refl; second = refl };
  kept_bases = record { first = refl; second = refl };
}

pub exchange-x-requires-clause-tree : goal.exchange-x-requires-clause-tree
exchange-x-requires-clause-tree g c =
    let i = c.loop-f.invariant in
    let seen = contains c.loop-f.seen in
    let y = c.in-Some-first_shared.y in
    let hit = both_parts seen (contains c.args.to.now) y c.in-Some-first_shared.ensures.found in
    let t : SomeTree (g.G.Ground.matroid c.args.self.now.first)
    (g.G.Ground.base c.args.self.now.first) (g.G.Ground.base c.args.self.now.second)
    (contains c.args.from.now) (up_of c.loop-f.parents) (second_of c.loop-f.parents) y = record {
      seen = seen;
      done = outside seen (either (contains c.loop-f.level) (contains c.loop-f.later));
      known = λ z h. (outside_parts _ _ z h).0;
      only = i.search.only;
      sees = hit.0;
      tree = i.tree;
      depth = i.levels.depth;
      begun = i.levels.begun;
      deeper = i.levels.deeper;
      near = level-near (g.G.Ground.matroid c.args.self.now.first)
          (g.G.Ground.base c.args.self.now.first) (g.G.Ground.base c.args.self.now.second)
          (contains c.args.from.now) (contains c.args.to.now) seen (contains c.loop-f.level)
          (contains c.loop-f.later) (up_of c.loop-f.parents) i.levels y hit.0;
    } in
    subst
    (λ q. SomeTree q (g.G.Ground.base c.loop-f.self.first) (g.G.Ground.base c.loop-f.self.second)
    (contains c.args.from.now) (up_of c.loop-f.parents) (second_of c.loop-f.parents) y)
    (sym i.kept.first)
    (subst (λ q. SomeTree (g.G.Ground.matroid c.args.self.now.first) q
    (g.G.Ground.base c.loop-f.self.second) (contains c.args.from.now) (up_of c.loop-f.parents)
    (second_of c.loop-f.parents) y) (sym i.kept_bases.first)
    (subst (λ q. SomeTree (g.G.Ground.matroid c.args.self.now.first)
    (g.G.Ground.base c.args.self.now.first) q (contains c.args.from.now) (up_of c.loop-f.parents)
    (second_of c.loop-f.parents) y) (sym i.kept_bases.second) t))

pub loop-f-preserved : goal.loop-f-preserved
loop-f-preserved g c =
    let i = c.loop-f.invariant in
    let m = g.G.Ground.matroid c.args.self.now.first in
    let b = g.G.Ground.base c.args.self.now.first in
    let d = g.G.Ground.base c.args.self.now.second in
    let f = c.in-Some.f in
    let seen = contains c.loop-f.seen in
    let todo = either (contains c.loop-f.level) (contains c.loop-f.later) in
    let level = contains c.take_next.new.level in
    let rest = contains c.take_next.new.later in
    let todo2 = either level (contains c.explore-in-Some.new.todo) in
    let es : contains c.explore-in-Some.new.seen
    ≡ either (either seen (links m b f)) (links m d f) = cc in
    let fresh = outside (links m b f) seen in
    let fresh2 = outside (links m d f) (either seen (links m b f)) in
    let later : contains c.explore-in-Some.new.todo ≡ either (either rest fresh) fresh2 = cc in
    let et : todo2 ≡ either (either (minus todo f) fresh) fresh2 =
    ap (λ (k : ℕ → Bool). either level k) later
    ∙ (either-moved level rest fresh fresh2
    ∙ ap (λ (k : ℕ → Bool). either (either k fresh) fresh2) c.in-Some.ensures.taken) in
    let e1 : links (g.G.Ground.matroid c.loop-f.self.first) (g.G.Ground.base c.loop-f.self.first) f
    ≡ links m b f = cc in
    let e2 : links (g.G.Ground.matroid c.loop-f.self.second)
    (g.G.Ground.base c.loop-f.self.second) f ≡ links m d f = cc in
    let e3 : contains c.explore.new.seen ≡ either seen (links m b f) = cc in
    let one : IsNoted (outside (links m b f) seen) f false c.loop-f.parents c.explore.new.parents =
    subst (λ (k : ℕ → Bool). IsNoted (outside k seen) f false c.loop-f.parents
    c.explore.new.parents) e1 c.explore.ensures.noted in
    let two : IsNoted (outside (links m d f) (either seen (links m b f))) f true
    c.explore.new.parents c.explore-in-Some.new.parents =
    subst (λ (k : ℕ → Bool). IsNoted (outside (links m d f) k) f true c.explore.new.parents
    c.explore-in-Some.new.parents) e3
    (subst (λ (k : ℕ → Bool). IsNoted (outside k (contains c.explore.new.seen)) f true
    c.explore.new.parents c.explore-in-Some.new.parents) e2 c.explore-in-Some.ensures.noted) in
    record {
      parents_size = omega arith;
      search = IsSearch-next m b d (contains c.args.from.now) seen todo
          (contains c.explore-in-Some.new.seen) todo2 f
          (g.met.G.Ground.is_base c.args.self.now.first).within
          (subst (λ k. IsWithin d k.elements) (sym c.args.self.now.same)
          (g.met.G.Ground.is_base c.args.self.now.second).within) i.search c.in-Some.ensures.found
          es et;
      tree = IsTree-next m b d (contains c.args.from.now) seen todo
          (contains c.explore-in-Some.new.seen) todo2 (up_of c.loop-f.parents)
          (up_of c.explore.new.parents) (up_of c.explore-in-Some.new.parents)
          (second_of c.loop-f.parents) (second_of c.explore.new.parents)
          (second_of c.explore-in-Some.new.parents) f i.search c.in-Some.ensures.found es et
          (noted_new _ _ _ _ _ _ one) (noted_seen _ _ _ _ _ _ one) (noted_new _ _ _ _ _ _ two)
          (noted_seen _ _ _ _ _ _ two) i.tree;
      levels = IsLevelled-follow m b d (contains c.args.from.now) (contains c.args.to.now) seen
          (contains c.loop-f.level) (contains c.loop-f.later) (up_of c.loop-f.parents) i.levels
          i.search (contains c.explore-in-Some.new.seen) level rest
          (contains c.explore-in-Some.new.todo) (up_of c.explore.new.parents)
          (up_of c.explore-in-Some.new.parents) f c.in-Some.ensures.levels
          (i.search.waiting f c.in-Some.ensures.found)
          (λ z k. false_from_ne_true _ (λ h.
          both_ways _ (c.in_default-first_shared.ensures.none z) (both_from _ _ z k h)))
          (λ z k o. (outside_parts _ _ _ (i.tree.parent z k o).0).0) es later
          (λ z h n. (noted_new _ _ _ _ _ _ one z h n).0) (λ z h. (noted_seen _ _ _ _ _ _ one z h).0)
          (λ z h n. (noted_new _ _ _ _ _ _ two z h n).0)
          (λ z h. (noted_seen _ _ _ _ _ _ two z h).0);
      missed = λ z h. elim (done_cases m b d seen todo
          (contains c.explore-in-Some.new.seen) todo2 f es et z h) [
            | inl k ↦ i.missed z k
            | inr e ↦ subst (λ k. contains c.args.to.now k ≡ false) e
                (false_from_ne_true _ (λ h.
                both_ways _ (c.in_default-first_shared.ensures.none f)
                (both_from _ _ f (i.search.waiting f c.in-Some.ensures.found) h)))
          ];
      kept = record { first = cc; second = cc };
      kept_bases = record { first = cc; second = cc };
    }

pub loop-f-smaller : goal.loop-f-smaller
loop-f-smaller g c =
    let i = c.loop-f.invariant in
    let m = g.G.Ground.matroid c.args.self.now.first in
    let b = g.G.Ground.base c.args.self.now.first in
    let d = g.G.Ground.base c.args.self.now.second in
    let f = c.in-Some.f in
    let seen = contains c.loop-f.seen in
    let todo = either (contains c.loop-f.level) (contains c.loop-f.later) in
    let level = contains c.take_next.new.level in
    let rest = contains c.take_next.new.later in
    let todo2 = either level (contains c.explore-in-Some.new.todo) in
    let es : contains c.explore-in-Some.new.seen
    ≡ either (either seen (links m b f)) (links m d f) = cc in
    let fresh = outside (links m b f) seen in
    let fresh2 = outside (links m d f) (either seen (links m b f)) in
    let later : contains c.explore-in-Some.new.todo ≡ either (either rest fresh) fresh2 = cc in
    let et : todo2 ≡ either (either (minus todo f) fresh) fresh2 =
    ap (λ (k : ℕ → Bool). either level k) later
    ∙ (either-moved level rest fresh fresh2
    ∙ ap (λ (k : ℕ → Bool). either (either k fresh) fresh2) c.in-Some.ensures.taken) in
    IsSearch-fewer m b d (contains c.args.from.now) seen todo (contains c.explore-in-Some.new.seen)
    todo2 f 1024 (g.met.G.Ground.small c.args.self.now.first) i.search c.in-Some.ensures.found es et

pub returns-clause-none : goal.returns-clause-none
returns-clause-none g c =
    let i = c.loop-f.invariant in
    record {
      none = λ y r. i.missed y
          (outside_from _ _ y
          (Leads-seen _ _ _ _ _ _ i.search c.in_default.ensures.none r.chain
          (i.search.begun r.start r.starts)) (c.in_default.ensures.none y));
      closed = record {
        seen = contains c.loop-f.seen;
        begun = i.search.begun;
        only = i.search.only;
        followed = λ f h. i.search.followed f h (c.in_default.ensures.none f);
        missed = λ f h. i.missed f (outside_from _ _ f h (c.in_default.ensures.none f));
      };
      unchanged = i.kept_bases;
    }

pub returns-in-Some-first_shared-clause-some : goal.returns-in-Some-first_shared-clause-some
returns-in-Some-first_shared-clause-some g c =
    let i = c.loop-f.invariant in
    let m = g.G.Ground.matroid c.args.self.now.first in
    let b = g.G.Ground.base c.args.self.now.first in
    let d = g.G.Ground.base c.args.self.now.second in
    let b2 = g.G.Ground.base c.exchange-x.new.self.first in
    let d2 = g.G.Ground.base c.exchange-x.new.self.second in
    let from = contains c.args.from.now in
    let x = c.exchange-x.result in
    let y = c.in-Some-first_shared.y in
    let hit = both_parts (contains c.loop-f.seen) (contains c.args.to.now) y
    c.in-Some-first_shared.ensures.found in
    let near : IsNearest m b d from x y = subst (λ q. IsNearest q b d from x y) i.kept.first (subst
    (λ q. IsNearest (g.G.Ground.matroid c.loop-f.self.first) q d from x y) i.kept_bases.first (subst
    (λ q. IsNearest (g.G.Ground.matroid c.loop-f.self.first) (g.G.Ground.base c.loop-f.self.first) q
    from x y) i.kept_bases.second c.exchange-x.ensures.nearest)) in
    record {
      begins = c.exchange-x.ensures.begins;
      ends = hit.1;
      moved = subst (λ (k : ℕ → Bool). IsMoved k d b2 d2 x y) i.kept_bases.first
          (subst (λ (k : ℕ → Bool). IsMoved (g.G.Ground.base c.loop-f.self.first) k b2 d2 x y)
          i.kept_bases.second c.exchange-x.ensures.members);
      leads = i.search.reached y hit.0;
      shortest = IsShortest-level m b d from (contains c.args.to.now) (contains c.loop-f.seen)
          (contains c.loop-f.level) (contains c.loop-f.later) (up_of c.loop-f.parents) i.levels x y
          hit.0 hit.1 near;
    }
