use Rattle.std.proofs.Common.{◌<◌, refl, arith, ap, ◌∙◌}
use Rattle.std.proofs.lemmas.List.{get_or_default}
use Rattle.pg_exchange.proofs.Common.{FinSet, nat_cmp, contains, either, empty}
use Rattle.pg_exchange.proofs.Tests.{emptied, of_either}
use Rattle.pg_exchange.proofs.StarLemmas.{IsGathered-begin, IsGathered-next, IsGathered-end}
use Rattle.pg_exchange.proofs.stars.gather.Goals as goal

pub loop-p-init : goal.loop-p-init
loop-p-init c = record {
  next = omega arith;
  gathered = IsGathered-begin c.args.stars.now (contains c.args.labels.now)
      (contains c.empty-all.result) 0 refl (emptied c.empty-all.result c.empty-all.ensures);
}

pub loop-p-preserved : goal.loop-p-preserved
loop-p-preserved c =
    let found = c.in-Some.ensures.found in
    let range : c.in-Some.p < 1024 = c.in-Some.ensures.range in
    record {
      next = omega arith;
      gathered = IsGathered-next c.args.stars.now (contains c.args.labels.now)
          (contains c.loop-p.all) (contains c.union-all.result) c.loop-p.next c.in-Some.p
          found.member found.above found.least
          (of_either c.loop-p.all _ c.union-all.result c.union-all.ensures.union
          ∙ ap (λ (s : FinSet nat_cmp). either (contains c.loop-p.all) (contains s))
          (c.index-stars-p.is
          ∙ get_or_default c.args.stars.now c.in-Some.p c.index-stars-p.result empty
          (c.requires c.in-Some.p found.member))) c.loop-p.invariant.gathered;
    }

pub returns : goal.returns
returns c = IsGathered-end c.args.stars.now (contains c.args.labels.now) (contains c.loop-p.all)
    c.loop-p.next c.in_default.ensures.none c.loop-p.invariant.gathered
