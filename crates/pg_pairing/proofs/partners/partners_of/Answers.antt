use Rattle.std.proofs.Common.{refl}
use Rattle.pg_pairing.proofs.Common.{get_or-replicate, MAX_MEMBERS}
use Rattle.pg_pairing.proofs.PartnerSteps.{paired-none, paired-more, partners-end}
use Rattle.pg_pairing.proofs.partners.partners_of.Goals as goal

pub loop-s-init : goal.loop-s-init
loop-s-init c = paired-none _ c.args.pairs.now refl (λ v lt. get_or-replicate MAX_MEMBERS v 0 0 lt)

pub loop-s-preserved : goal.loop-s-preserved
loop-s-preserved c = paired-more c.loop-s.partners c.args.pairs.now c.loop-s.s-index c.from.result
    c.from-in-loop-s.result (record {
      a = 0;
      b = 0;
    }) c.loop-s-test.true c.from.ensures c.from-in-loop-s.ensures c.requires.range
    c.requires.different c.requires.disjoint c.loop-s.invariant

pub returns-clause-partners : goal.returns-clause-partners
returns-clause-partners c = partners-end c.loop-s.partners c.args.pairs.now c.loop-s.s-index
    c.loop-s-test.false c.requires.different c.loop-s.invariant
