use Rattle.std.proofs.Common.{◌∙◌, sym, arith}
use Rattle.pg_cert_files.proofs.PairWords.{clash_met, met_none, met_more}
use Rattle.pg_cert_files.proofs.shortening.behind_clash.Goals as goal

pub loop-pair-init : goal.loop-pair-init
loop-pair-init c = grind (arith, met_none)

pub loop-pair-preserved : goal.loop-pair-preserved
loop-pair-preserved c = grind (arith, met_more)

pub returns-then-has_either : goal.returns-then-has_either
returns-then-has_either c = clash_met c.args.text.now c.loop-pair.rest.now c.in-Some.others.now
    c.loop-pair.points c.in-Some.pair c.loop-pair.invariant c.in-Some.ensures.says
    (sym c.has_either.ensures ∙ c.if-has_either.true)
