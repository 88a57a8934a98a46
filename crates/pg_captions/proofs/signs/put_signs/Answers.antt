use Rattle.std.proofs.Common.{◌∙◌}
use Rattle.pg_family_files.proofs.Printed.{signs_next, signs_over}
use Rattle.pg_captions.proofs.signs.put_signs.Goals as goal

pub loop-row-preserved : goal.loop-row-preserved
loop-row-preserved c = signs_next _ _ _ c.args.rows c.loop-row._row c.loop-row.rest
    c.loop-row-test.true c.in_ok-push_str.ensures.bytes c.lowest_sign.ensures
    ∙ c.loop-row.invariant

pub returns : goal.returns
returns c = signs_over _ c.args.rows c.loop-row._row c.loop-row.rest c.loop-row-test.false
    ∙ c.loop-row.invariant
