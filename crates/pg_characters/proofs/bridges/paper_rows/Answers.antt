use Rattle.std.proofs.Common.{◌∙◌, arith, sym}
use Rattle.pg_gen.specs.declared.limits.TheConstants.{MAX_BRIDGE_ROWS}
use Rattle.pg_characters.specs.Bridges.{is_bridge, paper_rows}
use Rattle.pg_characters.proofs.Ranges.{first_found}
use Rattle.pg_characters.proofs.bridges.paper_rows.Goals as goal

pub returns-then-is_bridge-clause-rows : goal.returns-then-is_bridge-clause-rows
unfolding paper_rows
returns-then-is_bridge-clause-rows c =
    let some = c.loop-rows.auto.rows in
    let inside = c.loop-rows-test.true in
    sym (first_found (is_bridge c.args.graph.now) 1 MAX_BRIDGE_ROWS c.loop-rows.rows
    (omega (arith, some)) (omega (arith, inside)) c.loop-rows.invariant
    (sym c.is_bridge.ensures ∙ c.if-is_bridge.true))
