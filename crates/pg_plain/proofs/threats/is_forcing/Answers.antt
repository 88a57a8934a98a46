use Rattle.std.proofs.Common.{arith, sym, ◌∙◌}
use Rattle.pg_plain.proofs.NearLines.{threatens-small}
use Rattle.pg_plain.proofs.threats.is_forcing.Goals as goal

pub returns-then-not-has_filled-clause-few : goal.returns-then-not-has_filled-clause-few
returns-then-not-has_filled-clause-few c = λ on.
    let small = threatens-small c.args.g.now c.after-after.result c.args.side c.args.u
    (sym c.threatens.ensures ∙ on) in
    (c.is_attack.ensures.few c.if-not-is_attack.false, omega (arith, small))
