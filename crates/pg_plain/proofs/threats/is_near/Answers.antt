use Rattle.std.proofs.Common.{◌<◌, arith, sym, ◌∙◌}
use Rattle.pg_plain.proofs.NearLines.{on-small}
use Rattle.pg_plain.proofs.threats.is_near.Goals as goal

pub is_free-requires : goal.is_free-requires
is_free-requires c =
    let small : c.args.u < 256 =
    on-small c.args.line.now c.args.u c.requires (sym c.is_on.ensures ∙ c.if-not-is_on.false) in
    omega arith
