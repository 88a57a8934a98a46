use Rattle.std.proofs.Common.{arith}
use Rattle.std.proofs.Math.Nat.{pow-le-pow_right}
use Rattle.pg_potential.proofs.masks.weight_with.Goals as goal

pub power-requires-clause-few : goal.power-requires-clause-few
power-requires-clause-few c = omega (arith, c.saturating_sub.ensures, c.requires.few)

pub power-requires-clause-fits : goal.power-requires-clause-fits
power-requires-clause-fits c =
    let le = pow-le-pow_right {n = c.args.base} c.requires.some {i = c.saturating_sub.result}
    {j = c.args.longest} (omega (arith, c.saturating_sub.ensures)) in
    omega (arith, le, c.requires.fits)
