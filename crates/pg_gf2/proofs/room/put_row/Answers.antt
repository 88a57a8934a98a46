use Rattle.std.proofs.Common.{◌<◌, refl, arith}
use Rattle.pg_gf2.proofs.Common.{w128, bit_at-trailing_zeros}
use Rattle.pg_gf2.proofs.room.put_row.Goals as goal

pub returns-clause-row : goal.returns-clause-row
returns-clause-row c =
    let some : 0 < c.args.value = omega (arith, c.requires.some) in
    record {
      row = _;
      last = c.in-Ok.ensures.items;
      value_is = refl;
      members_are = c.empty.ensures;
      set = (bit_at-trailing_zeros w128 c.args.value some c.ranges.value.fits).1;
    }
