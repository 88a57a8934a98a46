use Rattle.std.proofs.Common.{◌≡◌, ◌∷◌, length, arith, ap}
use Rattle.pg_plan.proofs.Common.{lines, lines_few}
use Rattle.pg_plan.proofs.reading.read_plan.Goals as goal

pub read_places-requires : goal.read_places-requires
read_places-requires c =
    let rest : c.of-lines.result ≡ c.in-Some.first.now ∷ c.next.new.self =
    c.in-Some.ensures.steps in
    let whole : c.of-lines.result ≡ lines c.args.bytes.now = c.of-lines.ensures in
    omega (
      arith,
      ap length rest,
      ap length whole,
      lines_few c.args.bytes.now,
      c.if-bytes-gt-MAX_PLAN_BYTES.false,
    )
