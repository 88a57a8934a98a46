use Rattle.std.proofs.Common.{refl, sym}
use Rattle.pg_span.specs.Plan.{plan_of}
use Rattle.pg_span.specs.Player.{span_start}
use Rattle.pg_span.proofs.Opening.{chosen-is, on-start}
use Rattle.pg_span.proofs.Keeping.{playing-next}
use Rattle.pg_span.proofs.player.SpanPlayer.open.Goals as goal

pub invariant_of-result : goal.invariant_of-result
invariant_of-result c =
    let g = c.args.c.game.now in
    let claim = c.in-Some.claim.now in
    let plan = plan_of claim.body c.trees_of.result in
    playing-next g claim.side (span_start g)
    (span_start g) plan c.ending-ending.result c.in-Ok.judge c.ending-ending.new.self
    (on-start g c.args.c.cert.now c.args.side claim plan c.args.c.valid
    (sym c.in-Some.ensures) c.trees_of.ensures) refl c.ending-ending.ensures.ending c.in-Ok.ensures
    c.ending-ending.ensures.kept

pub returns-clause-side : goal.returns-clause-side
returns-clause-side c =
    (chosen-is c.args.c.game.now c.args.c.cert.now c.args.side c.in-Some.claim.now
    (sym c.in-Some.ensures)).side_is
