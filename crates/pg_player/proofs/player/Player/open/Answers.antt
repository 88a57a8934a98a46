use Rattle.std.proofs.Common.{refl, sym}
use Rattle.pg_game.specs.Game.{start}
use Rattle.pg_player.specs.Stand.{standing_of}
use Rattle.pg_player.proofs.Opening.{chosen-is, sound-chosen, some_node, on-root, Settles-root}
use Rattle.pg_player.proofs.Going.{IsPlaying-next}
use Rattle.pg_game.specs.Value.{rules_of}
use Rattle.pg_switch.proofs.Seats.{reached-start}
use Rattle.pg_player.proofs.player.Player.open.Goals as goal

pub root-requires-clause-some : goal.root-requires-clause-some
root-requires-clause-some c =
    let g = c.args.c.game.now in
    let claim = c.in-Some.claim.now in
    let is = chosen-is g c.args.c.cert.now c.args.side claim (sym c.in-Some.ensures) in
    some_node g claim
    (sound-chosen g c.args.c.cert.now c.args.side claim c.args.c.limits c.args.c.valid is)

pub root-requires-clause-settles : goal.root-requires-clause-settles
root-requires-clause-settles c =
    let g = c.args.c.game.now in
    let claim = c.in-Some.claim.now in
    let is = chosen-is g c.args.c.cert.now c.args.side claim (sym c.in-Some.ensures) in
    Settles-root g claim
    (sound-chosen g c.args.c.cert.now c.args.side claim c.args.c.limits c.args.c.valid is)
    is.turn_is

pub invariant_of-result : goal.invariant_of-result
invariant_of-result c =
    let g = c.args.c.game.now in
    let claim = c.in-Some.claim.now in
    let is = chosen-is g c.args.c.cert.now c.args.side claim (sym c.in-Some.ensures) in
    let sound =
    sound-chosen g c.args.c.cert.now c.args.side claim c.args.c.limits c.args.c.valid is in
    let s = standing_of claim.nodes c.root.result in
    IsPlaying-next g claim (start g) c.start-position.result s c.over-ending.result c.in-Ok.judge
    c.over-ending.new.self c.in-Ok-joiner_for.joiner c.in-Ok-joiner_for.joiner
    (on-root g claim s sound is.turn_is c.root.ensures)
    (reached-start (rules_of g) (start g)) c.start-position.ensures c.over-ending.ensures.result
    c.in-Ok.ensures.made c.over-ending.ensures.kept c.in-Ok-joiner_for.ensures.joined refl

pub returns-clause-side : goal.returns-clause-side
returns-clause-side c =
    (chosen-is c.args.c.game.now c.args.c.cert.now c.args.side c.in-Some.claim.now
    (sym c.in-Some.ensures)).side_is
