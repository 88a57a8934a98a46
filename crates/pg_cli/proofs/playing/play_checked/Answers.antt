use Rattle.std.proofs.Common.{Err, ap}
use Rattle.pg_player.specs.declared.player.OpenFault.{OpenFault}
use Rattle.pg_cli.proofs.Plays.{play_halts, play_unclaimed, plays_opened}
use Rattle.pg_cli.proofs.playing.play_checked.Goals as goal

pub returns-in-Err-NoClaim-clause-played : goal.returns-in-Err-NoClaim-clause-played
returns-in-Err-NoClaim-clause-played g c e stands =
    play_unclaimed c.args.side c.args.checked.game.now e c.args.checked.cert.now
    (g.C.Console.told c.args.console.now) stands c.requires
    (c.in-Err-NoClaim.ensures.none (ap (λ (f : OpenFault). Err f) c.in-Err-NoClaim.field-0-is))

pub returns-in-Ok-clause-played : goal.returns-in-Ok-clause-played
returns-in-Ok-clause-played g c e stands =
    let opened = c.in-Ok.ensures in
    plays_opened c.args.side c.args.checked.game.now e c.args.checked.cert.now
    (g.C.Console.told c.args.console.now)
    (g.C.Console.told c.play_claim.new.console) c.in-Ok.player c.play_claim.result stands c.requires
    opened.chosen opened.game opened.position c.play_claim.ensures.played

pub returns-in-Ok-clause-halts : goal.returns-in-Ok-clause-halts
returns-in-Ok-clause-halts g c = play_halts c.play_claim.result c.play_claim.ensures.halts
