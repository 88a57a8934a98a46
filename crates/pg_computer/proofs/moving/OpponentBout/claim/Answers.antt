use Rattle.std.proofs.Common.{◌∙◌, subst, sym}
use Rattle.pg_computer.proofs.Common.{Game, IsMadeForGame}
use Rattle.pg_computer.specs.Points.{IsReady}
use Rattle.pg_computer.proofs.Parts.{after_turn, points_played}
use Rattle.pg_computer.proofs.Standing.{room}
use Rattle.pg_computer.proofs.moving.OpponentBout.claim.Goals as goal

pub play-requires : goal.play-requires
play-requires g c =
    let old = c.args.self.now.table.session in
    room old.game old.events c.requires.shown.1

pub returns-clause-after : goal.returns-clause-after
returns-clause-after g c =
    let table = c.args.self.now.table in
    let new = c.play.new.self in
    after_turn (IsReady (record table { session = new }) c.args.self.now.budget) c.claimed.result (
      (
        c.requires.shown.0.0 ∙ sym c.play.ensures.game,
        subst (λ (k : Game). IsMadeForGame table.judge k) (sym c.play.ensures.game)
            c.requires.shown.0.1,
      ),
      points_played table.session new c.args.point c.play.result c.play.ensures.result
          c.play.ensures.events c.play.ensures.game c.requires.shown.1,
      c.requires.shown.2,
    )
