use Rattle.pg_sessions.proofs.Common.{err_from_is_err_and, IsLackingOne}
use Rattle.pg_sessions.proofs.Opened.{causes_more, halts_game, lacks_record, left-of-names}
use Rattle.pg_sessions.proofs.Opened.{runs_record}
use Rattle.pg_sessions.specs.Along.{IsAlong, IsReached}
use Rattle.pg_sessions.specs.Review.{IsReviewLacking, moves_held}
use Rattle.pg_sessions.proofs.command.review.Goals as goal

pub returns-in_err-game-clause-ran : goal.returns-in_err-game-clause-ran
returns-in_err-game-clause-ran g c =
    let p = err_from_is_err_and c.from_residual.result c.from_residual.ensures.1 in
    rw (p.1, p.2)
    (halts_game c.args.game.now c.args.record.now c.args.positions c.args.work.now
    (g.F.Files.told c.args.files.now) (g.F.Files.told c.open_game.new.files) c.in_err-game.field-0.0
    c.open_game.ensures.kept.held c.in_err-game.ensures.opened
    (g.C.Console.told c.args.console.now))

pub returns-clause-ran : goal.returns-clause-ran
returns-clause-ran g c =
    runs_record c.args.game.now c.args.record.now c.args.positions c.review_record.new.work
    (g.F.Files.told c.args.files.now) (g.F.Files.told c.review_record.new.files) c.in_ok-game.game
    (g.F.Files.told c.open_game.new.files) c.open_game.ensures.kept.held c.in_ok-game.ensures.opened
    (g.C.Console.told c.args.console.now) (g.C.Console.told c.review_record.new.console)
    c.review_record.result c.review_record.ensures.ran

pub returns-clause-causes : goal.returns-clause-causes
returns-clause-causes g c =
    let files = g.F.Files.told c.args.files.now in
    let mid = g.F.Files.told c.open_game.new.files in
    let game = c.in_ok-game.game in
    causes_more (IsLackingOne (moves_held game) mid.held c.args.record.now)
    (IsReviewLacking files.held c.args.game.now c.args.record.now) files mid
    (g.F.Files.told c.review_record.new.files) (g.C.Console.told c.args.console.now)
    (g.C.Console.told c.review_record.new.console) c.review_record.result
    (lacks_record c.args.game.now c.args.record.now c.args.positions c.args.work.now files mid game
    mid c.open_game.ensures.kept.held c.in_ok-game.ensures.opened) c.in_ok-game.ensures.causes
    c.review_record.ensures.causes

pub returns-clause-work : goal.returns-clause-work
returns-clause-work g c = left-of-names IsAlong c.args.positions c.args.work.now
    c.review_record.new.work c.in_ok-game.game (g.F.Files.told c.args.files.now).held
    (g.F.Files.told c.open_game.new.files).held c.args.game.now c.args.record.now
    c.open_game.ensures.kept.held c.in_ok-game.ensures.opened c.review_record.ensures.work

pub returns-clause-prompt : goal.returns-clause-prompt
returns-clause-prompt g c = left-of-names
    (IsReached (g.C.Console.told c.args.console.now) (g.C.Console.told c.review_record.new.console))
    c.args.positions c.args.work.now c.review_record.new.work c.in_ok-game.game
    (g.F.Files.told c.args.files.now).held
    (g.F.Files.told c.open_game.new.files).held c.args.game.now c.args.record.now
    c.open_game.ensures.kept.held c.in_ok-game.ensures.opened c.review_record.ensures.prompt
