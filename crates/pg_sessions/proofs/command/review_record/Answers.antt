use Rattle.std.proofs.Common.{Global, List, Vec, ℕ, subst}
use Rattle.pg_sessions.proofs.Common.{err_from_is_err_and, Performs, LeavesSearch}
use Rattle.pg_sessions.proofs.Opened.{halts_moves, left-of-moves, runs_moves}
use Rattle.pg_sessions.specs.Along.{IsAlong, IsReached}
use Rattle.pg_sessions.specs.Review.{ReviewsMoves}
use Rattle.pg_sessions.proofs.command.review_record.Goals as goal

pub returns-in_err-moves-clause-ran : goal.returns-in_err-moves-clause-ran
returns-in_err-moves-clause-ran g c =
    let p = err_from_is_err_and c.from_residual.result c.from_residual.ensures.1 in
    rw (p.1, p.2)
    (halts_moves (λ (moves : Vec ℕ Global). moves.items) c.args.game.now c.args.record.now
    c.args.positions c.args.work.now (g.F.Files.told c.args.files.now)
    (g.F.Files.told c.open_moves.new.files) c.open_moves.ensures.kept.held c.in_err-moves.field-0.0
    c.in_err-moves.ensures.opened (g.C.Console.told c.args.console.now))

pub returns-clause-ran : goal.returns-clause-ran
returns-clause-ran g c =
    let game = c.args.game.now in
    runs_moves (λ (moves : Vec ℕ Global). moves.items) game c.args.record.now c.args.positions
    c.review_moves.new.work (g.F.Files.told c.args.files.now)
    (g.F.Files.told c.open_moves.new.files) c.open_moves.ensures.kept.held c.in_ok-moves.moves
    c.in_ok-moves.ensures.opened (g.C.Console.told c.args.console.now)
    (g.C.Console.told c.review_moves.new.console) c.review_moves.result (subst (λ (moves : List ℕ).
    Performs (λ _. ⊥) (ReviewsMoves game moves c.args.positions c.review_moves.new.work)
    (g.C.Console.told c.args.console.now) (g.C.Console.told c.review_moves.new.console)
    c.review_moves.result) c.as_slice.ensures.value c.review_moves.ensures.reviewed)

pub returns-clause-work : goal.returns-clause-work
returns-clause-work g c =
    let game = c.args.game.now in
    left-of-moves IsAlong c.args.positions c.args.work.now c.review_moves.new.work
    (λ (moves : Vec ℕ Global). moves.items) game (g.F.Files.told c.args.files.now).held
    c.args.record.now c.in_ok-moves.moves c.in_ok-moves.ensures.opened
    (subst (λ (moves : List ℕ). LeavesSearch (IsAlong game moves) c.args.positions c.args.work.now
    c.review_moves.new.work) c.as_slice.ensures.value c.review_moves.ensures.work)

pub returns-clause-prompt : goal.returns-clause-prompt
returns-clause-prompt g c =
    let game = c.args.game.now in
    let reached =
    IsReached (g.C.Console.told c.args.console.now) (g.C.Console.told c.review_moves.new.console) in
    left-of-moves reached c.args.positions c.args.work.now c.review_moves.new.work
    (λ (moves : Vec ℕ Global). moves.items) game (g.F.Files.told c.args.files.now).held
    c.args.record.now c.in_ok-moves.moves c.in_ok-moves.ensures.opened
    (subst (λ (moves : List ℕ). LeavesSearch (reached game moves) c.args.positions c.args.work.now
    c.review_moves.new.work) c.as_slice.ensures.value c.review_moves.ensures.prompt)
