use Rattle.std.proofs.Common.{◌∙◌, List, ℕ, Err, length, ap, ap₂, sym, subst, arith}
use Rattle.pg_sessions.proofs.Common.{start, IsLegalPlay, few-standing, legal-standing, record_of}
use Rattle.pg_record.proofs.Allowed.{read-allowed}
use Rattle.pg_sessions.proofs.Opened.{moves_bad}
use Rattle.pg_sessions.specs.Review.{record_fault}
use Rattle.pg_sessions.proofs.opening.read_moves.Goals as goal

pub returns-in_ok-standing_moves-in-Ok-clause-legal :
    goal.returns-in_ok-standing_moves-in-Ok-clause-legal
returns-in_ok-standing_moves-in-Ok-clause-legal c =
    let game = c.args.game.now in
    let events = c.in-Ok.session.events in
    subst (λ (moves : List ℕ). IsLegalPlay game (start game) moves)
    (sym c.in_ok-standing_moves-in-Ok.ensures)
    (legal-standing game events (read-allowed game c.args.text.now events c.in-Ok.ensures.read))

pub returns-in_ok-standing_moves-in-Ok-clause-few :
    goal.returns-in_ok-standing_moves-in-Ok-clause-few
returns-in_ok-standing_moves-in-Ok-clause-few c =
    let events = c.in-Ok.session.events in
    let few = (read-allowed c.args.game.now c.args.text.now events c.in-Ok.ensures.read).few in
    omega (arith, few, few-standing events, ap length c.in_ok-standing_moves-in-Ok.ensures)

pub returns-in-Err-Bad-clause-read : goal.returns-in-Err-Bad-clause-read
returns-in-Err-Bad-clause-read c =
    let bad = rw c.in-Err-Bad.field-0-is at c.in-Err-Bad.ensures.read in
    moves_bad (record_of c.args.game.now c.args.text.now) c.in-Err-Bad.number c.in-Err-Bad.line bad
    ∙ ap₂ (λ (number line : ℕ). Err (record_fault number line)) (sym c.in-Err-Bad.number-is)
    (sym c.in-Err-Bad.line-is)
