use Rattle.std.proofs.Common.{◌∙◌, List, ℕ, Err, ap₂, sym, subst}
use Rattle.pg_replaying.proofs.Common.{IsLegalPlay, record_of, start}
use Rattle.pg_record.proofs.Allowed.{read-allowed}
use Rattle.pg_record.proofs.Standing.{legal-standing}
use Rattle.pg_replaying.proofs.Opened.{moves_bad}
use Rattle.pg_replaying.specs.Records.{record_fault}
use Rattle.pg_replaying.proofs.moves.read_moves.Goals as goal

pub returns-in_ok-standing_moves-in-Ok-clause-legal :
    goal.returns-in_ok-standing_moves-in-Ok-clause-legal
returns-in_ok-standing_moves-in-Ok-clause-legal c =
    let game = c.args.game.now in
    let events = c.in-Ok.session.events in
    subst (λ (moves : List ℕ). IsLegalPlay game (start game) moves)
    (sym c.in_ok-standing_moves-in-Ok.ensures)
    (legal-standing game events (read-allowed game c.args.text.now events c.in-Ok.ensures.read))

pub returns-in-Err-Bad-clause-read : goal.returns-in-Err-Bad-clause-read
returns-in-Err-Bad-clause-read c =
    let bad = rw c.in-Err-Bad.field-0-is at c.in-Err-Bad.ensures.read in
    moves_bad (record_of c.args.game.now c.args.text.now) c.in-Err-Bad.number c.in-Err-Bad.line bad
    ∙ ap₂ (λ (number line : ℕ). Err (record_fault number line)) (sym c.in-Err-Bad.number-is)
    (sym c.in-Err-Bad.line-is)
