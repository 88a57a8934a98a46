use Rattle.std.proofs.Common.{Some, Ok, Err, subst}
use Rattle.pg_drawing.proofs.Common.{Bytes, FileError, game_fault}
use Rattle.pg_drawing.specs.Boards.{IsBoardRead, any_held}
use Rattle.pg_drawing.proofs.Openings.{opens_board}
use Rattle.pg_drawing.proofs.opening.open_board.Goals as goal

pub returns-in-Ok-clause-opened : goal.returns-in-Ok-clause-opened
returns-in-Ok-clause-opened g c = opens_board (g.F.Files.told c.args.files.now).held c.args.name.now
    c.in_ok-text.text.items (Ok c.in-Ok.board) c.in_ok-text.ensures.bytes
    (subst (λ (t : Bytes). IsBoardRead (Ok c.in-Ok.board) (any_held (Some t)))
    c.deref.ensures.value c.in-Ok.ensures)

pub returns-in-Err-Bad-clause-opened : goal.returns-in-Err-Bad-clause-opened
returns-in-Err-Bad-clause-opened g c =
    let text = c.in_ok-text.text.items in
    let bad =
    subst (λ (f : FileError). IsBoardRead (Err f) (any_held (Some text))) c.in-Err-Bad.field-0-is
    (subst (λ (t : Bytes). IsBoardRead (Err c.in-Err-Bad.field-0) (any_held (Some t)))
    c.deref.ensures.value c.in-Err-Bad.ensures) in
    opens_board (g.F.Files.told c.args.files.now).held c.args.name.now text
    (Err (game_fault c.in-Err-Bad.number c.in-Err-Bad.line)) c.in_ok-text.ensures.bytes bad
