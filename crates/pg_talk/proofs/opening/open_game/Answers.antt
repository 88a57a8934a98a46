use Rattle.std.proofs.Common.{◌∙◌, ap, sym, subst, Ok, Err}
use Rattle.pg_talk.proofs.Common.{Bytes, game, IsReadAs, entry, number_of, FileError}
use Rattle.pg_talk.proofs.GameOpenings.{opens_game}
use Rattle.pg_talk.proofs.Openings.{read_ok, read_bad}
use Rattle.pg_talk.specs.Reading.{game_fault}
use Rattle.pg_talk.proofs.opening.open_game.Goals as goal

pub returns-in-Ok-clause-opened : goal.returns-in-Ok-clause-opened
returns-in-Ok-clause-opened g c = opens_game (g.F.Files.told c.args.files.now).held c.args.name.now
    c.in_ok-text.text.items (Ok c.in-Ok.game) c.in_ok-text.ensures.bytes
    (read_ok _ _ _ (ap game (sym c.deref.ensures.value) ∙ c.in-Ok.ensures))

pub returns-in-Err-Bad-clause-opened : goal.returns-in-Err-Bad-clause-opened
returns-in-Err-Bad-clause-opened g c =
    let number = c.in-Err-Bad.number in
    let line = c.in-Err-Bad.line in
    let text = c.in_ok-text.text.items in
    let bad = subst (λ (f : FileError). IsReadAs entry (Err f) (game text)) c.in-Err-Bad.field-0-is
    (subst (λ (t : Bytes). IsReadAs entry (Err c.in-Err-Bad.field-0) (game t)) c.deref.ensures.value
    c.in-Err-Bad.ensures) in
    opens_game (g.F.Files.told c.args.files.now).held c.args.name.now text
    (Err (game_fault number line)) c.in_ok-text.ensures.bytes
    (read_bad number_of game_fault (game text) number line bad)
