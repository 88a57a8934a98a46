use Rattle.std.proofs.Common.{◌∙◌, ap, sym, Ok, Err}
use Rattle.pg_families.proofs.Common.{number_of, span_game, span_entry, game_fault, read_ok}
use Rattle.pg_families.proofs.Openings.{bad_opened, opens_span}
use Rattle.pg_families.proofs.opening.open_span.Goals as goal

pub returns-in-Ok-clause-opened : goal.returns-in-Ok-clause-opened
returns-in-Ok-clause-opened g c = opens_span (g.F.Files.told c.args.files.now).held c.args.name.now
    c.in_ok-text.text.items (Ok c.in-Ok.game) c.in_ok-text.ensures.bytes
    (read_ok _ _ _ (ap span_game (sym c.deref.ensures.value) ∙ c.in-Ok.ensures))

pub returns-in-Err-Bad-clause-opened : goal.returns-in-Err-Bad-clause-opened
returns-in-Err-Bad-clause-opened g c =
    opens_span (g.F.Files.told c.args.files.now).held c.args.name.now c.in_ok-text.text.items
    (Err (game_fault c.in-Err-Bad.number c.in-Err-Bad.line)) c.in_ok-text.ensures.bytes
    (bad_opened number_of game_fault span_entry span_game c.in-Err-Bad.field-0 c.in-Err-Bad.number
    c.in-Err-Bad.line _ c.in_ok-text.text.items c.deref.ensures.value c.in-Err-Bad.field-0-is
    c.in-Err-Bad.ensures)
