use Rattle.std.proofs.Common.{◌≡◌, ◌∙◌, List, Err, Ok, Result, ap, subst, sym}
use Rattle.pg_text.specs.Faults.{IsReadAs}
use Rattle.pg_text.specs.declared.error.FileError.{FileError}
use Rattle.pg_laying.specs.Prelude.{Bytes, Spot, number_of}
unfoldable use Rattle.pg_laying.specs.Prelude.{layout_of}
use Rattle.pg_laying.specs.Laid.{layout_told}
use Rattle.pg_laying.specs.declared.no_layout.NoLayout.TheVariants.{Faulty}
use Rattle.pg_laying.proofs.Held.{spots_open, told_bad}
use Rattle.pg_laying.proofs.opening.open_spots.Goals as goal

pub returns-in-Ok-read_layout-clause-opened : goal.returns-in-Ok-read_layout-clause-opened
returns-in-Ok-read_layout-clause-opened g c =
    let held = (g.F.Files.told c.args.files.now).held in
    let points = c.args.points in
    spots_open points held c.args.name.now c.in-Ok.text.items (Ok c.in-Ok-read_layout.spots)
    c.in-Ok.ensures.bytes
    (ap layout_told (ap (layout_of points) (sym c.deref.ensures.value)
    ∙ c.in-Ok-read_layout.ensures.read))

pub returns-in-Err-Bad-clause-opened : goal.returns-in-Err-Bad-clause-opened
returns-in-Err-Bad-clause-opened g c =
    let held = (g.F.Files.told c.args.files.now).held in
    let points = c.args.points in
    let text = c.in-Ok.text.items in
    let bad = subst (λ (f : FileError). IsReadAs number_of (λ (s : List Spot). s) (Err f)
    (layout_of points text)) c.in-Err-Bad.field-0-is
    (subst (λ (t : Bytes). IsReadAs number_of (λ (s : List Spot). s) (Err c.in-Err-Bad.field-0)
    (layout_of points t)) c.deref.ensures.value c.in-Err-Bad.ensures.read) in
    spots_open points held c.args.name.now text (Err (Faulty c.in-Err-Bad.number c.in-Err-Bad.line))
    c.in-Ok.ensures.bytes
    (told_bad (layout_of points text) c.in-Err-Bad.number c.in-Err-Bad.line bad)
