use Rattle.std.proofs.Common.{◌≡◌, ◌<◌, length, get_or, arith, ap, ◌∙◌}
use Rattle.std.proofs.lemmas.List.{get_or_read}
use Rattle.pg_undo.specs.Trail.{with_set}
use Rattle.pg_undo.proofs.Undoing.{set-is}
use Rattle.pg_undo.proofs.trail.Trail.set.Goals as goal

pub returns : goal.returns
returns c =
    let within : c.args.i < length c.self.inside.cells.items =
    omega (arith, c.requires.within, ap (λ t. length t.cells) c.self.view_is) in
    let read : c.index.result.now ≡ get_or c.self.inside.cells.items c.args.i 0 =
    get_or_read c.self.inside.cells.items c.args.i c.index.result.now within c.index.ensures 0 in
    set-is c.self.inside.cells.items c.self.inside.entries.items c.push.new.self.items
    c.self.inside.room c.args.i c.args.v c.index.result.now c.in-Ok.ensures.items read
    ∙ ap (λ t. with_set t c.args.i c.args.v) c.self.view_is
