use Rattle.std.proofs.Common.{◌-◌, length, ap, ◌∙◌}
use Rattle.pg_undo.specs.Trail.{back_to}
use Rattle.pg_undo.proofs.Undoing.{taken-is}
use Rattle.pg_undo.proofs.trail.Trail.take_back.Goals as goal

pub returns : goal.returns
returns c = taken-is c.self.inside.cells.items c.self.inside.entries.items c.pop.new.self.items
    c.self.inside.room c.in-Some.i c.in-Some.value c.in-Some.ensures.items c.self.invariant.0
    ∙ ap (λ t. back_to (length t.entries - 1) t) c.self.view_is
