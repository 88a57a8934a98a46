use Rattle.std.proofs.Common.{◌≡◌, ◌+◌, ◌-◌, length, arith, ap, ◌∙◌}
use Rattle.pg_undo.specs.Trail.{settled}
use Rattle.pg_undo.proofs.trail.Trail.settle.Goals as goal

pub returns : goal.returns
unfolding settled
returns c =
    let few = c.self.invariant.0 in
    let empty = ap length c.clear.ensures.items in
    let spare : c.self.inside.room - length c.clear.new.self.items
    ≡ c.self.inside.room - length c.self.inside.entries.items + length c.self.inside.entries.items =
    omega arith in
    (λ i. record {
      cells = c.self.inside.cells.items;
      entries = c.clear.ensures.items i;
      spare = spare i;
    })
    ∙ ap settled c.self.view_is
