use Rattle.std.proofs.Common.{◌≡◌, reverse, length, arith, rules, ◌∙◌}
use Rattle.std.specs.Vec.{vec_len}
use Rattle.pg_undo.proofs.Linking.{in_arrays}
use Rattle.pg_undo.proofs.Walking.{first-is}
use Rattle.pg_undo.proofs.ring.Ring.first.Goals as goal

pub index-requires : goal.index-requires
index-requires c =
    let place = in_arrays c.self.inside.end c.self.inside.next.items c.self.inside.previous.items
    (reverse c.self.inside.unlinked.items) c.self.inside.end c.self.invariant.0 (omega arith) in
    let len : vec_len c.self.inside.next ≡ length c.self.inside.next.items = search rules in
    omega (arith, place.next_low)

pub returns : goal.returns
returns c = c.below.ensures
    ∙ first-is c.self.inside.end c.self.inside.next.items c.self.inside.previous.items
    (reverse c.self.inside.unlinked.items) c.args.self.now c.index.result.now c.self.invariant.0
    c.self.view_is c.index.ensures
