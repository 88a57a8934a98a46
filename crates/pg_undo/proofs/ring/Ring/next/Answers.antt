use Rattle.std.proofs.Common.{◌≡◌, ◌<◌, reverse, length, arith, rules, ◌∙◌}
use Rattle.std.specs.Vec.{vec_len}
use Rattle.pg_undo.proofs.Linking.{in_arrays}
use Rattle.pg_undo.proofs.Histories.{member-at}
use Rattle.pg_undo.proofs.Walking.{next-is}
use Rattle.pg_undo.proofs.ring.Ring.next.Goals as goal

pub index-requires : goal.index-requires
index-requires c =
    let at = member-at c.self.inside.end
    (reverse c.self.inside.unlinked.items) c.args.self.now c.args.i c.self.view_is c.requires in
    let low : c.args.i < c.self.inside.end = at.0 in
    let place = in_arrays c.self.inside.end c.self.inside.next.items c.self.inside.previous.items
    (reverse c.self.inside.unlinked.items) c.args.i c.self.invariant.0 (omega arith) in
    let len : vec_len c.self.inside.next ≡ length c.self.inside.next.items = search rules in
    omega (arith, place.next_low)

pub returns : goal.returns
returns c = c.below.ensures
    ∙ next-is c.self.inside.end c.self.inside.next.items c.self.inside.previous.items
    (reverse c.self.inside.unlinked.items) c.args.self.now c.args.i c.index.result.now
    c.self.invariant.0 c.self.view_is c.requires c.index.ensures
