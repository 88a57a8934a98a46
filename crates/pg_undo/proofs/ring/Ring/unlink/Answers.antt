use Rattle.std.proofs.Common.{◌≡◌, ◌+◌, ◌<◌, ◌≤◌, ◌∷◌, ◌++◌, [], reverse, length}
use Rattle.std.proofs.Common.{arith, rules, ap, ◌∙◌}
use Rattle.std.proofs.lemmas.List.{reverse-append, length-reverse}
use Rattle.std.specs.Vec.{vec_len, vec_capacity}
use Rattle.pg_undo.specs.Ring.{present, without}
use Rattle.pg_undo.specs.Links.{history}
use Rattle.pg_undo.proofs.Linking.{unlinking, in_arrays}
use Rattle.pg_undo.proofs.Histories.{member-at, history-with}
use Rattle.pg_undo.proofs.ring.Ring.unlink.Goals as goal

pub index-before-requires : goal.index-before-requires
index-before-requires c =
    let out = reverse c.self.inside.unlinked.items in
    let at = member-at c.self.inside.end out c.args.self.now c.args.i c.self.view_is c.requires in
    let low : c.args.i < c.self.inside.end = at.0 in
    let place = in_arrays c.self.inside.end c.self.inside.next.items c.self.inside.previous.items
    out c.args.i c.self.invariant.0 (omega arith) in
    let len : vec_len c.self.inside.previous ≡ length c.self.inside.previous.items = search rules in
    omega (arith, place.previous_low)

pub index-after-requires : goal.index-after-requires
index-after-requires c =
    let out = reverse c.self.inside.unlinked.items in
    let at = member-at c.self.inside.end out c.args.self.now c.args.i c.self.view_is c.requires in
    let low : c.args.i < c.self.inside.end = at.0 in
    let place = in_arrays c.self.inside.end c.self.inside.next.items c.self.inside.previous.items
    out c.args.i c.self.invariant.0 (omega arith) in
    let len : vec_len c.self.inside.next ≡ length c.self.inside.next.items = search rules in
    omega (arith, place.next_low)

pub index_mut-requires : goal.index_mut-requires
index_mut-requires c =
    let out = reverse c.self.inside.unlinked.items in
    let at = unlinking c.self.inside.end c.self.inside.next.items c.self.inside.previous.items out
    c.args.self.now c.args.i c.index-before.result.now c.index-after.result.now c.self.invariant.0
    c.self.view_is c.requires c.index-before.ensures c.index-after.ensures in
    let low : c.index-before.result.now < c.self.inside.end + 1 = at.before_low in
    let place = in_arrays c.self.inside.end c.self.inside.next.items c.self.inside.previous.items
    out c.index-before.result.now c.self.invariant.0 (omega arith) in
    let len : vec_len c.self.inside.next ≡ length c.self.inside.next.items = search rules in
    omega (arith, place.next_low)

pub index_mut-requires-2 : goal.index_mut-requires-2
index_mut-requires-2 c =
    let out = reverse c.self.inside.unlinked.items in
    let at = unlinking c.self.inside.end c.self.inside.next.items c.self.inside.previous.items out
    c.args.self.now c.args.i c.index-before.result.now c.index-after.result.now c.self.invariant.0
    c.self.view_is c.requires c.index-before.ensures c.index-after.ensures in
    let low : c.index-after.result.now < c.self.inside.end + 1 = at.after_low in
    let place = in_arrays c.self.inside.end c.self.inside.next.items c.self.inside.previous.items
    out c.index-after.result.now c.self.invariant.0 (omega arith) in
    let len : vec_len c.self.inside.previous ≡ length c.self.inside.previous.items = search rules in
    omega (arith, place.previous_low)

pub unreachable-requires : goal.unreachable-requires
unreachable-requires c =
    let out = reverse c.self.inside.unlinked.items in
    let at = unlinking c.self.inside.end c.self.inside.next.items c.self.inside.previous.items out
    c.args.self.now c.args.i c.index-before.result.now c.index-after.result.now c.self.invariant.0
    c.self.view_is c.requires c.index-before.ensures c.index-after.ensures in
    let len : vec_len c.self.inside.unlinked ≡ length c.self.inside.unlinked.items = search rules in
    let same : length out ≡ length c.self.inside.unlinked.items =
    length-reverse c.self.inside.unlinked.items in
    let room : c.self.inside.end ≤ vec_capacity c.self.inside.unlinked = c.self.invariant.1 in
    let full : vec_capacity c.self.inside.unlinked ≤ vec_len c.self.inside.unlinked =
    c.in_default.ensures.full in
    omega (arith, at.room)

pub invariant_of-self : goal.invariant_of-self
invariant_of-self c =
    let out = reverse c.self.inside.unlinked.items in
    let at = unlinking c.self.inside.end c.self.inside.next.items c.self.inside.previous.items out
    c.args.self.now c.args.i c.index-before.result.now c.index-after.result.now c.self.invariant.0
    c.self.view_is c.requires c.index-before.ensures c.index-after.ensures in
    let room : c.self.inside.end ≤ vec_capacity c.self.inside.unlinked = c.self.invariant.1 in
    let now : reverse c.push.new.self.items ≡ c.args.i ∷ out = ap reverse c.in-Ok.ensures.items
    ∙ reverse-append c.self.inside.unlinked.items (c.args.i ∷ []) in
    (rw now at.links, omega (arith, c.push.ensures.capacity))

pub returns : goal.returns
returns c =
    let out = reverse c.self.inside.unlinked.items in
    let now : reverse c.push.new.self.items ≡ c.args.i ∷ out = ap reverse c.in-Ok.ensures.items
    ∙ reverse-append c.self.inside.unlinked.items (c.args.i ∷ []) in
    ap (history c.self.inside.end) now
    ∙ (history-with c.self.inside.end out c.args.i
    ∙ ap (λ lists. lists ++ without c.args.i (present lists) ∷ []) c.self.view_is)
