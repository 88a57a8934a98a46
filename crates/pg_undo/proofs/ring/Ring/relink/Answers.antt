use Rattle.std.proofs.Common.{◌≡◌, ◌+◌, ◌<◌, ◌≤◌, ◌∷◌, ◌++◌, [], reverse, length, arith}
use Rattle.std.proofs.Common.{rules, sym, ap, ◌∙◌}
use Rattle.std.proofs.lemmas.List.{reverse-append, length-reverse}
use Rattle.std.specs.Vec.{vec_len, vec_capacity}
use Rattle.pg_undo.specs.Ring.{present}
use Rattle.pg_undo.specs.Links.{history, AreLinks}
use Rattle.pg_undo.proofs.Linking.{relinking, in_arrays, links-out}
use Rattle.pg_undo.proofs.Histories.{length-history, history-push}
use Rattle.pg_undo.proofs.ring.Ring.relink.Goals as goal

pub unreachable-requires : goal.unreachable-requires
unreachable-requires c =
    let out = reverse c.self.inside.unlinked.items in
    let len : vec_len c.self.inside.unlinked ≡ length c.self.inside.unlinked.items = search rules in
    let none : vec_len c.self.inside.unlinked ≡ 0 = c.in_default.ensures.cases.0 in
    let same : length out ≡ length c.self.inside.unlinked.items =
    length-reverse c.self.inside.unlinked.items in
    let many : length c.args.self.now ≡ length out + 1 =
    ap length (sym c.self.view_is) ∙ length-history c.self.inside.end out in
    omega (arith, c.requires)

pub index-before-requires : goal.index-before-requires
index-before-requires c =
    let rest = reverse c.pop.new.self.items in
    let was : reverse c.self.inside.unlinked.items ≡ c.in-Some.i ∷ rest =
    ap reverse c.in-Some.ensures.items ∙ reverse-append c.pop.new.self.items (c.in-Some.i ∷ []) in
    let links : AreLinks c.self.inside.end c.self.inside.next.items c.self.inside.previous.items
    (c.in-Some.i ∷ rest) = rw was at c.self.invariant.0 in
    let at = links-out c.self.inside.end c.self.inside.next.items c.self.inside.previous.items rest
    c.in-Some.i links in
    let low : c.in-Some.i < c.self.inside.end = at.low in
    let place = in_arrays c.self.inside.end c.self.inside.next.items c.self.inside.previous.items
    (c.in-Some.i ∷ rest) c.in-Some.i links (omega arith) in
    let len : vec_len c.self.inside.previous ≡ length c.self.inside.previous.items = search rules in
    omega (arith, place.previous_low)

pub index-after-requires : goal.index-after-requires
index-after-requires c =
    let rest = reverse c.pop.new.self.items in
    let was : reverse c.self.inside.unlinked.items ≡ c.in-Some.i ∷ rest =
    ap reverse c.in-Some.ensures.items ∙ reverse-append c.pop.new.self.items (c.in-Some.i ∷ []) in
    let links : AreLinks c.self.inside.end c.self.inside.next.items c.self.inside.previous.items
    (c.in-Some.i ∷ rest) = rw was at c.self.invariant.0 in
    let at = links-out c.self.inside.end c.self.inside.next.items c.self.inside.previous.items rest
    c.in-Some.i links in
    let low : c.in-Some.i < c.self.inside.end = at.low in
    let place = in_arrays c.self.inside.end c.self.inside.next.items c.self.inside.previous.items
    (c.in-Some.i ∷ rest) c.in-Some.i links (omega arith) in
    let len : vec_len c.self.inside.next ≡ length c.self.inside.next.items = search rules in
    omega (arith, place.next_low)

pub index_mut-requires : goal.index_mut-requires
index_mut-requires c =
    let rest = reverse c.pop.new.self.items in
    let was : reverse c.self.inside.unlinked.items ≡ c.in-Some.i ∷ rest =
    ap reverse c.in-Some.ensures.items ∙ reverse-append c.pop.new.self.items (c.in-Some.i ∷ []) in
    let links : AreLinks c.self.inside.end c.self.inside.next.items c.self.inside.previous.items
    (c.in-Some.i ∷ rest) = rw was at c.self.invariant.0 in
    let at = relinking c.self.inside.end c.self.inside.next.items c.self.inside.previous.items rest
    c.in-Some.i c.index-before.result.now c.index-after.result.now links c.index-before.ensures
    c.index-after.ensures in
    let low : c.index-before.result.now < c.self.inside.end + 1 = at.before_low in
    let place = in_arrays c.self.inside.end c.self.inside.next.items c.self.inside.previous.items
    (c.in-Some.i ∷ rest) c.index-before.result.now links (omega arith) in
    let len : vec_len c.self.inside.next ≡ length c.self.inside.next.items = search rules in
    omega (arith, place.next_low)

pub index_mut-requires-2 : goal.index_mut-requires-2
index_mut-requires-2 c =
    let rest = reverse c.pop.new.self.items in
    let was : reverse c.self.inside.unlinked.items ≡ c.in-Some.i ∷ rest =
    ap reverse c.in-Some.ensures.items ∙ reverse-append c.pop.new.self.items (c.in-Some.i ∷ []) in
    let links : AreLinks c.self.inside.end c.self.inside.next.items c.self.inside.previous.items
    (c.in-Some.i ∷ rest) = rw was at c.self.invariant.0 in
    let at = relinking c.self.inside.end c.self.inside.next.items c.self.inside.previous.items rest
    c.in-Some.i c.index-before.result.now c.index-after.result.now links c.index-before.ensures
    c.index-after.ensures in
    let low : c.index-after.result.now < c.self.inside.end + 1 = at.after_low in
    let place = in_arrays c.self.inside.end c.self.inside.next.items c.self.inside.previous.items
    (c.in-Some.i ∷ rest) c.index-after.result.now links (omega arith) in
    let len : vec_len c.self.inside.previous ≡ length c.self.inside.previous.items = search rules in
    omega (arith, place.previous_low)

pub invariant_of-self : goal.invariant_of-self
invariant_of-self c =
    let rest = reverse c.pop.new.self.items in
    let was : reverse c.self.inside.unlinked.items ≡ c.in-Some.i ∷ rest =
    ap reverse c.in-Some.ensures.items ∙ reverse-append c.pop.new.self.items (c.in-Some.i ∷ []) in
    let links : AreLinks c.self.inside.end c.self.inside.next.items c.self.inside.previous.items
    (c.in-Some.i ∷ rest) = rw was at c.self.invariant.0 in
    let at = relinking c.self.inside.end c.self.inside.next.items c.self.inside.previous.items rest
    c.in-Some.i c.index-before.result.now c.index-after.result.now links c.index-before.ensures
    c.index-after.ensures in
    let room : c.self.inside.end ≤ vec_capacity c.self.inside.unlinked = c.self.invariant.1 in
    (at.links, omega (arith, c.pop.ensures.capacity))

pub returns : goal.returns
returns c =
    let rest = reverse c.pop.new.self.items in
    let was : reverse c.self.inside.unlinked.items ≡ c.in-Some.i ∷ rest =
    ap reverse c.in-Some.ensures.items ∙ reverse-append c.pop.new.self.items (c.in-Some.i ∷ []) in
    let is : history c.self.inside.end (c.in-Some.i ∷ rest) ≡ c.args.self.now =
    ap (history c.self.inside.end) (sym was) ∙ c.self.view_is in
    sym is
    ∙ (history-push c.self.inside.end rest c.in-Some.i
    ∙ ap (λ lists. history c.self.inside.end rest ++ present lists ∷ []) is)
