use Rattle.std.proofs.Common.{◌≡◌, ◌<◌, ◌^◌, length, reverse, arith, rules}
use Rattle.std.proofs.lemmas.List.{length-reverse}
use Rattle.pg_undo.proofs.Histories.{present-count}
use Rattle.pg_undo.proofs.ring.Ring.len.Goals as goal

pub overflow_cast-result : goal.overflow_cast-result
overflow_cast-result c =
    let out = reverse c.self.inside.unlinked.items in
    let whole = present-count c.self.inside.end c.self.inside.next.items
    c.self.inside.previous.items out c.args.self.now c.self.invariant.0 c.self.view_is in
    let same = length-reverse c.self.inside.unlinked.items in
    let len : c.len.result ≡ length c.self.inside.unlinked.items = search rules in
    let few : c.self.inside.end < 2 ^ 32 = search in
    let small : c.len.result < 2 ^ 32 = omega arith in
    search

pub overflow_sub-result : goal.overflow_sub-result
overflow_sub-result c =
    let out = reverse c.self.inside.unlinked.items in
    let whole = present-count c.self.inside.end c.self.inside.next.items
    c.self.inside.previous.items out c.args.self.now c.self.invariant.0 c.self.view_is in
    let same = length-reverse c.self.inside.unlinked.items in
    let len : c.len.result ≡ length c.self.inside.unlinked.items = search rules in
    omega arith

pub returns : goal.returns
returns c =
    let out = reverse c.self.inside.unlinked.items in
    let whole = present-count c.self.inside.end c.self.inside.next.items
    c.self.inside.previous.items out c.args.self.now c.self.invariant.0 c.self.view_is in
    let same = length-reverse c.self.inside.unlinked.items in
    let len : c.len.result ≡ length c.self.inside.unlinked.items = search rules in
    omega arith
