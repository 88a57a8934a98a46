use Rattle.std.proofs.Common.{◌≡◌, ◌+◌, [], ◌∷◌, ◌++◌, reverse, arith}
use Rattle.std.proofs.Common.{ap, ◌∙◌, subst}
use Rattle.pg_undo.specs.Links.{history}
use Rattle.pg_undo.proofs.Starting.{AreFilled, filled-none, filled-more, links-start}
use Rattle.pg_undo.proofs.Histories.{history-none}
use Rattle.pg_undo.proofs.ring.Ring.new.Goals as goal

pub loop-i-init : goal.loop-i-init
loop-i-init c =
    let next : c.in_ok-next.next.items ≡ [] = c.in_ok-next.ensures.items in
    let previous : c.push.new.self.items ≡ c.args.n ∷ [] =
    c.in_ok-push.ensures.items ∙ ap (λ xs. xs ++ c.args.n ∷ []) c.in_ok-previous.ensures.items in
    rw (next, previous) (filled-none c.args.n)

pub loop-i-preserved : goal.loop-i-preserved
loop-i-preserved c =
    let next : c.push-in-loop-i.new.self.items ≡ c.loop-i.next.items ++ (c.loop-i.i + 1) ∷ [] =
    c.in_ok-push-2.ensures.items in
    let previous : c.push-in-loop-i-2.new.self.items ≡ c.loop-i.previous.items ++ c.loop-i.i ∷ [] =
    c.in_ok-push-3.ensures.items in
    rw (next, previous)
    (filled-more c.args.n c.loop-i.i c.loop-i.next.items c.loop-i.previous.items c.loop-i.invariant)

pub invariant_of-result : goal.invariant_of-result
invariant_of-result c =
    let next : c.push-2.new.self.items ≡ c.loop-i.next.items ++ 0 ∷ [] =
    c.in_ok-push-4.ensures.items in
    let out : reverse c.in_ok-unlinked.unlinked.items ≡ [] =
    ap reverse c.in_ok-unlinked.ensures.items in
    let all : c.loop-i.i ≡ c.args.n = omega arith in
    let filled : AreFilled c.args.n c.args.n c.loop-i.next.items c.loop-i.previous.items =
    subst (λ i. AreFilled c.args.n i c.loop-i.next.items c.loop-i.previous.items) all
    c.loop-i.invariant in (
      rw (next, out) (links-start c.args.n c.loop-i.next.items c.loop-i.previous.items filled),
      c.in_ok-unlinked.ensures.capacity,
    )

pub returns : goal.returns
returns c =
    let out : reverse c.in_ok-unlinked.unlinked.items ≡ [] =
    ap reverse c.in_ok-unlinked.ensures.items in
    ap (history c.args.n) out ∙ history-none c.args.n
