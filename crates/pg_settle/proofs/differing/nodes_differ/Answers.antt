use Rattle.std.proofs.Common.{◌≡◌, ◌∙◌, true, false, cond, length, not, refl, sym}
use Rattle.std.proofs.Common.{ap, subst}
use Rattle.pg_settle.proofs.Common.{Position, contains, equal_positions, false≢true, position_of}
use Rattle.pg_settle.proofs.Common.{slice_get_read}
use Rattle.std.specs.List.{list_any}
use Rattle.pg_settle.proofs.Positions.{is_new, isnt_new, met_all, met_more, met_none, met_twice}
use Rattle.pg_settle.proofs.differing.nodes_differ.Goals as goal

pub loop-node-init : goal.loop-node-init
loop-node-init c = met_none (contains equal_positions c.new-met.result) c.args.nodes.now
    (λ p. ap (list_any (equal_positions p)) c.new-met.ensures.empty)

pub returns-then-not-is_new : goal.returns-then-not-is_new
returns-then-not-is_new c =
    let nodes = c.args.nodes.now in
    let n = c.node-item.result in
    let at = slice_get_read nodes
    (length nodes) c.loop-node.node-index n refl c.loop-node-test.true c.node-item.is in
    let old = contains equal_positions c.loop-node.met in
    let there : old (position_of n) ≡ true = isnt_new (old (position_of n))
    (sym (c.in_ok-is_new.ensures.added ∙ ap (λ (p : Position). not (old p)) c.position.ensures)
    ∙ c.if-not-is_new.true) in (
      λ e. absurd (false≢true e),
      λ differ. absurd (met_twice old nodes c.loop-node.node-index n c.loop-node.invariant at
          there differ),
    )

pub loop-node-preserved : goal.loop-node-preserved
loop-node-preserved c =
    let nodes = c.args.nodes.now in
    let n = c.node-item.result in
    let at = slice_get_read nodes
    (length nodes) c.loop-node.node-index n refl c.loop-node-test.true c.node-item.is in
    let old = contains equal_positions c.loop-node.met in
    let now = contains equal_positions c.insert.new.self in
    let fresh : old (position_of n) ≡ false = is_new (old (position_of n))
    (sym (c.in_ok-is_new.ensures.added ∙ ap (λ (p : Position). not (old p)) c.position.ensures)
    ∙ c.if-not-is_new.false) in
    met_more old nodes c.loop-node.node-index n c.loop-node.invariant at now fresh
    (subst (λ (p : Position). (q : Position) → now q ≡ cond (equal_positions p q) true (old q))
    c.position.ensures c.in_ok-is_new.ensures.updates.0)

pub returns : goal.returns
returns c = (
  λ _. met_all (contains equal_positions c.loop-node.met) c.args.nodes.now c.loop-node.node-index
      c.loop-node-test.false c.loop-node.invariant,
  λ _. refl,
)
