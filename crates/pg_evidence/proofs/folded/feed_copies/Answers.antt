use Rattle.std.proofs.Common.{◌<◌, ◌∙◌, ℕ, refl, subst}
use Rattle.pg_evidence.proofs.Feeding.{copy-next, fed-more, fed-none}
use Rattle.pg_evidence.proofs.folded.feed_copies.Goals as goal

pub loop-key-init : goal.loop-key-init
loop-key-init c = record {
  game = refl;
  fed = fed-none c.args.game.now c.args.claim.now c.args.layout.now c.args.checking.now;
}

pub feed_node-requires : goal.feed_node-requires
feed_node-requires c = copy-next c.args.game.now c.args.claim.now c.args.layout.now
    c.requires.sound c.requires.laid c.args.checking.now c.loop-key.checking c.loop-key.key
    (subst (λ (n : ℕ). c.loop-key.key < n) c.copies-key-end.ensures c.loop-key-test.true)
    c.in_ok-next.next c.in_ok-next.ensures c.loop-key.invariant.fed c.requires.next

pub loop-key-preserved : goal.loop-key-preserved
loop-key-preserved c = record {
  game = c.feed_node.ensures.game ∙ c.loop-key.invariant.game;
  fed = fed-more c.args.game.now c.args.claim.now c.args.layout.now c.requires.sound
      c.requires.laid c.args.checking.now c.loop-key.checking c.loop-key.key
      (subst (λ (n : ℕ). c.loop-key.key < n) c.copies-key-end.ensures c.loop-key-test.true)
      c.in_ok-next.next c.in_ok-next.ensures c.loop-key.invariant.fed c.feed_node.new.checking
      c.in_ok-feed_node.ensures.fed;
}
