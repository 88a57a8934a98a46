use Rattle.std.proofs.Common.{arith, ap, sym, ◌∙◌}
use Rattle.std.proofs.lemmas.Bool.{false≢true}
use Rattle.pg_play_tree.proofs.Meeting.{at_place, new_more}
use Rattle.pg_play_tree.proofs.exploring.index_at.Goals as goal

pub loop-k-init : goal.loop-k-init
loop-k-init c = λ j d low. absurd (omega (arith, low))

pub loop-k-preserved : goal.loop-k-preserved
loop-k-preserved c = new_more c.args.places.now c.args.position.now c.loop-k.k
    c.index-places-k.result c.loop-k.invariant c.loop-k-test.true c.index-places-k.is
    (λ same. false≢true (c.if-is_same.ensures.1 (ap at_place (sym c.index-places-k.is) ∙ same)))

pub returns-clause-new : goal.returns-clause-new
returns-clause-new c =
    λ none j d low. c.loop-k.invariant j d (omega (arith, low, c.loop-k-test.false))
