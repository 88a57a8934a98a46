use Rattle.pg_leaf.proofs.SmallSetLaws.{four-fit, four-members}
use Rattle.pg_leaf.proofs.small_set.SmallSet.of.Goals as goal

pub invariant_of-result : goal.invariant_of-result
invariant_of-result c =
    four-fit c.args.points.now c.words-words.result.now c.words-words.ensures.words

pub returns : goal.returns
returns c = λ below.
    four-members c.args.points.now c.words-words.result.now c.words-words.ensures.words below
