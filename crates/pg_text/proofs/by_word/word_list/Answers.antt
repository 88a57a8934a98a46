use Rattle.std.proofs.Common.{length, rules}
use Rattle.std.specs.Prelude.{not, ◌==◌}
use Rattle.std.proofs.lemmas.Iterator.Consumers.{map_from_collect, YieldsList-from_filter}
use Rattle.std.proofs.lemmas.Iterator.Consumers.{YieldsList-at}
use Rattle.std.proofs.lemmas.Iterator.Splits.{YieldsList-from_slice_split}
use borrow.Author.Tests.{tests}
use Rattle.pg_text.specs.Text.{words}
use Rattle.pg_text.proofs.by_word.word_list.Goals as goal

pub returns : goal.returns
unfolding words
returns c = map_from_collect _ c.collect.ensures.ran
    (YieldsList-from_filter _ (λ w. not (length w == 0)) (YieldsList-at c.filter.ensures.source
    (YieldsList-from_slice_split _ (λ b. b == 32) c.args.line.now c.split.ensures.rest
    c.split.ensures.done c.split.ensures.closure (λ x b q k. search (rules, tests))))
    c.filter.ensures.closure (λ x b q k. search (rules, tests)))
