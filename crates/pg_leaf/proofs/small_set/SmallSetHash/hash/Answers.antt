use Rattle.std.proofs.Common.{◌∙◌, sym, ap}
use Rattle.std.specs.List.{fold}
use Rattle.pg_base.specs.PointLemmas.{words_hash_input}
use Rattle.pg_leaf.specs.SmallSets.{four_words_of, four_words_of-members}
use Rattle.pg_leaf.proofs.small_set.SmallSetHash.hash.Goals as goal

pub returns : goal.returns
returns g c = c.hash.ensures
    ∙ ap (λ ws. fold g.H.Hasher.write c.args.state.now (words_hash_input ws))
    (sym (four_words_of-members c.self.inside.words c.self.invariant)
    ∙ ap four_words_of c.self.view_is)
