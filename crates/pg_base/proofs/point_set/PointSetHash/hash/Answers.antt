use Rattle.std.proofs.Common.{◌∙◌, sym, ap}
use Rattle.std.specs.List.{fold}
use Rattle.pg_base.specs.Words.{words_of}
use Rattle.pg_base.specs.WordLemmas.{words_of-members}
use Rattle.pg_base.specs.PointLemmas.{words_hash_input}
use Rattle.pg_base.proofs.point_set.PointSetHash.hash.Goals as goal

pub returns : goal.returns
returns g c = c.hash.ensures
    ∙ ap (λ ws. fold g.H.Hasher.write c.args.state.now (words_hash_input ws))
    (sym (words_of-members c.self.inside.words c.self.invariant) ∙ ap words_of c.self.view_is)
