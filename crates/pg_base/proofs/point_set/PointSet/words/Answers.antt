use Rattle.std.proofs.Common.{◌∙◌, ap, sym}
use Rattle.pg_base.specs.Words.{words_of}
use Rattle.pg_base.specs.WordLemmas.{words_of-members}
use Rattle.pg_base.proofs.point_set.PointSet.words.Goals as goal

pub returns-clause-words : goal.returns-clause-words
returns-clause-words c =
    sym (words_of-members c.self.inside.words c.self.invariant) ∙ ap words_of c.self.view_is
