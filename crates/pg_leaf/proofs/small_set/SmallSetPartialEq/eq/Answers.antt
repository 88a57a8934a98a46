use Rattle.std.proofs.Common.{◌∙◌, sym, ap}
use Rattle.pg_base.specs.Prelude.{unsigned_Decides}
use Rattle.std.proofs.lemmas.Bool.Decides.{Decides-like, same_from_decides}
use Rattle.std.proofs.lemmas.Slice.Eq.{slice_eq-Decides}
use Rattle.pg_base.specs.Words.{members_below}
use Rattle.pg_base.specs.PointLemmas.{equal, equal-decides}
use Rattle.pg_game.specs.declared.bounds.TheConstants.{MAX_POINTS}
use Rattle.pg_leaf.specs.SmallSets.{four_words_of, four_words_of-members}
use Rattle.pg_leaf.proofs.small_set.SmallSetPartialEq.eq.Goals as goal

pub returns : goal.returns
returns c = same_from_decides c.eq.result (equal c.args.self.now c.args.other.now)
    (Decides-like c.eq.result
    (λ words. sym c.self.view_is ∙ ap (λ ws. members_below ws MAX_POINTS) words ∙ c.other.view_is)
    (λ points. sym (four_words_of-members c.self.inside.words c.self.invariant)
    ∙ ap four_words_of (c.self.view_is ∙ points ∙ sym c.other.view_is)
    ∙ four_words_of-members c.other.inside.words c.other.invariant)
    (slice_eq-Decides unsigned_Decides c.self.inside.words c.other.inside.words c.eq.result
    c.eq.ensures)) (equal-decides c.args.self.now c.args.other.now)
