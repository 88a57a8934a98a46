use Rattle.std.proofs.Common.{◌∙◌, sym, ap}
use Rattle.pg_base.proofs.Common.{unsigned_Decides, same_from_decides, Decides-like}
use Rattle.std.proofs.lemmas.Slice.Eq.{slice_eq-Decides}
use Rattle.pg_base.specs.Words.{members_below, words_of}
use Rattle.pg_base.specs.WordLemmas.{words_of-members}
use Rattle.pg_base.specs.PointLemmas.{equal, equal-decides}
use Rattle.pg_base.proofs.point_set.PointSetPartialEq.eq.Goals as goal
use Rattle.pg_base.specs.declared.limits.TheConstants.{MAX_MEMBERS}

pub returns : goal.returns
returns c = same_from_decides c.eq.result (equal c.args.self.now c.args.other.now)
    (Decides-like c.eq.result
    (λ words. sym c.self.view_is ∙ ap (λ ws. members_below ws MAX_MEMBERS) words ∙ c.other.view_is)
    (λ points. sym (words_of-members c.self.inside.words c.self.invariant)
    ∙ ap words_of (c.self.view_is ∙ points ∙ sym c.other.view_is)
    ∙ words_of-members c.other.inside.words c.other.invariant)
    (slice_eq-Decides unsigned_Decides c.self.inside.words c.other.inside.words c.eq.result
    c.eq.ensures)) (equal-decides c.args.self.now c.args.other.now)
