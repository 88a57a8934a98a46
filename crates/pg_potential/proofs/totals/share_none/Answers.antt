use Rattle.std.proofs.Common.{◌*◌, ◌∙◌, sym, ap, subst, subst₂, List, ℕ}
use Rattle.pg_potential.proofs.Common.{ShareNone, members_below}
use Rattle.pg_potential.proofs.FlatMarks.{Fit, fit-set}
use Rattle.pg_potential.proofs.RowsWithin.{members-words}
use Rattle.pg_potential.proofs.totals.share_none.Goals as goal

pub are_apart-requires-clause-fit : goal.are_apart-requires-clause-fit
are_apart-requires-clause-fit c = λ i. (
  subst Fit (sym c.words.ensures.words) (fit-set c.args.first.now) i,
  subst Fit (sym c.words-2.ensures.words) (fit-set c.args.second.now) i,
)

pub returns : goal.returns
returns c =
    let mine = ap (λ (ws : List ℕ). members_below ws (64 * c.args.width)) c.words.ensures.words
    ∙ members-words c.args.first.now c.args.width c.requires.width c.requires.first in
    let theirs = ap (λ (ws : List ℕ). members_below ws (64 * c.args.width)) c.words-2.ensures.words
    ∙ members-words c.args.second.now c.args.width c.requires.width c.requires.second in (
      λ on. subst₂ ShareNone mine theirs (c.are_apart.ensures.0 on),
      λ h. c.are_apart.ensures.1 (subst₂ ShareNone (sym mine) (sym theirs) h),
    )
