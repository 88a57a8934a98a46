use Rattle.std.proofs.Common.{◌*◌, ◌∙◌, sym, ap, subst, subst₂, List, ℕ}
use Rattle.pg_potential.proofs.Common.{AreWithin, members_below}
use Rattle.pg_potential.proofs.FlatMarks.{Fit, fit-set}
use Rattle.pg_potential.proofs.RowsWithin.{rest-set, rest-long, rest-fits, members-words}
use Rattle.pg_potential.proofs.marks.Marks.has_within.Goals as goal

pub are_within-requires-clause-theirs : goal.are_within-requires-clause-theirs
are_within-requires-clause-theirs c = rest-long c.args.self.now c.args.row c.deref.result.now
    c.requires.flat c.requires.row c.deref.ensures.value

pub are_within-requires-clause-fit : goal.are_within-requires-clause-fit
are_within-requires-clause-fit c = λ i. (
  subst Fit (sym c.words.ensures.words) (fit-set c.args.set.now) i,
  rest-fits c.args.self.now c.args.row c.deref.result.now c.requires.flat c.requires.row
      c.deref.ensures.value i,
)

pub returns : goal.returns
returns c =
    let m = c.args.self.now in
    let mine = ap (λ (ws : List ℕ). members_below ws (64 * m.width)) c.words.ensures.words
    ∙ members-words c.args.set.now m.width c.requires.flat.few c.requires.below in
    let theirs = rest-set m c.args.row c.deref.result.now c.requires.flat c.requires.row
    c.deref.ensures.value in (
      λ on. subst₂ AreWithin mine theirs (c.are_within.ensures.0 on),
      λ h. c.are_within.ensures.1 (subst₂ AreWithin (sym mine) (sym theirs) h),
    )
