use Rattle.std.proofs.Common.{◌∙◌, ◌-◌, ◌^◌, not, sym, ap, subst, inl, inr}
use Rattle.pg_potential.proofs.Common.{FinSet, ShareNone, cases_Bool, false≢true, is_touched}
use Rattle.pg_potential.proofs.Common.{contains, count_by, nat_cmp, points_of}
use Rattle.pg_game.proofs.LineSums.{line_weight-touched, line_weight-clear}
use Rattle.pg_potential.proofs.LineMasks.{set-from_untouched, untouched-from_set}
use Rattle.pg_potential.proofs.MaskWeights.{clear-is, count-free, own-below}
use Rattle.pg_potential.proofs.totals.weight_by_mask.Goals as goal

pub returns-then-share_none : goal.returns-then-share_none
returns-then-share_none c =
    let m = c.args.mask.now in
    c.requires.mask.clear
    ∙ clear-is c.args.base c.args.longest c.args.marked.now c.args.p.now c.args.side m.line.items
    c.requires.marked
    (subst (λ (s : FinSet nat_cmp). ShareNone s c.args.marked.now) c.requires.mask.set
    (c.share_none.ensures.0 c.if-share_none.true))

pub share_none-requires-2-clause-second : goal.share_none-requires-2-clause-second
share_none-requires-2-clause-second c = own-below c.args.marked.now c.args.p.now c.args.side
    c.args.width c.points_of.result.now c.points_of.ensures c.requires.marked c.requires.room

pub returns-then-not-share_none : goal.returns-then-not-share_none
returns-then-not-share_none c =
    let m = c.args.mask.now in
    let own = points_of c.args.p.now c.args.side in
    elim (cases_Bool (is_touched own m.line.items)) [
      | inl on ↦ sym
          (line_weight-touched c.args.base c.args.longest own c.args.p.now m.line.items on)
      | inr off ↦ absurd (false≢true (sym c.if-not-share_none.true
          ∙ c.share_none-2.ensures.1
          (subst (λ (s : FinSet nat_cmp). ShareNone m.points s) (sym c.points_of.ensures)
          (subst (λ (s : FinSet nat_cmp). ShareNone s own) (sym c.requires.mask.set)
          (set-from_untouched own m.line.items off)))))
    ]

pub returns : goal.returns
returns c =
    let m = c.args.mask.now in
    let own = points_of c.args.p.now c.args.side in
    let off = untouched-from_set own m.line.items
    (subst (λ (s : FinSet nat_cmp). ShareNone s own) c.requires.mask.set
    (subst (λ (s : FinSet nat_cmp). ShareNone m.points s) c.points_of.ensures
    (c.share_none-2.ensures.0 c.if-not-share_none.false))) in
    c.weight_with.ensures
    ∙ ap (λ n. c.args.base ^ (c.args.longest - n)) (c.count_free.ensures
    ∙ ap (count_by (λ v. not (contains c.args.marked.now v))) c.deref.ensures.value
    ∙ count-free c.args.marked.now c.args.p.now c.requires.marked m.line.items)
    ∙ sym (line_weight-clear c.args.base c.args.longest own c.args.p.now m.line.items off)
