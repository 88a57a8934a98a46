use Rattle.std.proofs.Common.{◌≡◌, ◌+◌, drop, List, sym, ap, ◌∙◌, arith}
use Rattle.pg_gf2.proofs.Common.{drop_all, shr_and_one}
use Rattle.pg_gf2.specs.declared.row.Row.{Row}
use Rattle.pg_gf2.specs.Rows.{reduced, step}
use Rattle.pg_gf2.proofs.RowLemmas.{step_on, step_off, reduced_from}
use Rattle.pg_gf2.proofs.reduce.rest.Goals as goal
use Rattle.pg_gf2.proofs.reduce.rest.Goals.{then-left-row-eq1, else-left-row-eq1}

pub loop-row-preserved : goal.loop-row-preserved
loop-row-preserved c =
    let rows = c.args.rows.now in
    let i = c.loop-row.row-index in
    let row = c.row-item.result in
    let left = c.loop-row.left in
    let next : reduced (drop i rows) left ≡ reduced (drop (i + 1) rows) (step row left) =
    reduced_from rows i row left c.loop-row-test.true
    ∙ ap (λ r. reduced (drop (i + 1) rows) (step r left)) (sym c.row-item.is) in
    let rest : reduced (drop (i + 1) rows) (step row left) ≡ reduced rows c.args.value =
    sym next ∙ c.loop-row.invariant in
    elim c.if-left-row-eq1.branch [
      | then-left-row-eq1 w ↦
          let on : step row left ≡ c.if-left-row-eq1.left =
          step_on row left (sym (shr_and_one left row.bit) ∙ w.if-left-row-eq1.true)
          ∙ sym w.left-is in
          sym (ap (reduced (drop (i + 1) rows)) on) ∙ rest
      | else-left-row-eq1 w ↦
          let off : step row left ≡ c.if-left-row-eq1.left =
          step_off row left (λ e. w.if-left-row-eq1.false (shr_and_one left row.bit ∙ e))
          ∙ sym w.left-is in
          sym (ap (reduced (drop (i + 1) rows)) off) ∙ rest
    ]

pub returns : goal.returns
unfolding reduced
returns c =
    let rows = c.args.rows.now in
    ap (λ (q : List Row). reduced q c.loop-row.left)
    (sym (drop_all c.loop-row.row-index rows (omega arith)))
    ∙ c.loop-row.invariant
