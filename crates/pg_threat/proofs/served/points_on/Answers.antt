use Rattle.std.proofs.Common.{◌<◌, ◌≤◌, ◌∙◌, ℕ, List, ap, arith, get_or, length, sym}
use Rattle.std.proofs.lemmas.List.Sums.{count_by_more_yes, count_by_more_no}
use Rattle.pg_threat.proofs.Common.{count_by, is_on, line_at, take_all}
use Rattle.pg_threat.specs.Search.{points_of_line}
use Rattle.pg_threat.proofs.served.points_on.Goals.{then-holds, else-holds}
use Rattle.pg_threat.proofs.served.points_on.Goals as goal

pub loop-v-preserved : goal.loop-v-preserved
loop-v-preserved c =
    let points = points_of_line c.args.t.now in
    let test = λ (x : ℕ). is_on x (line_at c.args.b.now.game c.args.line) in
    let i = c.loop-v.v-index in
    let is = c.as_slice-v-items.ensures.points in
    let low : i < length points = omega (arith, c.loop-v-test.true, ap length is) in
    let at = ap (λ (xs : List ℕ). test (get_or xs i 0)) is in
    elim c.if-holds.branch [
      | then-holds w ↦
          let more = count_by_more_yes test points i 0 low
          (sym at ∙ sym c.holds.ensures ∙ w.if-holds.true) in
          rw w.count-is
          (omega (arith, more, c.loop-v.invariant.0), omega (arith, c.loop-v.invariant.1))
      | else-holds w ↦
          let same = count_by_more_no test points i 0 low
          (sym at ∙ sym c.holds.ensures ∙ w.if-holds.false) in
          rw w.count-is
          (omega (arith, same, c.loop-v.invariant.0), omega (arith, c.loop-v.invariant.1))
    ]

pub returns-clause-exact : goal.returns-clause-exact
returns-clause-exact c =
    let points = points_of_line c.args.t.now in
    let end : length points ≤ c.loop-v.v-index =
    omega (arith, c.loop-v-test.false, ap length c.as_slice-v-items.ensures.points) in
    c.loop-v.invariant.0
    ∙ ap (count_by (λ (x : ℕ). is_on x (line_at c.args.b.now.game c.args.line)))
    (take_all c.loop-v.v-index points end)
