use Rattle.std.proofs.Common.{arith, ap, [], ◌≡◌, true, sym, ◌∙◌, ◌<◌, ◌==◌, length, get_or, eq-eqb}
use Rattle.pg_threat.proofs.Common.{Contains-get_or, list_any_at, lines_of, is_on, near-range}
use Rattle.pg_threat.proofs.Common.{line_at}
use Rattle.pg_threat.proofs.Scans.{put-step, skip-step, again-put, again-skip}
use Rattle.pg_threat.proofs.lacking.put_open.Goals as goal
use Rattle.pg_threat.proofs.lacking.put_open.Goals.{then-is_free, else-is_free}

pub loop-v-preserved : goal.loop-v-preserved
loop-v-preserved c =
    let p = c.args.b.now.stand.position in
    let is = c.line_points-v-items.ensures.points in
    let line = line_at c.args.b.now.game c.args.line in
    let within : c.loop-v.v-index < length line =
    omega (arith, ap length is, c.loop-v-test.true) in
    let q = get_or c.line_points-v-items.result.now c.loop-v.v-index 0 in
    let old = c.args.lacked.now.points in
    let now = c.loop-v.lacked.points in
    let at = ap (λ xs. get_or xs c.loop-v.v-index 0) is in
    let inv = c.loop-v.invariant in
    elim c.if-is_free.branch [
      | then-is_free w ↦ rw w.lacked-is (record {
        points = λ v. rw w.put.ensures.points
            (put-step old now p line c.loop-v.v-index q v within at
            (sym c.is_free.ensures ∙ w.if-is_free.true) (inv.points v));
        kept = λ v h. w.put.ensures.kept v (inv.kept v h);
        again = λ v h on. again-put old now c.loop-v.lacked.twice p line c.loop-v.v-index q v within
            at h (inv.points v) (inv.again v h) w.put.new.self.twice
            (w.put.ensures.kept v) w.put.ensures.again on;
      })
      | else-is_free w ↦ rw w.lacked-is (record {
        points = λ v. skip-step old now p line c.loop-v.v-index q v within at
            (sym c.is_free.ensures ∙ w.if-is_free.false) (inv.points v);
        kept = inv.kept;
        again =
            λ v h on. again-skip old now c.loop-v.lacked.twice p line c.loop-v.v-index q v within at
            h (inv.points v) (inv.again v h) (sym c.is_free.ensures ∙ w.if-is_free.false) on;
      })
    ]

pub is_free-requires : goal.is_free-requires
is_free-requires c =
    let g = c.args.b.now.game in
    let line = line_at g c.args.line in
    let is = c.line_points-v-items.ensures.points in
    let q = get_or c.line_points-v-items.result.now c.loop-v.v-index 0 in
    let within : c.loop-v.v-index < length line = omega (arith, ap length is, c.loop-v-test.true) in
    let on : is_on q line ≡ true = list_any_at (λ x. x == q) line c.loop-v.v-index 0 within
    (eq-eqb _ _ (sym (ap (λ xs. get_or xs c.loop-v.v-index 0) is))) in
    near-range g line q (Contains-get_or (lines_of g) c.args.line [] c.requires) on
