use Rattle.std.proofs.Common.{◌≤◌, ◌<◌, ◌∙◌, ℕ, List, length, get_or, ap, sym, arith}
use Rattle.pg_threat.proofs.Common.{FinSet, contains, contains-empty, nat_cmp, lines_of}
use Rattle.pg_threat.proofs.Common.{lines_holding}
use Rattle.pg_threat.proofs.Partners.{through-low, walk-lacked, walk-other, walk-over}
use Rattle.pg_threat.proofs.lacking.partners.Goals as goal
use Rattle.pg_threat.proofs.lacking.partners.Goals.{then-lacks, else-lacks}

pub loop-line-init : goal.loop-line-init
loop-line-init c =
    λ u. ap (λ (s : FinSet nat_cmp). contains s u) c.empty.ensures ∙ contains-empty nat_cmp u

pub lacks-requires-clause-range : goal.lacks-requires-clause-range
lacks-requires-clause-range c =
    let g = c.args.b.now.game in
    let is = c.through-line-items.ensures in
    let low : c.loop-line.line-index < length (lines_holding (lines_of g) c.args.v) =
    omega (arith, c.loop-line-test.true, ap length is) in
    rw is (through-low (lines_of g) c.args.v c.loop-line.line-index low)

pub put_open-requires : goal.put_open-requires
put_open-requires c =
    let g = c.args.b.now.game in
    let is = c.through-line-items.ensures in
    let low : c.loop-line.line-index < length (lines_holding (lines_of g) c.args.v) =
    omega (arith, c.loop-line-test.true, ap length is) in
    rw is (through-low (lines_of g) c.args.v c.loop-line.line-index low)

pub loop-line-preserved : goal.loop-line-preserved
loop-line-preserved c =
    let g = c.args.b.now.game in
    let p = c.args.b.now.stand.position in
    let v = c.args.v in
    let i = c.loop-line.line-index in
    let is = c.through-line-items.ensures in
    let low : i < length (lines_holding (lines_of g) v) =
    omega (arith, c.loop-line-test.true, ap length is) in
    let at = ap (λ (xs : List ℕ). get_or xs i 0) is in
    elim c.if-lacks.branch [
      | then-lacks w ↦ λ u. rw w.lacked-is
          (walk-lacked g p c.args.side v i _ low at u _ _ (sym c.lacks.ensures ∙ w.if-lacks.true)
          (c.loop-line.invariant u) (w.put_open.ensures.points u))
      | else-lacks w ↦ λ u. rw w.lacked-is
          (walk-other g p c.args.side v i _ low at u _ (sym c.lacks.ensures ∙ w.if-lacks.false)
          (c.loop-line.invariant u))
    ]

pub returns : goal.returns
returns c =
    let g = c.args.b.now.game in
    let is = c.through-line-items.ensures in
    let end : length (lines_holding (lines_of g) c.args.v) ≤ c.loop-line.line-index =
    omega (arith, c.loop-line-test.false, ap length is) in
    λ u. ap (λ (s : FinSet nat_cmp). contains s u) c.take.ensures
    ∙ walk-over g c.args.b.now.stand.position c.args.side c.args.v c.loop-line.lacked.points
    c.loop-line.line-index end c.loop-line.invariant u
