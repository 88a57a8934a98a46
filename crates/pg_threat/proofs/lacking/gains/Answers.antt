use Rattle.std.proofs.Common.{◌≤◌, ◌<◌, ◌∙◌, ◌||◌, Bool, ℕ, List, length, get_or, ap, ap₂, sym}
use Rattle.std.proofs.Common.{arith}
use Rattle.pg_threat.proofs.Common.{list_any_more, lines_of, line_at, lines_holding}
use Rattle.pg_threat.specs.Lacking.{is_gained}
use Rattle.pg_threat.proofs.Partners.{through-low, gained-none}
use Rattle.pg_threat.proofs.lacking.gains.Goals as goal

pub is_gained-requires : goal.is_gained-requires
is_gained-requires c =
    let g = c.args.b.now.game in
    let is = c.through-line-items.ensures in
    let low : c.loop-line.line-index < length (lines_holding (lines_of g) c.args.v) =
    omega (arith, c.loop-line-test.true, ap length is) in
    rw is (through-low (lines_of g) c.args.v c.loop-line.line-index low)

pub loop-line-preserved : goal.loop-line-preserved
loop-line-preserved c =
    let g = c.args.b.now.game in
    let t = λ (i : ℕ). is_gained c.args.b.now.stand.position c.args.side c.args.u (line_at g i) in
    let xs = lines_holding (lines_of g) c.args.v in
    let i = c.loop-line.line-index in
    let is = c.through-line-items.ensures in
    let low : i < length xs = omega (arith, c.loop-line-test.true, ap length is) in
    list_any_more t xs i 0 low
    ∙ ap₂ (λ (a b : Bool). a || b) c.loop-line.invariant
    (sym (c.is_gained.ensures ∙ ap (λ (ys : List ℕ). t (get_or ys i 0)) is) ∙ c.if-is_gained.false)

pub returns : goal.returns
returns c =
    let g = c.args.b.now.game in
    let end : length (lines_holding (lines_of g) c.args.v) ≤ c.loop-line.line-index =
    omega (arith, c.loop-line-test.false, ap length c.through-line-items.ensures) in
    λ _ line listed on. gained-none g c.args.b.now.stand.position c.args.side c.args.v c.args.u
    c.loop-line.line-index end c.loop-line.invariant line listed on
