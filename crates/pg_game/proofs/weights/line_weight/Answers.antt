use Rattle.std.proofs.Common.{◌≡◌, ◌<◌, ◌≤◌, ◌-◌, ◌^◌, ◌∙◌, ℕ, List, length, get_or, take, take_all}
use Rattle.std.proofs.Common.{ap, sym, subst, arith}
use Rattle.pg_game.proofs.Common.{count_by, list_any, contains, Contains-get_or, pow-le-pow_right}
use Rattle.pg_game.specs.Position.{is_free}
use Rattle.pg_game.proofs.LineSums.{line_weight-touched, line_weight-clear}
use Rattle.pg_game.proofs.Members.{list_any-one}
use Rattle.pg_game.proofs.weights.line_weight.Goals as goal

pub returns-then-has : goal.returns-then-has
returns-then-has c =
    let items = c.as_slice-v-items.ensures in
    let i = c.loop-v.v-index in
    let lt = subst (λ (xs : List ℕ). i < length xs) items c.loop-v-test.true in
    let at = ap (λ (xs : List ℕ). contains c.args.own.now (get_or xs i 0)) items in
    let touched = list_any-one (contains c.args.own.now) c.args.line.now
    (get_or c.args.line.now i 0) (Contains-get_or c.args.line.now i 0 lt)
    (sym at ∙ sym c.has-else-not-has.ensures ∙ c.if-has.true) in
    sym
    (line_weight-touched c.args.base c.args.longest c.args.own.now c.args.p.now c.args.line.now
    touched)

pub power-requires-clause-fits : goal.power-requires-clause-fits
power-requires-clause-fits c =
    let le = pow-le-pow_right {n = c.args.base} c.requires.some {i = c.args.longest - c.loop-v.free}
    {j = c.args.longest} (omega arith) in
    omega (arith, le, c.requires.fits)

pub returns : goal.returns
returns c =
    let end = subst (λ (xs : List ℕ). length xs ≤ c.loop-v.v-index) c.as_slice-v-items.ensures
    c.loop-v-test.false in
    let whole = take_all c.loop-v.v-index c.args.line.now end in
    c.power.ensures
    ∙ ap (λ n. c.args.base ^ (c.args.longest - n))
    (c.loop-v.invariant.free ∙ ap (count_by (is_free c.args.p.now)) whole)
    ∙ sym (line_weight-clear c.args.base c.args.longest c.args.own.now c.args.p.now c.args.line.now
    (sym (ap (list_any (contains c.args.own.now)) whole) ∙ c.loop-v.invariant.untouched))
