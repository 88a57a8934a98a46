use Rattle.std.proofs.Common.{◌≡◌, ◌∙◌, suc, ◌+◌, ◌-◌, sym, arith}
use Rattle.pg_book_parts.proofs.Before.{origin-here, origin-later, origin-none}
use Rattle.pg_book_parts.proofs.origins.origin_of.Goals as goal

pub loop-number-preserved : goal.loop-number-preserved
loop-number-preserved c =
    let one_more : c.args.page.number - c.loop-number.number
    ≡ suc (c.args.page.number - (c.loop-number.number + 1)) =
    omega (arith, c.loop-number-test.true) in
    c.loop-number.invariant
    ∙ origin-later c.args.claim.now c.args.page.chapter.count
    (c.args.page.chapter.count - c.args.page.number) c.loop-number.number _ _ one_more
    (sym c.origin_at.ensures ∙ c.in_default.is)

pub returns-in-Some : goal.returns-in-Some
returns-in-Some c =
    let one_more : c.args.page.number - c.loop-number.number
    ≡ suc (c.args.page.number - (c.loop-number.number + 1)) =
    omega (arith, c.loop-number-test.true) in
    sym (c.loop-number.invariant
    ∙ origin-here c.args.claim.now c.args.page.chapter.count
    (c.args.page.chapter.count - c.args.page.number) c.loop-number.number _ _ c.in-Some.origin
    one_more (sym c.origin_at.ensures ∙ c.in-Some.is))

pub returns : goal.returns
returns c =
    let none : c.args.page.number - c.loop-number.number ≡ 0 =
    omega (arith, c.loop-number-test.false) in
    sym (c.loop-number.invariant
    ∙ origin-none c.args.claim.now c.args.page.chapter.count
    (c.args.page.chapter.count - c.args.page.number) c.loop-number.number _ none)
