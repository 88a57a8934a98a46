use Rattle.std.proofs.Common.{◌≡◌, ◌<◌, ◌∙◌, ℕ, List, length, get_or, ap, subst}
use Rattle.pg_pairing.proofs.Common.{FinSet, nat_cmp, points_of, lines_of, IsSafe, breaker_of}
use Rattle.pg_pairing.proofs.PartnerSteps.{pairs-below, safe-more}
use Rattle.pg_pairing.proofs.condition.hold_lines.Goals as goal

pub partners_of-partners-requires-clause-range : goal.partners_of-partners-requires-clause-range
partners_of-partners-requires-clause-range c =
    pairs-below c.args.g.now c.args.pairs.now c.requires.range

pub loop-line-preserved : goal.loop-line-preserved
loop-line-preserved c =
    let i = c.loop-line.line-index in
    let own : c.points_of-own.result.now
    ≡ points_of c.args.p.now (breaker_of c.args.g.now.kind c.args.side) =
    c.points_of-own.ensures ∙ ap (points_of c.args.p.now) c.breaker_of.ensures in
    let lines = c.lines-line-items.ensures.lines in
    let lt = subst (λ (ls : List (List ℕ)). i < length ls) lines c.loop-line-test.true in
    let is = c.line-item.is ∙ ap (λ (ls : List (List ℕ)). get_or ls i c.line-item.result) lines in
    let safe = (c.is_safe.ensures c.args.pairs.now c.partners_of-partners.ensures.partners).0
    c.if-not-is_safe.false in
    safe-more (points_of c.args.p.now (breaker_of c.args.g.now.kind c.args.side)) c.args.pairs.now
    (lines_of c.args.g.now) i c.line-item.result lt is
    (subst (λ (s : FinSet nat_cmp). IsSafe s c.args.pairs.now c.line-item.result) own safe)
    c.loop-line.invariant
