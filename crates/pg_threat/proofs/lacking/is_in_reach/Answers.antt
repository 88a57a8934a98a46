use Rattle.std.proofs.Common.{◌∙◌, sym, ap, eqb-true}
use Rattle.pg_threat.proofs.Common.{not_from_false, false≢true, contains, Side, other, points_of}
use Rattle.pg_threat.proofs.Common.{line_at, count_of, clear-any}
use Rattle.pg_threat.proofs.lacking.is_in_reach.Goals as goal

pub returns-then-count-ne0 : goal.returns-then-count-ne0
returns-then-count-ne0 c =
    let g = c.args.b.now.game in
    let p = c.args.b.now.stand.position in
    let theirs = c.count.ensures ∙ ap (λ (s : Side). count_of g p s c.args.line) c.other.ensures in
    λ _ clear _. absurd (c.if-count-ne0.true (theirs
    ∙ eqb-true _ 0 (clear-any (contains (points_of p (other c.args.side))) (line_at g c.args.line)
    ∙ not_from_false _ clear)))

pub returns : goal.returns
returns c = λ e _ off. absurd (false≢true (sym e ∙ not_from_false _ (c.holds.ensures ∙ off)))
