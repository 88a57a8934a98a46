use Rattle.std.proofs.Common.{◌+◌, ◌==◌, ◌∙◌, ℕ, sym, ap, ap₂}
use Rattle.pg_threat.proofs.Common.{Side, line_at, count_of}
use Rattle.pg_threat.proofs.LineCounts.{lacks-off, lacks-on}
use Rattle.pg_threat.proofs.lacking.lacks.Goals as goal

pub returns-then-count-ne0 : goal.returns-then-count-ne0
returns-then-count-ne0 c =
    let g = c.args.b.now.game in
    let p = c.args.b.now.stand.position in
    let theirs = c.count.ensures ∙ ap (λ (s : Side). count_of g p s c.args.line) c.other.ensures in
    lacks-off p c.args.side c.args.missing (line_at g c.args.line)
    (λ e. c.if-count-ne0.true (theirs ∙ e))

pub returns : goal.returns
returns c =
    let g = c.args.b.now.game in
    let p = c.args.b.now.stand.position in
    let theirs = c.count.ensures ∙ ap (λ (s : Side). count_of g p s c.args.line) c.other.ensures in
    ap₂ (λ (n m : ℕ). (n + c.args.missing) == m) c.count-2.ensures c.line_len.ensures
    ∙ lacks-on p c.args.side c.args.missing (line_at g c.args.line)
    (sym theirs ∙ c.if-count-ne0.false)
