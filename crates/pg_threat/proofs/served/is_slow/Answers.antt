use Rattle.std.proofs.Common.{◌≡◌, ◌∙◌, false, refl, sym, ap, arith, eqb-true, eq-eqb}
use Rattle.std.proofs.lemmas.Bool.{leb-true, le-leb}
use Rattle.pg_threat.proofs.Common.{not-true, not_from_false, contains, Side, points_of, line_at}
use Rattle.pg_threat.proofs.Common.{clear-any, count_of, is_touched}
use Rattle.pg_threat.proofs.served.is_slow.Goals as goal

pub returns-then-count-ne0 : goal.returns-then-count-ne0
returns-then-count-ne0 c =
    let g = c.args.b.now.game in
    let p = c.args.b.now.stand.position in (
      λ _ clear. absurd (c.if-count-ne0.true (c.count.ensures
          ∙ eqb-true _ 0 (clear-any (contains (points_of p c.args.side)) (line_at g c.args.line)
          ∙ not_from_false _ clear))),
      λ _. refl,
    )

pub returns : goal.returns
returns c =
    let g = c.args.b.now.game in
    let p = c.args.b.now.stand.position in
    let theirs = c.count-2.ensures
    ∙ ap (λ (s : Side). count_of g p s c.args.line) c.other.ensures in
    let clear : is_touched (points_of p c.args.side) (line_at g c.args.line) ≡ false = not-true _
    (sym (clear-any (contains (points_of p c.args.side)) (line_at g c.args.line))
    ∙ eq-eqb _ 0 (sym c.count.ensures ∙ c.if-count-ne0.false)) in (
      λ e _. omega (arith, leb-true _ _ e, theirs, c.points_on.ensures.exact, c.line_len.ensures),
      λ slow. le-leb _ _
          (omega (arith, slow clear, theirs, c.points_on.ensures.exact, c.line_len.ensures)),
    )
