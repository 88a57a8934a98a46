use Rattle.std.proofs.Common.{◌≡◌, ◌∙◌, Bool, true, false, refl, sym, ap, subst}
use Rattle.std.specs.Prelude.{Some}
use Rattle.pg_leaf.proofs.Common.{Side, Potential, answer_for, defender, defends}
use Rattle.pg_leaf.proofs.Common.{pairs_exist}
use Rattle.pg_leaf.specs.Leaf.{IsLeaf}
use Rattle.pg_leaf.specs.Ahead.{IsNext}
use Rattle.pg_leaf.specs.declared.ahead.Next.{Next}
use Rattle.pg_leaf.specs.declared.ahead.Next.TheVariants.{Quiet, Line}
use Rattle.pg_threat.specs.Search.{points_of_line}
use Rattle.pg_leaf.proofs.FirstCriterion.{attack-line, by-none, by-potential, by-threat}
use Rattle.pg_leaf.proofs.FirstCriterion.{potential-leaf, threat-leaf}
use Rattle.pg_leaf.proofs.Foreseeing.{move-position, held, no-attack, served}
use Rattle.pg_leaf.proofs.ahead.Ahead.tells.Goals as goal

pub returns-then-holds : goal.returns-then-holds
returns-then-holds c = λ t ask a.
    let g = c.args.b.now.game in
    let q = c.args.q.now in
    let m = c.requires.moves in
    let going = c.goes_on.ensures t q c.args.v a m (c.total_after-total.ensures q m)
    c.if-not-goes_on.false in
    let on : defends g.kind g t q ≡ true =
    sym (held (defends g.kind g t q) c.holds.result c.in-Some.holds c.in-Some.is
    (c.holds.ensures t a.defends)) ∙ c.if-holds.true in
    let same : c.answer_for.result ≡ answer_for (defender g.kind t) =
    c.answer_for.ensures ∙ ap answer_for a.defends in
    let p = by-potential g t q going on in (
      p.0 ∙ ap Some (sym same),
      subst (λ (b : Bool). IsLeaf g t q b Potential) (sym same)
          (potential-leaf g t q going on ask m.lines (move-position c.args.b.now q c.args.v m)),
    )

pub returns-then-is_short : goal.returns-then-is_short
returns-then-is_short c = λ t ask a.
    let b = c.args.b.now in
    let g = b.game in
    let q = c.args.q.now in
    let m = c.requires.moves in
    let going = c.goes_on.ensures t q c.args.v a m (c.total_after-total.ensures q m)
    c.if-not-goes_on.false in
    let off : defends g.kind g t q ≡ false =
    sym (held (defends g.kind g t q) c.holds.result c.in-Some.holds c.in-Some.is
    (c.holds.ensures t a.defends)) ∙ c.if-holds.false in
    let known : IsNext b Quiet = subst (λ (n : Next). IsNext b n) c.in-Quiet.is a.next in
    let none = c.is_short.ensures q m c.if-is_short.true in
    by-none g t q going off (no-attack b q c.args.v m known going)
    (ap (λ (s : Side). pairs_exist g q s) (sym a.defends) ∙ none)

pub returns-then-is_apart : goal.returns-then-is_apart
returns-then-is_apart c = λ t ask a.
    let b = c.args.b.now in
    let g = b.game in
    let q = c.args.q.now in
    let m = c.requires.moves in
    let going = c.goes_on.ensures t q c.args.v a m (c.total_after-total.ensures q m)
    c.if-not-goes_on.false in
    let off : defends g.kind g t q ≡ false =
    sym (held (defends g.kind g t q) c.holds.result c.in-Some.holds c.in-Some.is
    (c.holds.ensures t a.defends)) ∙ c.if-holds.false in
    let line = c.in-Line.line in
    let known : IsNext b (Line line) = subst (λ (n : Next). IsNext b n) c.in-Line.is a.next in
    let points = points_of_line line in
    let both = served b q c.args.v m line known going (c.is_apart.ensures.0 c.if-is_apart.true) in (
      (by-threat g t q going off both.0).0,
      threat-leaf g t q points going off both.0 (attack-line g q points points both.1 refl)
          (move-position b q c.args.v m),
    )
