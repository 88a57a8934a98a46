use Rattle.std.proofs.Common.{◌≡◌, ◌<◌, ◌≤◌, ◌∙◌, ℕ, List, [], true, length, get_or, refl, ap, sym}
use Rattle.std.proofs.Common.{subst, inl, inr, arith, not, rules}
use denote.Enum.Bare.{sameb, same_true}
use Rattle.pg_base.specs.contracts.kind.Kind.{the_type}
use Rattle.pg_base.specs.declared.kind.Kind.{Kind}
use Rattle.pg_threat.proofs.Common.{cases_eq, false≢true, not-false, Contains-get_or, Side}
use Rattle.pg_threat.proofs.Common.{MakerMaker, line_at, lines_holding, lines_of, other}
use Rattle.pg_threat.specs.Search.{points_of_line}
use Rattle.pg_threat.specs.Serving.{IsSlow, IsSlowOn}
use Rattle.pg_threat.proofs.Idle.{through-each}
use Rattle.pg_threat.proofs.Partners.{through-low, through-on}
use Rattle.pg_threat.proofs.served.is_apart.Goals as goal

pub returns-then-has : goal.returns-then-has
returns-then-has c =
    (λ e. absurd (false≢true e), λ a. sym a.off ∙ sym c.has.ensures ∙ c.if-has.true)

pub returns-then-ne : goal.returns-then-ne
returns-then-ne c = (
  λ _. record {
    off = sym c.has.ensures ∙ c.if-has.false;
    slow = λ kind _. absurd (false≢true
        (sym (ap (λ (k : Kind). not (sameb the_type k MakerMaker)) (c.kind.ensures.exact ∙ kind))
        ∙ sym c.ne.ensures
        ∙ c.if-ne.true));
  },
  λ _. refl,
)

pub returns-then-as_slice-lt2 : goal.returns-then-as_slice-lt2
returns-then-as_slice-lt2 c = (
  λ _. record {
    off = sym c.has.ensures ∙ c.if-has.false;
    slow = λ _ some.
        absurd (omega (arith, some, c.if-as_slice-lt2.true, ap length c.as_slice.ensures.points));
  },
  λ _. refl,
)

pub is_slow-requires : goal.is_slow-requires
is_slow-requires c =
    let g = c.args.b.now.game in
    let is = c.through-line-items.ensures in
    let low : c.loop-line.line-index < length (lines_holding (lines_of g) c.args.v) =
    omega (arith, c.loop-line-test.true, ap length is) in
    rw is (through-low (lines_of g) c.args.v c.loop-line.line-index low)

pub returns-then-not-is_slow : goal.returns-then-not-is_slow
returns-then-not-is_slow c =
    let g = c.args.b.now.game in
    let p = c.args.b.now.stand.position in
    let v = c.args.v in
    let i = c.loop-line.line-index in
    let points = points_of_line c.args.t.now in
    let is = c.through-line-items.ensures in
    let low : i < length (lines_holding (lines_of g) v) =
    omega (arith, c.loop-line-test.true, ap length is) in
    let side : c.other-side.result ≡ other p.turn =
    c.other-side.ensures ∙ ap other c.turn.ensures in
    let on : sameb the_type c.kind.result MakerMaker ≡ true =
    not-false _ (sym c.ne.ensures ∙ c.if-ne.false) in
    let kind : g.kind ≡ MakerMaker = sym c.kind.ensures.exact
    ∙ same_true the_type (search rules) c.kind.result MakerMaker on in
    let some : 2 ≤ length points =
    omega (arith, c.if-as_slice-lt2.false, ap length c.as_slice.ensures.points) in (
      λ e. absurd (false≢true e),
      λ a.
          let j = get_or (lines_holding (lines_of g) v) i 0 in
          let slow = a.slow kind some (line_at g j)
          (Contains-get_or (lines_of g) j [] (through-low (lines_of g) v i low))
          (through-on (lines_of g) v i low) in
          let here : IsSlowOn p c.other-side.result points
          (line_at g (get_or c.through-line-items.result.now i 0)) =
          subst (λ (ys : List ℕ). IsSlowOn p c.other-side.result points
          (line_at g (get_or ys i 0))) (sym is)
          (subst (λ (s : Side). IsSlowOn p s points (line_at g j)) (sym side) slow) in
          sym c.if-not-is_slow.true ∙ c.is_slow.ensures.1 here,
    )

pub loop-line-preserved : goal.loop-line-preserved
loop-line-preserved c = λ i low.
    let g = c.args.b.now.game in
    let p = c.args.b.now.stand.position in
    let at = λ (j : ℕ). get_or (lines_holding (lines_of g) c.args.v) j 0 in
    let is : get_or c.through-line-items.result.now c.loop-line.line-index 0
    ≡ at c.loop-line.line-index =
    ap (λ (ys : List ℕ). get_or ys c.loop-line.line-index 0) c.through-line-items.ensures in
    elim (cases_eq i c.loop-line.line-index) [
      | inr ne ↦ c.loop-line.invariant i (omega arith)
      | inl e ↦
          let same : get_or c.through-line-items.result.now c.loop-line.line-index 0 ≡ at i =
          is ∙ ap at (sym e) in
          subst (λ (j : ℕ). IsSlowOn p c.other-side.result (points_of_line c.args.t.now)
          (line_at g j)) same (c.is_slow.ensures.0 c.if-not-is_slow.false)
    ]

pub returns : goal.returns
returns c =
    let g = c.args.b.now.game in
    let p = c.args.b.now.stand.position in
    let points = points_of_line c.args.t.now in
    let side : c.other-side.result ≡ other p.turn =
    c.other-side.ensures ∙ ap other c.turn.ensures in
    let end : length (lines_holding (lines_of g) c.args.v) ≤ c.loop-line.line-index =
    omega (arith, c.loop-line-test.false, ap length c.through-line-items.ensures) in (
      λ _. record {
        off = sym c.has.ensures ∙ c.if-has.false;
        slow = λ _ _. subst (λ (s : Side). IsSlow g p s c.args.v points) side
            (through-each g c.args.v c.loop-line.line-index
            (IsSlowOn p c.other-side.result points) end c.loop-line.invariant);
      },
      λ _. refl,
    )
