use Rattle.std.proofs.Common.{◌≡◌, ◌<◌, ◌≤◌, ◌+◌, ◌∙◌, ℕ, List, length, get_or, ap, sym, subst, inl}
use Rattle.std.proofs.Common.{inr, arith}
use Rattle.pg_threat.proofs.Common.{cases_eq, other, lines_of, line_at, lines_holding}
use Rattle.pg_threat.specs.Lacking.{own_count, IsOutOfReach}
use Rattle.pg_threat.proofs.Idle.{through-each}
use Rattle.pg_threat.proofs.Partners.{through-low}
use Rattle.pg_threat.proofs.lacking.is_idle.Goals as goal

pub serves-requires-clause-range : goal.serves-requires-clause-range
serves-requires-clause-range c =
    let g = c.args.b.now.game in
    let is = c.through-line-items.ensures in
    let low : c.loop-line.line-index < length (lines_holding (lines_of g) c.args.v) =
    omega (arith, c.loop-line-test.true, ap length is) in
    rw is (through-low (lines_of g) c.args.v c.loop-line.line-index low)

pub loop-line-preserved : goal.loop-line-preserved
loop-line-preserved c = λ i low.
    let g = c.args.b.now.game in
    let p = c.args.b.now.stand.position in
    let at = λ (j : ℕ). get_or (lines_holding (lines_of g) c.args.v) j 0 in
    let is : get_or c.through-line-items.result.now c.loop-line.line-index 0
    ≡ at c.loop-line.line-index =
    ap (λ (ys : List ℕ). get_or ys c.loop-line.line-index 0) c.through-line-items.ensures in
    elim (cases_eq i c.loop-line.line-index) [
      | inr ne ↦ c.loop-line.invariant i (omega arith)
      | inl e ↦
          let same : get_or c.through-line-items.result.now c.loop-line.line-index 0 ≡ at i =
          is ∙ ap at (sym e) in (
            subst (λ (j : ℕ). IsOutOfReach p c.args.side c.args.u (c.args.depth + 1) (line_at g j))
                same (c.serves.ensures.mine c.if-serves.false),
            λ kind. subst
                (λ (j : ℕ). own_count p (other c.args.side) (line_at g j) + c.args.depth
                ≤ length (line_at g j)) same (c.serves.ensures.theirs c.if-serves.false kind),
          )
    ]

pub returns : goal.returns
returns c =
    let g = c.args.b.now.game in
    let p = c.args.b.now.stand.position in
    let end : length (lines_holding (lines_of g) c.args.v) ≤ c.loop-line.line-index =
    omega (arith, c.loop-line-test.false, ap length c.through-line-items.ensures) in
    λ _. record {
      mine = through-each g c.args.v c.loop-line.line-index
          (IsOutOfReach p c.args.side c.args.u (c.args.depth + 1)) end
          (λ i low. (c.loop-line.invariant i low).0);
      theirs = λ kind. through-each g c.args.v c.loop-line.line-index
          (λ (line : List ℕ). own_count p (other c.args.side) line + c.args.depth ≤ length line) end
          (λ i low. (c.loop-line.invariant i low).1 kind);
    }
