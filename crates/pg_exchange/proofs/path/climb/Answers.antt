use Rattle.std.proofs.Common.{◌≡◌, ◌≢◌, ◌⊎◌, ◌<◌, ℕ, Bool, ap, arith, sym, ◌∙◌, subst, inl}
use Rattle.std.proofs.Common.{inr}
use Rattle.pg_exchange.proofs.Common.{contains}
use Rattle.pg_exchange.specs.Path.{first_label, second_label, above_of, via_of, depth_of, IsStep}
use Rattle.pg_exchange.specs.Path.{any}
use Rattle.pg_exchange.proofs.Tests.{emptied, with_point}
use Rattle.pg_exchange.proofs.ClimbLemmas.{IsClimbed-begin, IsClimbedEither}
use Rattle.pg_exchange.proofs.ClimbLemmas.{IsClimbedEither-turned, IsClimbedEither-step}
use Rattle.pg_exchange.proofs.ClimbLemmas.{IsPath-either}
use Rattle.pg_exchange.proofs.path.climb.Goals as goal

pub loop-p-init : goal.loop-p-init
loop-p-init c =
    record {
      climbed = inl (IsClimbed-begin (first_label c.args.g.now c.args.names.now)
          (second_label c.args.g.now c.args.names.now) (contains c.args.base.now)
          (depth_of c.args.steps.now) (above_of c.args.steps.now)
          (via_of c.args.steps.now) c.args.from c.args.to (contains c.empty-found.result)
          (emptied c.empty-found.result c.empty-found.ensures));
      range_p = c.requires.from;
      range_q = c.requires.to;
    }

-- both labels are in range
both_low : (p q deep high n : ℕ)
    → ((deep ≡ p) × (high ≡ q)) ⊎ ((deep ≡ q) × (high ≡ p))
    → p < n
    → q < n
    → (deep < n) × (high < n)
both_low p q deep high n same lp lq =
    elim same [
      | inl e ↦
          let d : deep ≡ p = e.0 in let h : high ≡ q = e.1 in
          (omega arith, omega arith)
      | inr e ↦
          let d : deep ≡ q = e.0 in let h : high ≡ p = e.1 in
          (omega arith, omega arith)
    ]

pub fits-requires-clause-here : goal.fits-requires-clause-here
fits-requires-clause-here c =
    (both_low c.loop-p.p c.loop-p.q c.deeper_first-deep.result.0 c.deeper_first-deep.result.1
    c.args.g.now.vertices c.deeper_first-deep.ensures.same c.loop-p.invariant.range_p
    c.loop-p.invariant.range_q).0

pub loop-p-smaller : goal.loop-p-smaller
loop-p-smaller c =
    let depth = depth_of c.args.steps.now in
    let deep : ℕ = c.deeper_first-deep.result.0 in
    let high : ℕ = c.deeper_first-deep.result.1 in
    let p : ℕ = c.loop-p.p in
    let q : ℕ = c.loop-p.q in
    let step = c.fits.ensures.step c.if-not-fits.false in
    let lower : depth (above_of c.args.steps.now deep) < depth deep = step.lower in
    elim c.deeper_first-deep.ensures.same [
      | inl e ↦
          let d : depth deep ≡ depth p = ap depth e.0 in
          let h : depth high ≡ depth q = ap depth e.1 in
          omega arith
      | inr e ↦
          let d : depth deep ≡ depth q = ap depth e.0 in
          let h : depth high ≡ depth p = ap depth e.1 in
          omega arith
    ]

pub loop-p-preserved : goal.loop-p-preserved
loop-p-preserved c =
    let la = first_label c.args.g.now c.args.names.now in
    let lb = second_label c.args.g.now c.args.names.now in
    let base = contains c.args.base.now in
    let depth = depth_of c.args.steps.now in
    let above = above_of c.args.steps.now in
    let via = via_of c.args.steps.now in
    let from : ℕ = c.args.from in
    let to : ℕ = c.args.to in
    let p : ℕ = c.loop-p.p in
    let q : ℕ = c.loop-p.q in
    let deep : ℕ = c.deeper_first-deep.result.0 in
    let high : ℕ = c.deeper_first-deep.result.1 in
    let i = c.loop-p.invariant in
    let same = c.deeper_first-deep.ensures.same in
    let found = contains c.loop-p.found in
    let low = both_low p q deep high c.args.g.now.vertices same i.range_p i.range_q in
    let apart : deep ≢ high = λ e. c.loop-p-test.true (elim same [
      | inl s ↦ sym s.0 ∙ (e ∙ s.1)
      | inr s ↦ sym s.1 ∙ (sym e ∙ s.0)
    ]) in
    let step : IsStep la lb base any above via depth deep =
    c.fits.ensures.step c.if-not-fits.false in
    let next = IsClimbedEither-step la lb base depth above via from to deep high found any apart
    c.deeper_first-deep.ensures.deeper step
    (IsClimbedEither-turned la lb base depth above via from to p q deep high found same i.climbed)
    in
    let now = with_point c.loop-p.found c.put.new.self (via deep) c.put.ensures in
    record {
      climbed = subst (λ (s : ℕ → Bool).
          IsClimbedEither la lb base depth above via from to (above deep) high s) (sym now) next;
      range_p = (c.fits.ensures.range c.if-not-fits.false).0;
      range_q = low.1;
    }

pub returns : goal.returns
returns c = IsPath-either (first_label c.args.g.now c.args.names.now)
    (second_label c.args.g.now c.args.names.now) (contains c.args.base.now)
    (depth_of c.args.steps.now) (above_of c.args.steps.now)
    (via_of c.args.steps.now) c.args.from c.args.to c.loop-p.p c.loop-p.q
    (contains c.loop-p.found) c.loop-p-test.false c.loop-p.invariant.climbed
