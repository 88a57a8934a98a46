use Rattle.std.proofs.Common.{◌≡◌, ◌+◌, ◌-◌, ◌*◌, ◌/◌, ◌%◌, ◌∙◌, ℕ, false, length, get_or, sym, ap}
use Rattle.std.proofs.Common.{subst, subst₂, arith}
use Rattle.pg_check.proofs.Common.{false≢true, Position, has_filled, Filling}
use Rattle.pg_check.specs.Rounds.{attack_at, before_round, IsClear}
use Rattle.pg_check.proofs.RoundLaws.{leads-odd, lead-all, lead-none, lead-long, lead-filling}
use Rattle.pg_check.proofs.RoundLaws.{lead-safe, lead-forced, safe-clear, all-lead, mine-unfilled}
use Rattle.pg_check.proofs.RoundLaws.{zeros}
use Rattle.pg_check.proofs.rounds.rounds_lead.Goals as goal

pub returns-then-points-eq0 : goal.returns-then-points-eq0
returns-then-points-eq0 c = (
  λ on. absurd (false≢true on),
  λ h.
      let odd = leads-odd c.args.g.now c.args.side c.args.points.now c.args.p.now h in
      absurd (omega (arith, odd, c.if-points-eq0.true)),
)

pub walk-requires : goal.walk-requires
walk-requires c = record { zero = zeros 1024 }

pub returns-in_default : goal.returns-in_default
returns-in_default c = (
  λ on. absurd (false≢true on),
  λ h. absurd (c.in_default.ensures.none (lead-all c.args.g.now c.args.p.now c.args.side
      c.args.points.now c.requires.ready h)),
)

pub returns-then-has_filled : goal.returns-then-has_filled
returns-then-has_filled c = (
  λ on. absurd (false≢true on),
  λ h.
      let none = lead-none c.args.g.now c.args.p.now c.args.side c.args.points.now c.requires.ready
      h c.requires.long in
      absurd (false≢true (
      sym none ∙ sym (ap (λ (q : Position). has_filled c.args.g.now q c.args.side)
      c.in-Some.ensures.last)
      ∙ sym c.has_filled.ensures ∙ c.if-has_filled.true
      )),
)

pub returns-then-not-is_filling : goal.returns-then-not-is_filling
returns-then-not-is_filling c = (
  λ on. absurd (false≢true on),
  λ h.
      let g = c.args.g.now in
      let points = c.args.points.now in
      let long = lead-long g c.args.p.now c.args.side points c.requires.ready h in
      let place : 2 * (length points / 2) ≡ length points - 1 = omega (arith, long) in
      let filling =
      subst₂ (λ (q : Position) (x : ℕ). Filling g q c.args.side x) (sym c.in-Some.ensures.last)
      (ap (λ (k : ℕ). get_or points k 0) place)
      (lead-filling g c.args.p.now c.args.side points c.requires.ready h) in
      absurd (false≢true (sym c.if-not-is_filling.true ∙ c.is_filling.ensures.1 filling)),
)

pub returns-then-not-leaves_no_threat : goal.returns-then-not-leaves_no_threat
returns-then-not-leaves_no_threat c = (
  λ on. absurd (false≢true on),
  λ h.
      let g = c.args.g.now in
      let p = c.args.p.now in
      let points = c.args.points.now in
      let times = c.walk.new.times in
      absurd (false≢true (
      sym c.if-not-leaves_no_threat.true
      ∙ c.leaves_no_threat.ensures.1 (λ kind.
      subst (λ (q : Position). IsClear g c.args.side q times (length points / 2 + 1))
      (sym c.in-Some.ensures.last)
      (safe-clear g p c.args.side points times c.requires.ready c.in-Some.ensures.rounds
      c.in-Some.ensures.times kind
      (lead-safe g p c.args.side points c.requires.ready h kind)))
      )),
)

pub are_forced-requires-clause-unfilled : goal.are_forced-requires-clause-unfilled
are_forced-requires-clause-unfilled c = λ i lt.
    let g = c.args.g.now in
    let points = c.args.points.now in
    let none =
    sym (ap (λ (q : Position). has_filled g q c.args.side) c.in-Some.ensures.last)
    ∙ sym c.has_filled.ensures ∙ c.if-has_filled.false in
    mine-unfilled g c.args.p.now c.args.side points (length points / 2) c.in-Some.ensures.rounds
    c.requires.ready.single
    (record { position = c.requires.ready.position; turn = c.requires.ready.turn }) none i lt

pub returns : goal.returns
returns c =
    let g = c.args.g.now in
    let p = c.args.p.now in
    let side = c.args.side in
    let points = c.args.points.now in
    let times = c.walk.new.times in
    let last = c.in-Some.ensures.last in
    let odd : length points % 2 ≡ 1 = omega (arith, c.if-points-eq0.false) in
    let place : length points - 1 ≡ 2 * (length points / 2) = omega (arith, odd) in
    let none : has_filled g (before_round g p points (length points / 2)) side ≡ false =
    sym (ap (λ (q : Position). has_filled g q side) last) ∙ sym c.has_filled.ensures
    ∙ c.if-has_filled.false in
    let filling : Filling g (before_round g p points (length points / 2)) side
    (attack_at points (length points / 2)) =
    subst₂ (λ (q : Position) (x : ℕ). Filling g q side x) last
    (ap (λ (k : ℕ). get_or points k 0) place)
    (c.is_filling.ensures.0 c.if-not-is_filling.false) in (
      λ on. all-lead g p side points times c.requires.ready c.in-Some.ensures.rounds odd
          c.in-Some.ensures.times none filling
          (λ kind. subst (λ (q : Position). IsClear g side q times (length points / 2 + 1)) last
          (c.leaves_no_threat.ensures.0 c.if-not-leaves_no_threat.false kind))
          (c.are_forced.ensures.0 on),
      λ h. c.are_forced.ensures.1 (lead-forced g p side points c.requires.ready h),
    )
