use Rattle.std.proofs.Common.{Some, None, refl, sym, ◌∙◌, subst, arith}
use Rattle.pg_threat.proofs.Common.{LeadsToLine, View}
use Rattle.pg_threat.specs.Search.{Begins, IsFound, SearchesAt}
use Rattle.pg_threat.proofs.Searching.{forced-far, begins-depth, forced-searches, forced-none}
use Rattle.pg_threat.proofs.Searching.{forced-near, forced-found, forced-deeper, next-depth}
use Rattle.pg_threat.proofs.search.forced.Goals as goal

pub returns-then-is_far-clause-answer : goal.returns-then-is_far-clause-answer
returns-then-is_far-clause-answer c = forced-far c.args.b.now.game c.args.b.now.stand.position
    c.args.side c.args.depth c.requires.may c.is_far.ensures.fits.disjoint c.requires.going
    c.requires.turn (c.is_far.ensures.one c.if-is_far.true) (c.is_far.ensures.two c.if-is_far.true)

pub returns-in-Some-clause-answer : goal.returns-in-Some-clause-answer
returns-in-Some-clause-answer c = forced-near c.args.b.now.game c.args.b.now.stand.position
    c.args.side c.requires.single c.requires.may c.lacking.ensures.fits c.requires.going
    c.requires.turn c.args.depth c.lacking.result.points c.in-Some.v c.last.result
    c.lacking.ensures.points c.in-Some.ensures.found c.last.ensures.points c.last.ensures.len

pub loop-least-init : goal.loop-least-init
loop-least-init c = (
  refl,
  omega arith,
  forced-deeper c.args.b.now.game c.args.b.now.stand.position c.args.side c.requires.single
      c.requires.may c.attacks_at-attacks.ensures.fits c.requires.going c.requires.turn
      c.lacking.result.points c.lacking.ensures.points c.in_default.ensures.none,
)

pub first_of_depth-requires-clause-searches : goal.first_of_depth-requires-clause-searches
first_of_depth-requires-clause-searches c = subst
    (λ (b : View). SearchesAt b.game b.stand.position c.args.side c.loop-least.least)
    (sym c.loop-least.invariant.0)
    (forced-searches c.args.b.now.game c.args.b.now.stand.position c.args.side c.requires.single
    c.requires.may c.attacks_at-attacks.ensures.fits c.requires.going c.requires.turn
    c.loop-least.least c.loop-least.invariant.2 c.loop-least.invariant.1
    (omega (arith, c.loop-least-test.true, c.requires.few)))

pub returns-in-Some-first_of_depth-clause-answer : goal.returns-in-Some-first_of_depth-clause-answer
returns-in-Some-first_of_depth-clause-answer c =
    let found = subst
    (λ (b : View). IsFound (LeadsToLine b.game b.stand.position c.args.side) c.loop-least.least
    (Some c.in-Some-first_of_depth.line)) c.loop-least.invariant.0
    c.in-Some-first_of_depth.ensures.found in
    forced-found c.args.b.now.game c.args.b.now.stand.position c.args.side c.requires.single
    c.requires.may c.attacks_at-attacks.ensures.fits c.requires.going c.requires.turn c.args.depth
    c.loop-least.least c.in-Some-first_of_depth.line (omega (arith, c.loop-least-test.true))
    c.loop-least.invariant.2 found

pub loop-least-preserved : goal.loop-least-preserved
loop-least-preserved c =
    let none = subst (λ (b : View). IsFound (LeadsToLine b.game b.stand.position c.args.side)
    c.loop-least.least None) c.loop-least.invariant.0 c.in_default-first_of_depth.ensures.found in (
      c.in_default-first_of_depth.ensures.kept ∙ c.loop-least.invariant.0,
      omega arith,
      next-depth (LeadsToLine c.args.b.now.game c.args.b.now.stand.position c.args.side)
          c.loop-least.least c.loop-least.invariant.2 none,
    )

pub first_of_depth-requires-clause-begins : goal.first_of_depth-requires-clause-begins
first_of_depth-requires-clause-begins c =
    let g = c.args.b.now.game in
    let p = c.args.b.now.stand.position in
    let searches = forced-searches g p c.args.side c.requires.single c.requires.may
    c.attacks_at-attacks.ensures.fits c.requires.going c.requires.turn c.loop-least.least
    c.loop-least.invariant.2 c.loop-least.invariant.1
    (omega (arith, c.loop-least-test.true, c.requires.few)) in
    let found = c.attacks_at-attacks in
    subst
    (λ (b : View). Begins b.game b.stand.position c.args.side c.loop-least.least
    c.of_depth.result.now) (sym c.loop-least.invariant.0)
    (begins-depth g p c.args.side c.loop-least.least searches found.result.all found.result.forks
    c.of_depth.result.now c.of_depth.ensures found.ensures.all found.ensures.twice)

pub returns-in_default-first_from-clause-answer : goal.returns-in_default-first_from-clause-answer
returns-in_default-first_from-clause-answer c = forced-none c.args.b.now.game
    c.args.b.now.stand.position c.args.side c.args.depth c.requires.may
    c.lacking.ensures.fits.disjoint c.requires.going c.requires.turn c.lacking.result.points
    c.lacking.ensures.points c.in_default.ensures.none c.attacks_at-attacks.result.all
    c.attacks_at-attacks.ensures.all c.in_default-first_from.ensures.none
