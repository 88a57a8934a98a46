use Rattle.std.proofs.Common.{Some, None, refl, sym, ◌∙◌, subst, arith}
use Rattle.pg_threat.proofs.Common.{LeadsToLine, View}
use Rattle.pg_threat.specs.Search.{Begins, IsFound, SearchesAt}
use Rattle.pg_threat.proofs.Searching.{begins-depth, forced-searches, forced-found, next-depth}
use Rattle.pg_threat.proofs.search.forced_after.Goals as goal

pub loop-depth-init : goal.loop-depth-init
loop-depth-init c = (refl, omega arith, c.requires.bound.least)

pub first_of_depth-requires-clause-searches : goal.first_of_depth-requires-clause-searches
first_of_depth-requires-clause-searches c = subst
    (λ (b : View). SearchesAt b.game b.stand.position c.args.side c.loop-depth.depth)
    (sym c.loop-depth.invariant.0)
    (forced-searches c.args.b.now.game c.args.b.now.stand.position c.args.side c.requires.single
    c.requires.may c.attacks_at-attacks.ensures.fits c.requires.going c.requires.turn
    c.loop-depth.depth c.loop-depth.invariant.2 c.loop-depth.invariant.1
    (omega (arith, c.loop-depth-test.true)))

pub first_of_depth-requires-clause-begins : goal.first_of_depth-requires-clause-begins
first_of_depth-requires-clause-begins c =
    let g = c.args.b.now.game in
    let p = c.args.b.now.stand.position in
    let depth = c.loop-depth.depth in
    let searches = forced-searches g p c.args.side c.requires.single c.requires.may
    c.attacks_at-attacks.ensures.fits c.requires.going c.requires.turn depth
    c.loop-depth.invariant.2 c.loop-depth.invariant.1 (omega (arith, c.loop-depth-test.true)) in
    let found = c.attacks_at-attacks in
    let tried = c.of_depth_after-tried in
    let begins = begins-depth g p c.args.side depth searches found.result.all found.result.forks
    _ refl found.ensures.all found.ensures.twice in
    subst (λ (b : View). Begins b.game b.stand.position c.args.side depth tried.result)
    (sym c.loop-depth.invariant.0)
    (λ v points deep leads. tried.ensures.late v (begins v points deep leads)
    (λ at. c.requires.bound.first v points leads (deep ∙ at)))

pub returns-in-Some-clause-answer : goal.returns-in-Some-clause-answer
returns-in-Some-clause-answer c =
    let found = subst
    (λ (b : View). IsFound (LeadsToLine b.game b.stand.position c.args.side) c.loop-depth.depth
    (Some c.in-Some.found)) c.loop-depth.invariant.0 c.in-Some.ensures.found in
    forced-found c.args.b.now.game c.args.b.now.stand.position c.args.side c.requires.single
    c.requires.may c.attacks_at-attacks.ensures.fits c.requires.going c.requires.turn 3
    c.loop-depth.depth c.in-Some.found (omega (arith, c.loop-depth-test.true))
    c.loop-depth.invariant.2 found

pub loop-depth-preserved : goal.loop-depth-preserved
loop-depth-preserved c =
    let none = subst (λ (b : View). IsFound (LeadsToLine b.game b.stand.position c.args.side)
    c.loop-depth.depth None) c.loop-depth.invariant.0 c.in_default.ensures.found in (
      c.in_default.ensures.kept ∙ c.loop-depth.invariant.0,
      omega arith,
      next-depth (LeadsToLine c.args.b.now.game c.args.b.now.stand.position c.args.side)
          c.loop-depth.depth c.loop-depth.invariant.2 none,
    )
