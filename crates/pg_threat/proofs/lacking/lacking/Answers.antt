use Rattle.std.proofs.Common.{arith, sym, ◌∙◌, ◌≡◌, ◌+◌, subst, ap}
use Rattle.pg_threat.proofs.Common.{FinSet, contains, contains-empty, nat_cmp, Contains, other}
use Rattle.pg_threat.proofs.Common.{Side, live_lines, live_with}
use Rattle.pg_threat.specs.Lacking.{IsNextLive}
use Rattle.pg_threat.proofs.LineCounts.{none-lacking}
use Rattle.pg_threat.proofs.Scans.{scan-over, scan-falls, twice-none, twice-first, twice-lacked}
use Rattle.pg_threat.proofs.Scans.{twice-other}
use Rattle.pg_threat.proofs.Walks.{first-live, next-live, live-listed}
use Rattle.pg_threat.proofs.lacking.lacking.Goals as goal
use Rattle.pg_threat.proofs.lacking.lacking.Goals.{then-count-missing, else-count-missing}

pub loop-next-init : goal.loop-next-init
loop-next-init c =
    let g = c.args.b.now.game in
    let p = c.args.b.now.stand.position in
    let on = subst (λ (s : Side). IsNextLive g p s 0 c.first_live-next.result) c.other-enemy.ensures
    (first-live g p c.other-enemy.result c.first_live-next.result c.first_live-next.ensures.line) in
    rw (c.empty.ensures, c.empty-2.ensures)
    (twice-first g p c.args.side c.args.missing c.first_live-next.result on)

pub count-requires : goal.count-requires
count-requires c = (c.loop-next.invariant.scan.within c.in-Some.line c.in-Some.is).0

pub next_live-next-requires : goal.next_live-next-requires
next_live-next-requires c =
    let g = c.args.b.now.game in
    let p = c.args.b.now.stand.position in
    let within = c.loop-next.invariant.scan.within c.in-Some.line c.in-Some.is in
    subst (λ (s : Side). Contains (live_lines g p s) c.in-Some.line) (sym c.other-enemy.ensures)
    (live-listed g p (other c.args.side) c.in-Some.line within.0 within.1)

pub loop-next-preserved : goal.loop-next-preserved
loop-next-preserved c =
    let g = c.args.b.now.game in
    let p = c.args.b.now.stand.position in
    let line = c.in-Some.line in
    let on =
    subst (λ (s : Side). IsNextLive g p s (line + 1) c.next_live-next.result) c.other-enemy.ensures
    (next-live g p c.other-enemy.result line c.next_live-next.result c.next_live-next.ensures) in
    let scan = rw c.in-Some.is at c.loop-next.invariant in
    let lines = c.count.ensures in
    elim c.if-count-missing.branch [
      | then-count-missing w ↦ rw w.lacked-is
          (twice-lacked g p c.args.side c.args.missing c.loop-next.lacked.points
          c.loop-next.lacked.twice line c.next_live-next.result scan on w.put_open.new.lacked.points
          w.put_open.new.lacked.twice (omega (
            arith,
            lines,
            c.line_len.ensures,
            w.if-count-missing.true,
          )) w.put_open.ensures.points w.put_open.ensures.kept w.put_open.ensures.again)
      | else-count-missing w ↦ rw w.lacked-is
          (twice-other g p c.args.side c.args.missing c.loop-next.lacked.points
          c.loop-next.lacked.twice line c.next_live-next.result scan on
          (λ e. w.if-count-missing.false (omega (arith, lines, c.line_len.ensures, e))))
    ]

pub returns-clause-points : goal.returns-clause-points
returns-clause-points c =
    let over = rw c.in_default.is at c.loop-next.invariant in
    scan-over c.args.b.now.game c.args.b.now.stand.position c.args.side c.args.missing
    c.loop-next.lacked.points over.scan

pub returns-clause-twice : goal.returns-clause-twice
returns-clause-twice c = let over = rw c.in_default.is at c.loop-next.invariant in over.again

pub loop-next-smaller : goal.loop-next-smaller
loop-next-smaller c =
    let g = c.args.b.now.game in
    let p = c.args.b.now.stand.position in
    let line = c.in-Some.line in
    let on =
    subst (λ (s : Side). IsNextLive g p s (line + 1) c.next_live-next.result) c.other-enemy.ensures
    (next-live g p c.other-enemy.result line c.next_live-next.result c.next_live-next.ensures) in
    scan-falls g p c.args.side c.args.missing line c.loop-next.next c.next_live-next.result
    (c.loop-next.invariant.scan.within line c.in-Some.is).0 c.in-Some.is on

-- ---- where the board counts no such line

pub returns-then-live_with-eq0-clause-points : goal.returns-then-live_with-eq0-clause-points
returns-then-live_with-eq0-clause-points c =
    let g = c.args.b.now.game in
    let p = c.args.b.now.stand.position in
    let none = subst (λ (s : Side). live_with g p s c.args.missing ≡ 0) c.other-enemy.ensures
    (sym c.live_with.ensures ∙ c.if-live_with-eq0.true) in
    λ v. ap (λ (s : FinSet nat_cmp). contains s v) c.empty.ensures
    ∙ contains-empty nat_cmp v
    ∙ sym (none-lacking g p c.args.side c.args.missing none v)

pub returns-then-live_with-eq0-clause-twice : goal.returns-then-live_with-eq0-clause-twice
returns-then-live_with-eq0-clause-twice c =
    let g = c.args.b.now.game in
    let p = c.args.b.now.stand.position in
    let none = subst (λ (s : Side). live_with g p s c.args.missing ≡ 0) c.other-enemy.ensures
    (sym c.live_with.ensures ∙ c.if-live_with-eq0.true) in
    λ v t. absurd
    (twice-none g p c.args.side c.args.missing
    (none-lacking g p c.args.side c.args.missing none) v t)
