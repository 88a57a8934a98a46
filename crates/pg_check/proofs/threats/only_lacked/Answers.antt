use Rattle.std.proofs.Common.{◌∙◌, ◌<◌, length, sym, arith}
use Rattle.pg_check.proofs.ThreatTests.{lacked-own, lacked-first, lacked-second, lacked-one}
use Rattle.pg_check.proofs.ThreatTests.{lacked-none}
use Rattle.pg_check.proofs.threats.only_lacked.Goals as goal
use Rattle.pg_check.proofs.threats.only_lacked.Goals.{then-not-has+else-is_some, else-not-has}

pub returns-then-is_some-clause-none : goal.returns-then-is_some-clause-none
returns-then-is_some-clause-none c =
    let within : c.loop-i.i < length c.args.line.now =
    omega (arith, c.len-i-end.ensures.length, c.loop-i-test.true) in
    lacked-second c.args.points.now c.args.line.now c.loop-i.i c.at-v.result within c.at-v.ensures
    c.loop-i.lacked (sym c.is_some.ensures ∙ c.if-is_some.true)
    (sym c.has.ensures ∙ c.if-not-has.true) c.len-i-end.ensures.ascending c.loop-i.invariant.0

pub loop-i-preserved : goal.loop-i-preserved
loop-i-preserved c =
    let s = c.args.points.now in
    let line = c.args.line.now in
    let within : c.loop-i.i < length line =
    omega (arith, c.len-i-end.ensures.length, c.loop-i-test.true) in
    let small : c.at-v.result < 1024 = rw c.at-v.ensures (c.requires c.loop-i.i 0 within) in
    elim c.if-not-has.branch [
      | then-not-has+else-is_some w ↦ rw w.lacked-is (
        lacked-first s line c.loop-i.i c.at-v.result within c.at-v.ensures c.loop-i.lacked
            (sym w.is_some.ensures ∙ w.if-is_some.false)
            (sym c.has.ensures ∙ w.if-not-has.true) c.loop-i.invariant.0,
        small,
      )
      | else-not-has w ↦ rw w.lacked-is (
        lacked-own s line c.loop-i.i c.at-v.result within c.at-v.ensures c.loop-i.lacked
            (sym c.has.ensures ∙ w.if-not-has.false) c.loop-i.invariant.0,
        c.loop-i.invariant.1,
      )
    ]

pub returns-clause-one : goal.returns-clause-one
returns-clause-one c = lacked-one c.args.points.now c.args.line.now c.loop-i.lacked c.loop-i.i
    (omega (arith, c.len-i-end.ensures.length, c.loop-i-test.false)) c.loop-i.invariant.0

pub returns-clause-none : goal.returns-clause-none
returns-clause-none c = lacked-none c.args.points.now c.args.line.now c.loop-i.lacked c.loop-i.i
    (omega (arith, c.len-i-end.ensures.length, c.loop-i-test.false)) c.loop-i.invariant.0
