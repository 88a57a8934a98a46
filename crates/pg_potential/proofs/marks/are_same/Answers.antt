use Rattle.std.proofs.Common.{◌∙◌, ◌<◌, ℕ, List, get_or, take, ap, refl, sym, arith}
use Rattle.std.proofs.Common.{ext_get_or}
use Rattle.pg_potential.proofs.Common.{false≢true, get_or-take, length-take-le}
use Rattle.pg_potential.proofs.marks.are_same.Goals as goal

pub returns-then-mine-i : goal.returns-then-mine-i
returns-then-mine-i c =
    let n = c.args.count in
    let i = c.loop-i.i in (
      λ no. absurd (false≢true no),
      λ same. absurd (c.if-mine-i.true (sym (get_or-take n c.args.mine.now i 0 c.loop-i-test.true)
          ∙ ap (λ (l : List ℕ). get_or l i 0) same
          ∙ get_or-take n c.args.theirs.now i 0 c.loop-i-test.true)),
    )

pub returns : goal.returns
returns c =
    let mine = c.args.mine.now in
    let theirs = c.args.theirs.now in
    let n = c.args.count in
    let long = length-take-le n mine c.requires.mine in
    let longs = length-take-le n theirs c.requires.theirs in (
      λ _. ext_get_or 0 (take n mine) (take n theirs) (long ∙ sym longs) (λ j lt.
          let below : j < n = omega (arith, lt, long) in
          get_or-take n mine j 0 below
          ∙ c.loop-i.invariant j (omega (arith, below, c.loop-i-test.false))
          ∙ sym (get_or-take n theirs j 0 below)),
      λ _. refl,
    )
