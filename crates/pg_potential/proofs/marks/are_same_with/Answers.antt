use Rattle.std.proofs.Common.{◌≡◌, ◌≤◌, ◌∙◌, ◌<◌, ℕ, List, length, get_or, take, ap, refl, sym}
use Rattle.std.proofs.Common.{arith}
use Rattle.std.proofs.Common.{ext_get_or}
use Rattle.std.proofs.lemmas.List.{length-set}
use Rattle.pg_base.specs.WordLemmas.{with_bit}
use Rattle.pg_potential.proofs.Common.{false≢true, get_or-take, length-take-le}
use Rattle.pg_potential.proofs.marks.are_same_with.Goals as goal

pub returns : goal.returns
returns c =
    let mine = c.args.mine.now in
    let theirs = with_bit c.args.theirs.now c.args.v in
    let n = c.args.count in
    let many : length theirs ≡ length c.args.theirs.now = length-set _ _ _ in
    let long = length-take-le n mine c.requires.mine in
    let longs = length-take-le n theirs (omega (arith, c.requires.theirs, many)) in (
      λ _. ext_get_or 0 (take n mine) (take n theirs) (long ∙ sym longs) (λ j lt.
          let below : j < n = omega (arith, lt, long) in
          get_or-take n mine j 0 below
          ∙ c.loop-i.invariant j (omega (arith, below, c.loop-i-test.false))
          ∙ sym (get_or-take n theirs j 0 below)),
      λ _. refl,
    )
