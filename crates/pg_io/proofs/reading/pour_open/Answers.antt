use Rattle.std.proofs.Common.{ℕ, Option, rules, arith, subst, sym, Ok, Result}
use Rattle.pg_io.specs.Files.{Takes}
use Rattle.pg_io.specs.declared.files.Failed.{Failed}
use Rattle.pg_io.proofs.Pouring.{HasPoured, pours_more}
use Rattle.pg_io.proofs.reading.pour_open.Goals as goal

pub loop-spare-preserved : goal.loop-spare-preserved
loop-spare-preserved g c =
    let told = g.F.Files.told in
    let poured = subst (λ (spare : Option ℕ).
    HasPoured g.S.Sink.took c.args.sink.now c.loop-spare.sink (told c.args.files.now).left
    (told c.loop-spare.files).left c.args.limit spare) c.in-Some.is c.loop-spare.invariant.2 in
    let takes = subst (λ (r : Result ℕ Failed). Takes {E = Failed} (told c.loop-spare.files).left
    (told c.next.new.self).left c.next.new.buf r) c.in-Ok.is c.next.ensures.bytes in (
      search rules,
      search rules,
      pours_more Failed g.S.Sink.took _ _ _ _ _ _ c.args.limit c.in-Some.within c.in-Ok.count
          c.checked_sub-spare.result _ _ poured takes c.in-Ok.ensures.bound
          (search rules) c.checked_sub-spare.ensures c.in_ok-take.ensures.took,
      search rules,
      search rules,
    )
