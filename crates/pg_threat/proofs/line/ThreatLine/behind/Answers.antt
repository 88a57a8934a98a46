use Rattle.std.proofs.Common.{◌≡◌, ◌<◌, ◌+◌, [], ◌∷◌, ◌++◌, length, get_or, arith, ap, sym, ◌∙◌}
use Rattle.std.proofs.lemmas.List.{take_more_set, take_more}
use Rattle.std.proofs.Math.ListN.{length-set}
use Rattle.pg_threat.proofs.line.ThreatLine.behind.Goals as goal

pub loop-i-preserved : goal.loop-i-preserved
loop-i-preserved c =
    let lt : c.loop-i.i < length c.args.self.now.points = omega arith in
    let count : length c.loop-i.points ≡ 7 = c.loop-i.invariant.0 in
    let room : c.loop-i.i + 1 < length c.loop-i.points = omega arith in (
      simp length-set count,
      take_more_set c.loop-i.points (c.loop-i.i + 1)
          (get_or c.args.self.now.points c.loop-i.i 0) room
          ∙ ap (λ xs. xs ++ get_or c.args.self.now.points c.loop-i.i 0 ∷ []) c.loop-i.invariant.1
          ∙ ap (λ xs. c.args.v ∷ xs) (sym (take_more c.args.self.now.points c.loop-i.i 0 lt)),
    )
