use Rattle.std.proofs.Common.{◌≡◌, ◌∙◌, length, sym, arith}
use Rattle.pg_potential.proofs.FlatMarks.{length-kept}
use Rattle.pg_potential.proofs.marks.Marks.count.Goals as goal

pub returns : goal.returns
returns c =
    let count : c.len.result ≡ length c.args.self.now.turns.items = omega (arith, c.len.ensures) in
    count ∙ sym (length-kept c.args.self.now)
