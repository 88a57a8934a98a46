use Rattle.std.proofs.Common.{arith}
use Rattle.std.proofs.lemmas.Bool.{leb-true}
use Rattle.pg_leaf.proofs.Foreseeing.{no-pairs}
use Rattle.pg_leaf.proofs.ahead.Ahead.is_short.Goals as goal

pub returns : goal.returns
returns c = λ q m h. no-pairs c.args.b.now q c.args.v m c.args.self.now.breaker
    c.args.self.now.defender c.live_count-lines.result c.lost-lost.result c.requires.weighed.breaker
    c.live_count-lines.ensures c.lost-lost.ensures
    (omega (arith, leb-true _ _ h, c.from.ensures, c.free_count.ensures, c.if-lines-lost.false))
