use Rattle.std.proofs.Common.{sym, ◌∙◌, arith}
use Rattle.pg_game.specs.Position.{is_free}
use Rattle.pg_game.proofs.Lowest.{first_from, none_from}
use Rattle.pg_game.proofs.position.Position.lowest_free_below.Goals as goal

pub returns-then-is_free : goal.returns-then-is_free
returns-then-is_free c =
    sym (first_from (is_free c.args.self.now) c.loop-v.v 0 c.args.n (omega arith) (omega (
      arith,
      c.loop-v-test.true,
    )) (sym c.is_free.ensures ∙ c.if-is_free.true) (λ w above below. c.loop-v.invariant w below))

pub returns : goal.returns
returns c = sym (none_from (is_free c.args.self.now) 0 c.args.n
    (λ w above below. c.loop-v.invariant w (omega (arith, below, c.loop-v-test.false))))
