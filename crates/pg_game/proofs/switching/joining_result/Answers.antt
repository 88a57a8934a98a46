use Rattle.std.proofs.Common.{◌≡◌, ◌∙◌, sym, ap, not, ◌&&◌, true, false, arith}
use Rattle.pg_game.proofs.Common.{lt-ltb, contains}
use Rattle.pg_game.specs.Field.{terminals_joined}
use Rattle.pg_game.proofs.TerminalLemmas.{terminals-same}
use Rattle.pg_game.proofs.switching.joining_result.Goals as goal

pub returns-then-joined-2-clause-result : goal.returns-then-joined-2-clause-result
returns-then-joined-2-clause-result c =
    let graph = c.args.graph.now in
    let not_x : terminals_joined graph (contains c.args.p.now.x) ≡ false =
    sym c.joined.ensures.joined ∙ c.if-joined.false in
    let open_y : terminals_joined graph (λ e. not (contains c.args.p.now.y e)) ≡ true =
    terminals-same graph _ (contains c.outside-left.result) (λ k l. sym (c.outside-left.ensures k
    ∙ ap (λ b. b && not (contains c.args.p.now.y k)) (lt-ltb k c.edge_count.result (omega (
      arith,
      c.edge_count.ensures,
    )))))
    ∙ sym c.joined-2.ensures.joined
    ∙ c.if-joined-2.true in
    rw (not_x, open_y)

pub returns-else-joined-2-clause-result : goal.returns-else-joined-2-clause-result
returns-else-joined-2-clause-result c =
    let graph = c.args.graph.now in
    let not_x : terminals_joined graph (contains c.args.p.now.x) ≡ false =
    sym c.joined.ensures.joined ∙ c.if-joined.false in
    let parted : terminals_joined graph (λ e. not (contains c.args.p.now.y e)) ≡ false =
    terminals-same graph _ (contains c.outside-left.result) (λ k l. sym (c.outside-left.ensures k
    ∙ ap (λ b. b && not (contains c.args.p.now.y k)) (lt-ltb k c.edge_count.result (omega (
      arith,
      c.edge_count.ensures,
    )))))
    ∙ sym c.joined-2.ensures.joined
    ∙ c.if-joined-2.false in
    rw (not_x, parted)
