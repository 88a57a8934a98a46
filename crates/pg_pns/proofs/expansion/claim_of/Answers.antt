use Rattle.std.proofs.Common.{◌∙◌, ◌+◌, length, slice_get, refl, sym, ap, subst, take, arith}
use Rattle.pg_pns.specs.Found.{IsClaimOf}
use Rattle.pg_pns.proofs.Claiming.{claim-pruned, cut-nodes}
use Rattle.pg_pns.proofs.expansion.claim_of.Goals as goal

pub prune-requires-clause-some : goal.prune-requires-clause-some
prune-requires-clause-some c =
    let cut = c.as_slice.ensures.value
    ∙ c.truncate.ensures.items
    ∙ ap (take (c.args.answered.node + 1)) c.into_nodes-nodes.ensures in
    let are = cut-nodes c.args.asked.game.now c.args.asked.question c.requires.some.0 c.args.table
    c.args.answered c.requires.some.1 c.requires.few c.requires.root in
    omega (arith, ap length cut, are.root.2)

pub prune-requires-clause-few : goal.prune-requires-clause-few
prune-requires-clause-few c =
    let cut = c.as_slice.ensures.value
    ∙ c.truncate.ensures.items
    ∙ ap (take (c.args.answered.node + 1)) c.into_nodes-nodes.ensures in
    let are = cut-nodes c.args.asked.game.now c.args.asked.question c.requires.some.0 c.args.table
    c.args.answered c.requires.some.1 c.requires.few c.requires.root in
    omega (arith, ap length cut, are.limit)

pub prune-requires-clause-earlier : goal.prune-requires-clause-earlier
prune-requires-clause-earlier c =
    let cut = c.as_slice.ensures.value
    ∙ c.truncate.ensures.items
    ∙ ap (take (c.args.answered.node + 1)) c.into_nodes-nodes.ensures in
    let are = cut-nodes c.args.asked.game.now c.args.asked.question c.requires.some.0 c.args.table
    c.args.answered c.requires.some.1 c.requires.few c.requires.root in
    λ k n at. (are.hold k n (ap (λ ns. slice_get ns k) (sym cut) ∙ at)).earlier

pub returns-then-answered : goal.returns-then-answered
returns-then-answered c =
    let cut = c.as_slice.ensures.value
    ∙ c.truncate.ensures.items
    ∙ ap (take (c.args.answered.node + 1)) c.into_nodes-nodes.ensures in
    λ list budget is.
    subst (λ b. IsClaimOf c.args.asked.game.now c.args.asked.question list b (record {
      turn = c.args.asked.game.now.turn;
      side = c.claimer.result;
      goal = c.claimed_goal.result;
      nodes = c.from_vec.result;
    })) c.if-answered.true
    (claim-pruned c.args.asked.game.now c.args.asked.question list c.args.table c.args.answered
    c.as_slice.result.now c.in_ok-reached.reached.items (record {
      turn = c.args.asked.game.now.turn;
      side = c.claimer.result;
      goal = c.claimed_goal.result;
      nodes = c.from_vec.result;
    }) is c.requires.few c.requires.root cut c.in_ok-reached.ensures c.from_vec.ensures refl
    c.claimer.ensures c.claimed_goal.ensures)

pub returns : goal.returns
returns c =
    let cut = c.as_slice.ensures.value
    ∙ c.truncate.ensures.items
    ∙ ap (take (c.args.answered.node + 1)) c.into_nodes-nodes.ensures in
    λ list budget is.
    subst (λ b. IsClaimOf c.args.asked.game.now c.args.asked.question list b (record {
      turn = c.args.asked.game.now.turn;
      side = c.claimer.result;
      goal = c.claimed_goal.result;
      nodes = c.from_vec.result;
    })) c.if-answered.false
    (claim-pruned c.args.asked.game.now c.args.asked.question list c.args.table c.args.answered
    c.as_slice.result.now c.in_ok-reached.reached.items (record {
      turn = c.args.asked.game.now.turn;
      side = c.claimer.result;
      goal = c.claimed_goal.result;
      nodes = c.from_vec.result;
    }) is c.requires.few c.requires.root cut c.in_ok-reached.ensures c.from_vec.ensures refl
    c.claimer.ensures c.claimed_goal.ensures)
