use Rattle.std.proofs.lemmas.Result.{IfOk-weaker}
use Rattle.pg_evidence.proofs.Feeding.{fed-node}
use Rattle.pg_evidence.proofs.folded.feed_node.Goals as goal

pub returns-in_ok-new-in-Some-clause-fed : goal.returns-in_ok-new-in-Some-clause-fed
returns-in_ok-new-in-Some-clause-fed c = IfOk-weaker _ _ _
    (λ _ stands. fed-node c.args.checking.now c.part.new.self c.args.next c.in-Some.node
    c.in_ok-new-in-Some.field-0 c.in-Some.is c.in_ok-new-in-Some.ensures stands)
    c.part.ensures.stands
