use Rattle.std.proofs.Common.{sym, ◌∙◌}
use Rattle.std.proofs.lemmas.Bool.{and_from}
use Rattle.pg_pairing.proofs.PairLoops.{opened-more}
use Rattle.pg_pairing.proofs.answers.put_open.Goals as goal

pub returns-then-is_free-2 : goal.returns-then-is_free-2
returns-then-is_free-2 c = opened-more c.args.p.now c.args.opened.now c.put.new.self
    c.put-then-is_free-2.new.self c.args.s c.put.ensures c.put-then-is_free-2.ensures
    (and_from _ _ (sym c.is_free.ensures ∙ c.if-is_free.true)
    (sym c.is_free-then-is_free.ensures ∙ c.if-is_free-2.true))
