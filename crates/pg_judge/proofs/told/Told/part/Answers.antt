use Rattle.std.proofs.lemmas.Result.{IfOk-weaker}
use Rattle.pg_judge.proofs.Steps.{told-more}
use Rattle.pg_judge.proofs.told.Told.part.Goals as goal

pub returns-clause-told : goal.returns-clause-told
returns-clause-told c = IfOk-weaker _ _ _
    (λ u stands. told-more c.args.self.now _ c.keep.new.self.checking c.args.part.now
    c.keep.ensures.checking stands c.in_ok-keep.ensures.heads) c.part.ensures.stands
