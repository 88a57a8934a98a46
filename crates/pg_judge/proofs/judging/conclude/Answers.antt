use Rattle.pg_judge.proofs.Steps.{complete}
use Rattle.pg_judge.proofs.judging.conclude.Goals as goal

pub finish-requires : goal.finish-requires
finish-requires c = complete c.take.new.self c.requires.text _
    (c.in_ok-last.ensures.end c.requires.text c.requires.fed.read)
    (c.in_ok-take.ensures.told _ c.requires.fed.told)
