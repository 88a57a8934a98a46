use Rattle.pg_finder.proofs.searching.search_patterns.Goals as goal

pub returns-clause-answer : goal.returns-clause-answer
returns-clause-answer g c = c.answer_by_patterns-answer.ensures c.args.game.now
    c.in_ok-found.ensures.answer
