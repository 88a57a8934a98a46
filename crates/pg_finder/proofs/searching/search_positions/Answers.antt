use Rattle.pg_finder.proofs.searching.search_positions.Goals as goal

pub returns-clause-answer : goal.returns-clause-answer
returns-clause-answer g c = c.answer_of-answer.ensures c.args.game.now c.requires.drawless
    c.in_ok-found.ensures.answer
