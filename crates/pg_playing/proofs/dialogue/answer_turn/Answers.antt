use Rattle.pg_playing.proofs.dialogue.answer_turn.Goals as goal

pub returns-in-Moved-clause-course : goal.returns-in-Moved-clause-course
returns-in-Moved-clause-course g c = rw c.in-Moved.is c.show.ensures.course

pub returns-in-Noted-clause-course : goal.returns-in-Noted-clause-course
returns-in-Noted-clause-course g c = rw c.in-Noted.is c.note.ensures.course
