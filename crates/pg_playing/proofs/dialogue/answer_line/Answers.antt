use Rattle.std.proofs.Common.{refl}
use Rattle.pg_playing.proofs.Common.{Memory, err_from_is_err_and}
use Rattle.pg_playing.specs.Dialogue.{Steps, turned}
use Rattle.pg_playing.proofs.Courses.{breaks_here, goes_more}
use Rattle.pg_playing.proofs.dialogue.answer_line.Goals as goal

pub returns-in_err-turn-clause-course : goal.returns-in_err-turn-clause-course
returns-in_err-turn-clause-course g c =
    let p = err_from_is_err_and c.from_residual.result c.from_residual.ensures.1 in
    λ heard. rw (p.1, p.2)
    (let leads = c.in_err-turn.ensures.leads heard in (
      leads.0,
      leads.1,
      breaks_here (Steps (g.B.Bout.rules c.args.bout.now)) _ _ leads.0 Memory refl refl,
    ))

pub returns-clause-course : goal.returns-clause-course
returns-clause-course g c =
    let mid = g.B.Bout.at c.heed.new.bout in
    λ heard. (
      turned mid heard c.in_ok-turn.turn,
      c.in_ok-turn.ensures.leads heard,
      goes_more (Steps (g.B.Bout.rules c.heed.new.bout)) (Steps (g.B.Bout.rules c.args.bout.now))
          c.in_ok-turn.ensures.allows.steps _ _ (turned mid heard c.in_ok-turn.turn)
          c.answer_turn.result _ (c.answer_turn.ensures.course heard),
    )
