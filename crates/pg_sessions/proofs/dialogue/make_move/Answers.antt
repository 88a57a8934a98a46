use Rattle.std.proofs.Common.{◌∙◌, List, ap, refl, sym}
use Rattle.pg_record.specs.declared.event.Event.{Event}
use Rattle.pg_sessions.specs.SessionLog.{Refuses, Stands, after_request}
use Rattle.pg_sessions.specs.declared.request.Request.TheVariants.{Move}
use Rattle.pg_sessions.proofs.Sessions.{goes_from, moved_stage, unmoved_stage}
use Rattle.pg_sessions.proofs.dialogue.make_move.Goals as goal

pub returns-in-Ok-clause-course : goal.returns-in-Ok-clause-course
returns-in-Ok-clause-course g c =
    let old = c.args.session.now in
    let new = c.play.new.self in
    λ refusals. goes_from _ _ c.tell_standing.result _ old.game new.game
    (Stands new.events refusals)
    (after_request old.game old.events refusals (Move c.args.v)) c.in-Ok.ensures.game
    (moved_stage old.game old.events refusals c.args.v c.in-Ok.ensures.result
    ∙ ap (λ (es : List Event). Stands es refusals) (sym c.in-Ok.ensures.events))
    (c.tell_standing.ensures.course refusals)

pub returns-in-Err-clause-course : goal.returns-in-Err-clause-course
returns-in-Err-clause-course g c =
    let old = c.args.session.now in
    let new = c.play.new.self in
    λ refusals. goes_from _ _ c.refuse.result _ old.game old.game
    (Refuses new.events refusals c.reason_of.result)
    (after_request old.game old.events refusals (Move c.args.v)) refl
    (unmoved_stage old.game old.events refusals c.args.v c.in-Err.why c.in-Err.ensures.result
    ∙ (λ i. Refuses (sym c.in-Err.ensures.events i) refusals (sym c.reason_of.ensures i)))
    (c.refuse.ensures.course old.game new.events refusals)
