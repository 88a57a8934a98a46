use Rattle.std.proofs.Common.{◌∙◌, List, ap, refl, sym}
use Rattle.pg_sessions.proofs.Common.{Event, NothingToTakeBack}
use Rattle.pg_sessions.specs.SessionLog.{Refuses, Stands, after_request}
use Rattle.pg_sessions.specs.declared.request.Request.TheVariants.{Back}
use Rattle.pg_sessions.proofs.Sessions.{back_stage, goes_from, unbacked_stage}
use Rattle.pg_sessions.proofs.dialogue.take_back.Goals as goal

pub returns-then-back-clause-course : goal.returns-then-back-clause-course
returns-then-back-clause-course g c =
    let old = c.args.session.now in
    let new = c.back.new.self in
    λ refusals. goes_from _ _ c.tell_standing.result _ old.game new.game
    (Stands new.events refusals)
    (after_request old.game old.events refusals Back) c.back.ensures.game
    (back_stage old.game old.events refusals (sym c.back.ensures.result ∙ c.if-back.true)
    ∙ ap (λ (es : List Event). Stands es refusals) (sym c.if-back.ensures.events))
    (c.tell_standing.ensures.course refusals)

pub returns-else-back-clause-course : goal.returns-else-back-clause-course
returns-else-back-clause-course g c =
    let old = c.args.session.now in
    let new = c.back.new.self in
    λ refusals. goes_from _ _ c.refuse.result _ old.game old.game
    (Refuses new.events refusals NothingToTakeBack)
    (after_request old.game old.events refusals Back) refl
    (unbacked_stage old.game old.events refusals (sym c.back.ensures.result ∙ c.if-back.false)
    ∙ ap (λ (es : List Event). Refuses es refusals NothingToTakeBack)
    (sym c.if-back.ensures.events)) (c.refuse.ensures.course old.game new.events refusals)
