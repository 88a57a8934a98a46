use Rattle.std.proofs.Common.{◌≡◌, ◌∙◌, Some, sym, subst}
use Rattle.pg_io.specs.Files.{Bytes}
use Rattle.pg_request.specs.Request.{Asked, shown}
use Rattle.pg_answering.specs.Answers.{Answers, Responds}
use Rattle.pg_answering.specs.Programs.{program_of}
use Rattle.pg_answering.proofs.Lengths.{responds}
use Rattle.pg_answering.proofs.responding.respond.Goals as goal

pub returns-in-Ok-answer_to : goal.returns-in-Ok-answer_to
returns-in-Ok-answer_to c =
    let named : program_of (shown c.in-Ok.request).words ≡ Some c.in-Some.program
    = rw (sym c.deref.ensures.value) (sym c.program_of.ensures ∙ c.in-Some.is) in
    let answered = subst
    (λ (bytes : Bytes). Answers c.in-Some.program (shown c.in-Ok.request) bytes)
    (sym c.deref-in-Ok-answer_to.ensures.value) c.in-Ok-answer_to.ensures in
    subst (λ (r : Asked). Responds r c.args.room.now c.place.new.room c.place.result)
    c.in-Ok.ensures
    (responds c.in-Some.program (shown c.in-Ok.request) c.deref-in-Ok-answer_to.result.now
    c.args.room.now c.place.new.room c.place.result named answered
    c.place.ensures.count c.place.ensures.placed)
