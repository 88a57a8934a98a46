use Rattle.std.proofs.Common.{◌∙◌, ℕ, [], ◌∷◌, refl, subst}
use Rattle.pg_sessions.proofs.Common.{err_from_is_err_and, Bytes, Memory, recorded_text, Does}
use Rattle.pg_sessions.proofs.Common.{Delivers, stopped_first}
use Rattle.pg_sessions.specs.Recording.{record_file}
use Rattle.pg_sessions.specs.SessionLog.{standing_count}
use Rattle.pg_sessions.proofs.recording.store_record.Goals as goal

pub returns-in_err-text-clause-delivered : goal.returns-in_err-text-clause-delivered
returns-in_err-text-clause-delivered g c =
    let p = err_from_is_err_and c.from_residual.result c.from_residual.ensures.1 in
    let session = c.args.session.now in
    rw (p.1, p.2)
    (stopped_first (Delivers (record_file c.args.name.now session.events)
    (recorded_text (standing_count session.game session.events) ∷ []))
    (g.F.Files.told c.args.files.now) (g.F.Files.told c.args.files.now)
    (g.C.Console.told c.args.console.now)
    (g.C.Console.told c.args.console.now) Memory refl refl refl)

pub returns-clause-delivered : goal.returns-clause-delivered
returns-clause-delivered g c =
    let text = c.deref.ensures.value ∙ c.in_ok-text.ensures.text in
    subst
    (λ (p : Bytes × ℕ). Does (Delivers (c.args.name.now, p.0) (recorded_text p.1 ∷ []))
    (g.F.Files.told c.args.files.now) (g.F.Files.told c.deliver.new.files)
    (g.C.Console.told c.args.console.now) (g.C.Console.told c.deliver.new.console) c.deliver.result)
    (λ i. (text i, c.standing.ensures i)) c.deliver.ensures.delivered
