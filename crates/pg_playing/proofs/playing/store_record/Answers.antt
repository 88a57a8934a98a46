use Rattle.std.proofs.Common.{◌∙◌, ℕ, [], ◌∷◌, refl, subst}
use Rattle.pg_playing.proofs.Common.{Bytes, Delivers, Does, Memory, err_from_is_err_and}
use Rattle.pg_playing.proofs.Common.{record_file, recorded_text, standing_count, stopped_first}
use Rattle.pg_playing.proofs.playing.store_record.Goals as goal

pub returns-in_err-text-clause-stored : goal.returns-in_err-text-clause-stored
returns-in_err-text-clause-stored g c =
    let p = err_from_is_err_and c.from_residual.result c.from_residual.ensures.1 in
    let session = c.args.session.now in
    rw (p.1, p.2)
    (stopped_first (Delivers (record_file c.args.path.now session.events)
    (recorded_text (standing_count session.game session.events) ∷ []))
    (g.F.Files.told c.args.files.now) (g.F.Files.told c.args.files.now)
    (g.C.Console.told c.args.console.now)
    (g.C.Console.told c.args.console.now) Memory refl refl refl)

pub returns-clause-stored : goal.returns-clause-stored
returns-clause-stored g c =
    let text = c.deref.ensures.value ∙ c.in_ok-text.ensures.text in
    subst
    (λ (p : Bytes × ℕ). Does (Delivers (c.args.path.now, p.0) (recorded_text p.1 ∷ []))
    (g.F.Files.told c.args.files.now) (g.F.Files.told c.deliver.new.files)
    (g.C.Console.told c.args.console.now) (g.C.Console.told c.deliver.new.console) c.deliver.result)
    (λ i. (text i, c.standing.ensures i)) c.deliver.ensures.delivered
