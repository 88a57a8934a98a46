use Rattle.std.proofs.Common.{◌∙◌, List, Err, Ok, ap, subst, sym}
use Rattle.pg_plan.specs.declared.fault.TheConstants.{MAX_PLAN_BYTES}
use Rattle.pg_text.specs.Faults.{IsReadAs}
use Rattle.pg_text.specs.declared.error.FileError.{FileError}
use Rattle.pg_joining.proofs.Common.{Bytes, IsFile, Place, number_of, plan_of}
use Rattle.pg_joining.proofs.PlanFiles.{plan_opens}
use Rattle.pg_joining.specs.declared.plan_file.NoPlan.TheVariants.{Faulty}
use Rattle.pg_joining.proofs.plan_file.open_plan.Goals as goal

pub returns-in-Ok-read_plan-clause-opened : goal.returns-in-Ok-read_plan-clause-opened
returns-in-Ok-read_plan-clause-opened g c =
    let held = (g.F.Files.told c.args.files.now).held in
    let text = c.in-Ok-read_whole.text.items in
    plan_opens held c.args.folder.now text (Ok c.in-Ok-read_plan.plan)
    (subst (λ (name : Bytes). IsFile held name MAX_PLAN_BYTES text)
    (c.as_str.ensures.value ∙ c.in-Ok.ensures) c.in-Ok-read_whole.ensures.bytes)
    (ap plan_of (sym c.deref.ensures.value) ∙ c.in-Ok-read_plan.ensures)

pub returns-in-Err-Bad-clause-opened : goal.returns-in-Err-Bad-clause-opened
returns-in-Err-Bad-clause-opened g c =
    let held = (g.F.Files.told c.args.files.now).held in
    let text = c.in-Ok-read_whole.text.items in
    let bad = subst (λ (f : FileError). IsReadAs number_of (λ (p : List Place). p) (Err f)
    (plan_of text)) c.in-Err-Bad.field-0-is
    (subst (λ (t : Bytes). IsReadAs number_of (λ (p : List Place). p) (Err c.in-Err-Bad.field-0)
    (plan_of t)) c.deref.ensures.value c.in-Err-Bad.ensures) in
    plan_opens held c.args.folder.now text (Err (Faulty c.in-Err-Bad.number c.in-Err-Bad.line))
    (subst (λ (name : Bytes). IsFile held name MAX_PLAN_BYTES text)
    (c.as_str.ensures.value ∙ c.in-Ok.ensures) c.in-Ok-read_whole.ensures.bytes) bad
