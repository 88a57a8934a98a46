use Rattle.std.proofs.Common.{◌∙◌, ℕ, List, Err, Option, ap, subst, sym}
use Rattle.std.proofs.lemmas.Result.{IfOk-weaker}
use Rattle.std.specs.Global.{Vec}
use Rattle.pg_io.specs.Files.{Bytes}
use Rattle.pg_io.specs.Reading.{IsFile}
use Rattle.pg_plan.specs.PlanFile.{plan_of}
use Rattle.pg_plan.specs.Views.{number_of}
use Rattle.pg_plan.specs.declared.fault.TheConstants.{MAX_PLAN_BYTES}
use Rattle.pg_plan.specs.declared.place.Place.{Place}
use Rattle.pg_text.specs.Faults.{IsReadAs}
use Rattle.pg_text.specs.declared.error.FileError.{FileError}
use Rattle.pg_splitting.proofs.Opened.{again_prepared, has_fault, has_places}
use Rattle.pg_splitting.specs.Looking.{IsFoundAt}
use Rattle.pg_splitting.specs.declared.preparing.Prepared.{Prepared}
use Rattle.pg_splitting.proofs.preparing.prepare.Goals as goal

pub returns-in-Ok-clause-prepared : goal.returns-in-Ok-clause-prepared
returns-in-Ok-clause-prepared g c =
    let told = g.F.Files.told in
    let before = told c.args.files.now in
    let folder = c.args.order.folder.now in
    let text = c.in-Some.text.items in
    let found = subst (λ (o : Option (Vec ℕ)).
    IsFoundAt before (told c.read_if_there.new.files) c.as_str.result.now MAX_PLAN_BYTES o)
    c.in-Some.is c.in_ok-found.ensures.found in
    let file = subst (λ (name : Bytes). IsFile before.held name MAX_PLAN_BYTES text)
    (c.as_str.ensures.value ∙ c.in_ok-name.ensures) found in
    let is = ap plan_of (sym c.deref.ensures.value) ∙ c.in-Ok.ensures in
    IfOk-weaker _ _ _ (λ (p : Prepared) split.
    again_prepared folder c.args.order.most c.args.game.now before
    (told c.prepare_again.new.files) c.in-Ok.plan p
    (has_places before.held folder text c.in-Ok.plan file is) split)
    c.prepare_again.ensures.split

pub returns-in-Err-Bad-clause-prepared : goal.returns-in-Err-Bad-clause-prepared
returns-in-Err-Bad-clause-prepared g c =
    let told = g.F.Files.told in
    let before = told c.args.files.now in
    let text = c.in-Some.text.items in
    let found = subst (λ (o : Option (Vec ℕ)).
    IsFoundAt before (told c.read_if_there.new.files) c.as_str.result.now MAX_PLAN_BYTES o)
    c.in-Some.is c.in_ok-found.ensures.found in
    let file = subst (λ (name : Bytes). IsFile before.held name MAX_PLAN_BYTES text)
    (c.as_str.ensures.value ∙ c.in_ok-name.ensures) found in
    let bad = subst (λ (f : FileError).
    IsReadAs number_of (λ (p : List Place). p) (Err f) (plan_of text)) c.in-Err-Bad.field-0-is
    (subst (λ (t : Bytes).
    IsReadAs number_of (λ (p : List Place). p) (Err c.in-Err-Bad.field-0) (plan_of t))
    c.deref.ensures.value c.in-Err-Bad.ensures) in
    has_fault before.held c.args.order.folder.now text c.in-Err-Bad.number c.in-Err-Bad.line _ _
    c.in-Err-Bad.number-is c.in-Err-Bad.line-is file bad
