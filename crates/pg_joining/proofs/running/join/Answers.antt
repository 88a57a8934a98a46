use Rattle.std.proofs.Common.{Err, Option, false, subst}
use Rattle.pg_joining.proofs.Common.{AnnouncesValue, Holding, form_of}
use Rattle.pg_joining.proofs.Ends.{settled_there, status_on_plan, status_on_stop}
use Rattle.pg_joining.proofs.Runs.{ran_by_plan, ran_on_fault, ran_on_stop}
use Rattle.pg_joining.proofs.Values.{fault_values, unsaid_values}
use Rattle.pg_joining.specs.Plans.{OpensPlan}
use Rattle.pg_joining.specs.declared.plan_file.NoPlan.{NoPlan}
use Rattle.pg_joining.proofs.running.join.Goals as goal

pub returns-in-Ok-clause-ran : goal.returns-in-Ok-clause-ran
returns-in-Ok-clause-ran g c =
    ran_by_plan (form_of c.args.order.images false c.args.order.game.now) c.args.order.game.now
    c.args.order.certificate.now c.args.order.budget c.args.order.folder.now
    (g.F.Files.told c.args.files.now) (g.F.Files.told c.open_plan.new.files)
    (g.F.Files.told c.join_by_plan.new.files) (g.C.Console.told c.args.console.now)
    (g.C.Console.told c.join_by_plan.new.console) c.join_by_plan.result c.in-Ok.plan
    c.open_plan.ensures.kept.held c.in-Ok.ensures.opened c.join_by_plan.ensures.ran

pub returns-in-Ok-clause-forced : goal.returns-in-Ok-clause-forced
returns-in-Ok-clause-forced g c = subst (λ (h : Option Holding). AnnouncesValue h
    c.args.order.game.now (g.C.Console.told c.args.console.now).log
    (g.C.Console.told c.join_by_plan.new.console).log) c.open_plan.ensures.kept.held
    c.join_by_plan.ensures.forced

pub returns-in-Ok-clause-statuses : goal.returns-in-Ok-clause-statuses
returns-in-Ok-clause-statuses g c =
    settled_there c.join_by_plan.result c.join_by_plan.ensures.statuses

pub returns-in-Err-Faulty-clause-ran : goal.returns-in-Err-Faulty-clause-ran
returns-in-Err-Faulty-clause-ran g c =
    ran_on_fault (form_of c.args.order.images false c.args.order.game.now) c.args.order.game.now
    c.args.order.certificate.now c.args.order.budget c.args.order.folder.now
    (g.F.Files.told c.args.files.now) (g.F.Files.told c.open_plan.new.files)
    c.open_plan.ensures.kept.held (g.C.Console.told c.args.console.now)
    (g.C.Console.told c.tell_fault.new.console) c.in-Err-Faulty.number c.in-Err-Faulty.line
    c.tell_fault.result
    (subst (λ (no : NoPlan). OpensPlan (g.F.Files.told c.args.files.now).held
    c.args.order.folder.now (Err no)) c.in-Err-Faulty.field-0-is c.in-Err-Faulty.ensures.opened)
    c.tell_fault.ensures

pub returns-in-Err-Faulty-clause-forced : goal.returns-in-Err-Faulty-clause-forced
returns-in-Err-Faulty-clause-forced g c =
    fault_values (g.F.Files.told c.args.files.now).held c.args.order.game.now
    (g.C.Console.told c.args.console.now) (g.C.Console.told c.tell_fault.new.console)
    c.in-Err-Faulty.number c.in-Err-Faulty.line c.tell_fault.result c.tell_fault.ensures

pub returns-in-Err-Faulty-clause-statuses : goal.returns-in-Err-Faulty-clause-statuses
returns-in-Err-Faulty-clause-statuses g c =
    status_on_plan c.in-Err-Faulty.number c.in-Err-Faulty.line
    (g.C.Console.told c.args.console.now) (g.C.Console.told c.tell_fault.new.console)
    c.tell_fault.result c.tell_fault.ensures

pub returns-clause-ran : goal.returns-clause-ran
returns-clause-ran g c =
    ran_on_stop (form_of c.args.order.images false c.args.order.game.now) c.args.order.game.now
    c.args.order.certificate.now c.args.order.budget c.args.order.folder.now
    (g.F.Files.told c.args.files.now) (g.F.Files.told c.open_plan.new.files)
    c.open_plan.ensures.kept.held (g.C.Console.told c.args.console.now)
    (g.C.Console.told c.end_early.new.console) c.in-Err-Stopped.stop c.end_early.result
    c.end_early.ensures

pub returns-clause-forced : goal.returns-clause-forced
returns-clause-forced g c =
    unsaid_values (g.F.Files.told c.args.files.now).held c.args.order.game.now
    (g.C.Console.told c.args.console.now) (g.C.Console.told c.end_early.new.console)
    c.end_early.ensures.1

pub returns-clause-statuses : goal.returns-clause-statuses
returns-clause-statuses g c =
    status_on_stop (g.C.Console.told c.args.console.now)
    (g.C.Console.told c.end_early.new.console) c.in-Err-Stopped.stop c.end_early.result
    c.end_early.ensures
