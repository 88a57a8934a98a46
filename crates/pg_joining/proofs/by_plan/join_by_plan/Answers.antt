use Rattle.std.proofs.Common.{ℕ, false, refl, subst}
use Rattle.pg_joining.proofs.Common.{Bytes, Ran, UNKNOWN, form_of}
use Rattle.pg_joining.proofs.Ends.{unknown_status}
use Rattle.pg_joining.proofs.Runs.{joined_needs, joined_starved}
use Rattle.pg_joining.proofs.Values.{needs_values, unsaid_values}
use Rattle.pg_joining.specs.Joins.{MayCome}
use Rattle.pg_joining.specs.Telling.{EndsSaying}
use Rattle.pg_joining.proofs.by_plan.join_by_plan.Goals as goal

pub returns-in_default-clause-ran : goal.returns-in_default-clause-ran
returns-in_default-clause-ran g c =
    joined_starved (form_of c.args.order.images false c.args.order.game.now)
    c.args.order.game.now c.args.order.certificate.now c.args.order.budget
    (g.F.Files.told c.args.files.now) (g.F.Files.told c.args.files.now)
    (g.C.Console.told c.args.console.now) refl

pub returns-in_default-clause-forced : goal.returns-in_default-clause-forced
returns-in_default-clause-forced g c =
    unsaid_values (g.F.Files.told c.args.files.now).held c.args.order.game.now
    (g.C.Console.told c.args.console.now) (g.C.Console.told c.args.console.now) refl

pub returns-clause-ran : goal.returns-clause-ran
returns-clause-ran g c =
    let form = form_of c.args.order.images false c.args.order.game.now in
    let files = g.F.Files.told c.args.files.now in
    let files' = g.F.Files.told c.settle-status.new.files in
    let before = g.C.Console.told c.args.console.now in
    let mid = g.C.Console.told c.settle-status.new.console in
    let after = g.C.Console.told c.tell_text.new.console in
    joined_needs form c.args.order.game.now c.args.order.certificate.now c.args.order.budget files
    files' before mid after c.settle-status.new.finder.needed c.tell_text.result
    (subst (λ (s : ℕ). Ran MayCome form c.args.order.game.now c.args.order.certificate.now
    c.args.order.budget files files' before mid s) c.if-status-ne-UNKNOWN.false
    c.settle-status.ensures.ran)
    (subst (λ (t : Bytes). EndsSaying t UNKNOWN mid after c.tell_text.result) c.text.ensures
    c.tell_text.ensures)

pub returns-clause-forced : goal.returns-clause-forced
returns-clause-forced g c =
    let form = form_of c.args.order.images false c.args.order.game.now in
    let files = g.F.Files.told c.args.files.now in
    let files' = g.F.Files.told c.settle-status.new.files in
    let before = g.C.Console.told c.args.console.now in
    let mid = g.C.Console.told c.settle-status.new.console in
    let after = g.C.Console.told c.tell_text.new.console in
    needs_values form c.args.order.game.now c.args.order.certificate.now c.args.order.budget files
    files' before mid after c.settle-status.new.finder.needed c.tell_text.result
    (subst (λ (s : ℕ). Ran MayCome form c.args.order.game.now c.args.order.certificate.now
    c.args.order.budget files files' before mid s) c.if-status-ne-UNKNOWN.false
    c.settle-status.ensures.ran) c.settle-status.ensures.forced
    (subst (λ (t : Bytes). EndsSaying t UNKNOWN mid after c.tell_text.result) c.text.ensures
    c.tell_text.ensures)

pub returns-clause-statuses : goal.returns-clause-statuses
returns-clause-statuses g c = unknown_status c.text.result.now
    (g.C.Console.told c.settle-status.new.console) (g.C.Console.told c.tell_text.new.console)
    c.tell_text.result c.tell_text.ensures
