use Rattle.std.proofs.Common.{◌∙◌, ℕ, ap₂, refl, sym, subst}
use Rattle.pg_io.specs.declared.stop.Stop.TheVariants.{Memory}
use Rattle.pg_settle.proofs.Common.{Bytes, err_from_is_err_and, stopped_first}
use Rattle.pg_settle.specs.Findings.{IsKeptAs}
use Rattle.pg_settle.specs.Outputs.{score_texts, texts_of_output}
use Rattle.pg_settle.specs.Settling.{SettlesLines, form_of}
use Rattle.pg_settle.proofs.Headings.{answer_of, answer_shows}
use Rattle.pg_settle.proofs.Settles.{delivers_score, stays_open}
use Rattle.pg_settle.proofs.settling.settle_lines.Goals as goal

pub returns-in_err-found-clause-settled : goal.returns-in_err-found-clause-settled
returns-in_err-found-clause-settled g c =
    let p = err_from_is_err_and c.from_residual.result c.from_residual.ensures.1 in
    rw (p.1, p.2)
    (stopped_first (SettlesLines (g.S.Finder.brings c.args.finder.now)
    (form_of c.args.order.images c.args.order.json c.args.order.game.now) c.args.game.now
    c.args.order.certificate.now c.args.order.budget) (g.F.Files.told c.args.files.now)
    (g.F.Files.told c.args.files.now) (g.C.Console.told c.args.console.now)
    (g.C.Console.told c.args.console.now) Memory refl refl refl)

pub returns-in_err-text-in-Certificate-clause-settled
    : goal.returns-in_err-text-in-Certificate-clause-settled
returns-in_err-text-in-Certificate-clause-settled g c =
    let p = err_from_is_err_and c.from_residual-in_err-text-in-Certificate.result
    c.from_residual-in_err-text-in-Certificate.ensures.1 in
    rw (p.1, p.2)
    (stopped_first (SettlesLines (g.S.Finder.brings c.args.finder.now)
    (form_of c.args.order.images c.args.order.json c.args.order.game.now) c.args.game.now
    c.args.order.certificate.now c.args.order.budget) (g.F.Files.told c.args.files.now)
    (g.F.Files.told c.args.files.now) (g.C.Console.told c.args.console.now)
    (g.C.Console.told c.args.console.now) Memory refl refl refl)

pub returns-in_err-output-in-Certificate-clause-settled
    : goal.returns-in_err-output-in-Certificate-clause-settled
returns-in_err-output-in-Certificate-clause-settled g c =
    let p = err_from_is_err_and c.from_residual-in_err-output-in-Certificate.result
    c.from_residual-in_err-output-in-Certificate.ensures.1 in
    rw (p.1, p.2)
    (stopped_first
    (SettlesLines (g.S.Finder.brings c.args.finder.now)
    (form_of c.args.order.images c.args.order.json c.args.order.game.now)
    c.args.game.now c.args.order.certificate.now c.args.order.budget)
    (g.F.Files.told c.args.files.now) (g.F.Files.told c.args.files.now)
    (g.C.Console.told c.args.console.now) (g.C.Console.told c.args.console.now) Memory refl refl
    refl)

pub returns-in-Certificate-clause-settled : goal.returns-in-Certificate-clause-settled
returns-in-Certificate-clause-settled g c =
    let brings = g.S.Finder.brings c.args.finder.now in
    let played = c.args.game.now in
    let budget = c.args.order.budget in
    let answer = c.in_ok-found.found in
    let score = c.in-Certificate.score in
    let shown = c.in-Certificate.certificate in
    let form = form_of c.args.order.images c.args.order.json c.args.order.game.now in
    let kept = subst (λ (t : Bytes). IsKeptAs c.args.order.images played shown t)
    (sym c.deref.ensures.value) c.in_ok-text-in-Certificate.ensures in
    delivers_score brings form played c.args.order.certificate.now budget
    (g.F.Files.told c.args.files.now) (g.F.Files.told c.deliver_output.new.files)
    (g.C.Console.told c.args.console.now)
    (g.C.Console.told c.deliver_output.new.console) score shown answer.expanded c.deref.result.now
    (texts_of_output c.in_ok-output-in-Certificate.output) c.deliver_output.result
    (answer_shows brings played budget answer c.in_ok-found.ensures.answered
    c.shown_scores_are_values.ensures score shown c.in-Certificate.is)
    (answer_of brings played budget answer c.in_ok-found.ensures.answered _ answer.expanded
    c.in-Certificate.is refl) kept
    (c.in_ok-output-in-Certificate.ensures
    ∙ ap₂ (λ (n b : ℕ). score_texts form.json played score n answer.expanded b)
    c.node_count-nodes.ensures (c.len-bytes.ensures ∙ sym c.deref.ensures.len))
    c.deliver_output.ensures.delivered

pub returns-in_err-said-in-Open-clause-settled
    : goal.returns-in_err-said-in-Open-clause-settled
returns-in_err-said-in-Open-clause-settled g c =
    let p = err_from_is_err_and c.from_residual-in_err-said-in-Open.result
    c.from_residual-in_err-said-in-Open.ensures.1 in
    rw (p.1, p.2)
    (stopped_first
    (SettlesLines (g.S.Finder.brings c.args.finder.now)
    (form_of c.args.order.images c.args.order.json c.args.order.game.now)
    c.args.game.now c.args.order.certificate.now c.args.order.budget)
    (g.F.Files.told c.args.files.now) (g.F.Files.told c.args.files.now)
    (g.C.Console.told c.args.console.now) (g.C.Console.told c.args.console.now) Memory refl refl
    refl)

pub returns-in_err-say_text-in-Open-clause-settled :
    goal.returns-in_err-say_text-in-Open-clause-settled
returns-in_err-say_text-in-Open-clause-settled g c =
    let p = err_from_is_err_and c.from_residual-in_err-say_text-in-Open.result
    c.from_residual-in_err-say_text-in-Open.ensures.1 in
    rw (p.1, p.2)
    (stopped_first (SettlesLines (g.S.Finder.brings c.args.finder.now)
    (form_of c.args.order.images c.args.order.json c.args.order.game.now) c.args.game.now
    c.args.order.certificate.now c.args.order.budget) (g.F.Files.told c.args.files.now)
    (g.F.Files.told c.args.files.now) (g.C.Console.told c.args.console.now)
    (g.C.Console.told c.say_text.new.console) c.in_err-say_text-in-Open.field-0.0 refl
    c.in_err-say_text-in-Open.ensures.said c.in_err-say_text-in-Open.ensures.left)

pub returns-clause-settled : goal.returns-clause-settled
returns-clause-settled g c =
    let brings = g.S.Finder.brings c.args.finder.now in
    let played = c.args.game.now in
    let budget = c.args.order.budget in
    let answer = c.in_ok-found.found in
    stays_open brings (form_of c.args.order.images c.args.order.json c.args.order.game.now) played
    c.args.order.certificate.now budget (g.F.Files.told c.args.files.now)
    (g.F.Files.told c.args.files.now) (g.C.Console.told c.args.console.now)
    (g.C.Console.told c.say_text.new.console) answer.expanded c.as_str.result.now
    (answer_of brings played budget answer c.in_ok-found.ensures.answered _ answer.expanded
    c.in-Open.is refl) (c.as_str.ensures.value ∙ c.in_ok-said-in-Open.ensures) refl
    c.in_ok-say_text-in-Open.ensures.said c.in_ok-say_text-in-Open.ensures.left

pub file_of-requires-clause-valid : goal.file_of-requires-clause-valid
file_of-requires-clause-valid g c =
    let shows = answer_shows (g.S.Finder.brings c.args.finder.now) c.args.game.now
    c.args.order.budget c.in_ok-found.found c.in_ok-found.ensures.answered
    c.shown_scores_are_values.ensures c.in-Certificate.score c.in-Certificate.certificate
    c.in-Certificate.is in
    shows.shows.valid

pub file_of-requires-clause-limits : goal.file_of-requires-clause-limits
file_of-requires-clause-limits g c =
    let shows = answer_shows (g.S.Finder.brings c.args.finder.now) c.args.game.now
    c.args.order.budget c.in_ok-found.found c.in_ok-found.ensures.answered
    c.shown_scores_are_values.ensures c.in-Certificate.score c.in-Certificate.certificate
    c.in-Certificate.is in
    shows.limits

pub node_count-nodes-requires : goal.node_count-nodes-requires
node_count-nodes-requires g c =
    let shows = answer_shows (g.S.Finder.brings c.args.finder.now) c.args.game.now
    c.args.order.budget c.in_ok-found.found c.in_ok-found.ensures.answered
    c.shown_scores_are_values.ensures c.in-Certificate.score c.in-Certificate.certificate
    c.in-Certificate.is in
    shows.limits.nodes
