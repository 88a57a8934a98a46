use Rattle.std.proofs.Common.{◌≡◌, ℕ, map, string_bytes, Option, Some, option_and_then, option_map}
use Rattle.std.proofs.Common.{ap, sym, ◌∙◌, subst}
use Rattle.pg_cli.proofs.Common.{err_from_is_err_and, Bytes, Holding, Memory, ordered, Command}
use Rattle.pg_cli.proofs.Common.{OfFamily, Review, meaning_of, ActsInFamily, RefusesFamily}
use Rattle.pg_cli.proofs.Common.{IsOfNames, IsReached, LeavesSearch, Runs, Stopped}
use Rattle.pg_words.specs.declared.command.Command.{Command as Order}
use Rattle.pg_cli.specs.Commands.{SpeaksInTime, asked, built}
use Rattle.pg_cli.specs.Run.{Carries}
use Rattle.pg_cli.specs.Solving.{positions_for}
use Rattle.pg_cli.proofs.Runs.{carries_memory, gives_memory, leaves_all, leaves_work, quiet_halt}
use Rattle.pg_cli.proofs.Runs.{speaks_in_time}
use Rattle.pg_cli.proofs.running.carry_out.Goals as goal

pub returns-in_err-command-clause-ran : goal.returns-in_err-command-clause-ran
returns-in_err-command-clause-ran g c =
    let p = err_from_is_err_and c.from_residual.result c.from_residual.ensures.1 in
    rw (p.1, p.2)
    (carries_memory (g.F.Files.told c.args.files.now)
    (g.C.Console.told c.args.console.now) _ c.args.work.now)

pub returns-in_err-command-clause-quiet : goal.returns-in_err-command-clause-quiet
returns-in_err-command-clause-quiet g c =
    let p = err_from_is_err_and c.from_residual.result c.from_residual.ensures.1 in
    rw (p.1, p.2)
    (quiet_halt (asked (map string_bytes c.args.words.now)) (g.C.Console.told c.args.console.now)
    (Stopped Memory))

pub returns-in_err-command-clause-files : goal.returns-in_err-command-clause-files
returns-in_err-command-clause-files g c =
    leaves_all (asked (map string_bytes c.args.words.now)) (g.F.Files.told c.args.files.now)

pub returns-in_err-command-clause-work : goal.returns-in_err-command-clause-work
returns-in_err-command-clause-work g c = leaves_work (asked (map string_bytes c.args.words.now))
    (g.F.Files.told c.args.files.now).held c.args.work.now

pub returns-in_err-command-clause-prompt : goal.returns-in_err-command-clause-prompt
returns-in_err-command-clause-prompt g c =
    speaks_in_time (asked (map string_bytes c.args.words.now))
    (g.F.Files.told c.args.files.now).held c.args.work.now (g.C.Console.told c.args.console.now)

pub returns-in_err-command-clause-gives : goal.returns-in_err-command-clause-gives
returns-in_err-command-clause-gives g c =
    let p = err_from_is_err_and c.from_residual.result c.from_residual.ensures.1 in
    rw (p.1, p.2) (gives_memory (asked (map string_bytes c.args.words.now)))

pub returns-in-OfFamily-clause-ran : goal.returns-in-OfFamily-clause-ran
returns-in-OfFamily-clause-ran g c =
    let words = map string_bytes c.args.words.now in
    let family = c.in-OfFamily.family in
    let task = c.in-OfFamily.task in
    let found : Some (OfFamily family task (string_bytes c.in-OfFamily.game)
    (string_bytes c.in-OfFamily.certificate)) ≡ meaning_of words =
    subst (λ (o : Option Order). option_map ordered o ≡ meaning_of words)
    (c.in-Some.is ∙ ap (λ (o : Order). Some o) c.in-OfFamily.is) c.in_ok-command.ensures in
    let runs = c.carry_out_in_family.ensures.ran in
    let by_game = subst (λ (b : Bytes). Runs (λ (held : Holding).
    RefusesFamily family task (held b) (held c.deref-in-OfFamily-2.result.now))
    (λ (held : Holding). ActsInFamily family task (held b) (held c.deref-in-OfFamily-2.result.now)
    c.deref-in-OfFamily-2.result.now) (g.F.Files.told c.args.files.now)
    (g.F.Files.told c.carry_out_in_family.new.files) (g.C.Console.told c.args.console.now)
    (g.C.Console.told c.carry_out_in_family.new.console) c.carry_out_in_family.result)
    c.deref-in-OfFamily.ensures runs in
    let by_both = subst (λ (b : Bytes). Runs (λ (held : Holding).
    RefusesFamily family task (held (string_bytes c.in-OfFamily.game)) (held b))
    (λ (held : Holding). ActsInFamily family task (held (string_bytes c.in-OfFamily.game))
    (held b) b) (g.F.Files.told c.args.files.now) (g.F.Files.told c.carry_out_in_family.new.files)
    (g.C.Console.told c.args.console.now) (g.C.Console.told c.carry_out_in_family.new.console)
    c.carry_out_in_family.result) c.deref-in-OfFamily-2.ensures by_game in
    subst
    (λ (k : Option Command). Carries k c.args.work.now (g.F.Files.told c.args.files.now)
    (g.F.Files.told c.carry_out_in_family.new.files) (g.C.Console.told c.args.console.now)
    (g.C.Console.told c.carry_out_in_family.new.console) c.carry_out_in_family.result)
    (ap (option_and_then built) found) by_both

pub returns-in-Some-positions_for-2-clause-prompt :
    goal.returns-in-Some-positions_for-2-clause-prompt
returns-in-Some-positions_for-2-clause-prompt g c =
    let words = map string_bytes c.args.words.now in
    let told = (g.F.Files.told c.args.files.now).held in
    let game = string_bytes c.in-Review.game in
    let name = string_bytes c.in-Review.name in
    let most = c.in-Some-positions_for-2.most in
    let before = g.C.Console.told c.args.console.now in
    let after = g.C.Console.told c.review.new.console in
    let found : Some (Review game name c.in-Review.positions) ≡ meaning_of words =
    subst (λ (o : Option Order). option_map ordered o ≡ meaning_of words)
    (c.in-Some.is ∙ ap (λ (o : Order). Some o) c.in-Review.is) c.in_ok-command.ensures in
    let enough : positions_for c.in-Review.positions ≡ Some most =
    sym c.positions_for-in-Review.ensures.exact ∙ c.in-Some-positions_for-2.is in
    let is : Some (Review game name (Some most)) ≡ asked words =
    sym (ap (option_map (λ (n : ℕ). Review game name (Some n))) enough)
    ∙ ap (option_and_then built) found in
    let by_game = subst (λ (b : Bytes). LeavesSearch (IsOfNames (IsReached before after) told b
    c.deref-in-Some-positions_for-2-2.result.now) most c.args.work.now c.review.new.work)
    c.deref-in-Some-positions_for-2.ensures c.review.ensures.prompt in
    let by_both = subst
    (λ (b : Bytes). LeavesSearch (IsOfNames (IsReached before after) told game b) most
    c.args.work.now c.review.new.work) c.deref-in-Some-positions_for-2-2.ensures by_game in
    subst
    (λ (k : Option Command). SpeaksInTime told k c.args.work.now c.review.new.work before after) is
    by_both
