use Rattle.std.proofs.Common.{[], ◌∷◌, refl, ◌∙◌, subst}
use Rattle.pg_cli.proofs.Common.{err_from_is_err_and, Bytes, Memory, message_text, Does, Delivers}
use Rattle.pg_cli.proofs.Common.{stopped_first}
use Rattle.pg_cli.specs.Generating.{game_file, size_texts}
use Rattle.pg_cli.proofs.generating.deliver_game.Goals as goal

pub returns-in_err-text-clause-delivered : goal.returns-in_err-text-clause-delivered
returns-in_err-text-clause-delivered g c =
    let p = err_from_is_err_and c.from_residual.result c.from_residual.ensures.1 in
    rw (p.1, p.2)
    (stopped_first
    (Delivers (game_file c.args.name.now c.args.game.now) (size_texts c.args.game.now))
    (g.F.Files.told c.args.files.now) (g.F.Files.told c.args.files.now)
    (g.C.Console.told c.args.console.now)
    (g.C.Console.told c.args.console.now) Memory refl refl refl)

pub returns-clause-delivered : goal.returns-clause-delivered
returns-clause-delivered g c =
    let files = g.F.Files.told c.args.files.now in
    let files' = g.F.Files.told c.deliver.new.files in
    let before = g.C.Console.told c.args.console.now in
    let after = g.C.Console.told c.deliver.new.console in
    let text = c.deref.ensures.value ∙ c.in_ok-text.ensures in
    let h = subst (λ (b : Bytes). Does (Delivers (
      c.args.name.now,
      b,
    ) (message_text c.size_message.result ∷ [])) files files' before after c.deliver.result) text
    c.deliver.ensures.delivered in
    subst
    (λ (t : Bytes). Does (Delivers (game_file c.args.name.now c.args.game.now) (t ∷ [])) files
    files' before after c.deliver.result) c.size_message.ensures h
