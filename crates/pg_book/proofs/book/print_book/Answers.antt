use Rattle.std.proofs.Common.{◌≡◌, ◌∙◌, ◌≤◌, None, Some, ap, length, string_bytes}
use Rattle.std.proofs.Common.{subst, sym}
use Rattle.std.specs.List.{All}
use Rattle.std.proofs.lemmas.Result.{IfOk-weaker}
use Rattle.pg_cert.specs.declared.cert.Cert.{Cert}
use Rattle.pg_cert.specs.declared.cert.Claim.{Claim}
use Rattle.pg_cert.specs.declared.limits.TheConstants.{MAX_CLAIM_NODES}
use Rattle.pg_page.specs.Html.{page_text}
use Rattle.pg_book.specs.Boards.{layout_of}
use Rattle.pg_book.specs.Books.{book_by, book_text}
use Rattle.pg_book.proofs.Near.{few-nodes, nodes-limits}
use Rattle.pg_book.proofs.book.print_book.Goals as goal

pub print_ordered-requires-in-Some-clause-nodes : goal.print_ordered-requires-in-Some-clause-nodes
print_ordered-requires-in-Some-clause-nodes c =
    subst (λ (o : Cert). All (λ (claim : Claim). length claim.nodes ≤ MAX_CLAIM_NODES) o.claims)
    (sym c.in_ok-ordered-in-Some.ensures)
    (few-nodes c.args.game.now c.in-Some.moves c.args.cert.now
    (nodes-limits c.args.cert.now.claims c.requires.limits.claims))

pub returns-in-None : goal.returns-in-None
returns-in-None c = IfOk-weaker c.print_ordered.result
    (λ text. string_bytes text ≡ page_text
    (book_by c.args.game.now (layout_of c.args.layout c.args.game.now) None c.args.cert.now))
    (λ text. string_bytes text
    ≡ book_text c.args.layout c.args.game.now c.args.cert.now c.args.depth)
    (λ text is. is ∙ ap (book_text c.args.layout c.args.game.now c.args.cert.now)
    (sym c.in-None.is)) c.print_ordered.ensures

pub returns-in_ok-ordered-in-Some : goal.returns-in_ok-ordered-in-Some
returns-in_ok-ordered-in-Some c = IfOk-weaker c.print_ordered-in-Some.result (λ text.
    string_bytes text ≡ page_text (book_by c.args.game.now (layout_of c.args.layout c.args.game.now)
    (Some c.in-Some.moves) c.in_ok-ordered-in-Some.ordered)) (λ text.
    string_bytes text ≡ book_text c.args.layout c.args.game.now c.args.cert.now c.args.depth)
    (λ text is. is
    ∙ ap (λ o. page_text (book_by c.args.game.now (layout_of c.args.layout c.args.game.now)
    (Some c.in-Some.moves) o)) c.in_ok-ordered-in-Some.ensures
    ∙ ap (book_text c.args.layout c.args.game.now c.args.cert.now) (sym c.in-Some.is))
    c.print_ordered-in-Some.ensures
