use Rattle.std.proofs.Common.{◌∙◌, Ok, ap, inl, inr, refl}
use Rattle.pg_binding.proofs.Found.{book_shown, tree_shown}
use Rattle.pg_binding.proofs.telling.shown_book.Goals as goal

pub whole_book-requires : goal.whole_book-requires
whole_book-requires c = rw c.in-Some.is at c.in_ok-tree.ensures.limits

pub returns-in-Some : goal.returns-in-Some
returns-in-Some c =
    let g = c.args.checked.game.now in
    let cert = c.args.checked.cert.now in
    book_shown g cert c.in-Some.tree c.args.layout c.args.depth c.whole_book.result
    (tree_shown g cert c.in-Some.tree c.play_tree.result
    (c.in_ok-tree.was ∙ ap Ok c.in-Some.is) (λ none. c.play_tree.ensures.without (inr none))
    (rw c.in-Some.is at c.in_ok-tree.ensures.tree)
    (rw c.in-Some.is at c.in_ok-tree.ensures.valid)
    (rw c.in-Some.is at c.in_ok-tree.ensures.few))
    c.whole_book.ensures

pub returns-in-None : goal.returns-in-None
returns-in-None c =
    let cert = c.args.checked.cert.now in
    book_shown c.args.checked.game.now cert cert c.args.layout c.args.depth
    c.whole_book-in-None.result
    (inl (refl, c.play_tree.ensures.none (c.in_ok-tree.was ∙ ap Ok c.in-None.is)))
    c.whole_book-in-None.ensures
