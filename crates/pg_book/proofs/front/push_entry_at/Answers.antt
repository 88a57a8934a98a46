use Rattle.std.proofs.Common.{◌∙◌, ◌++◌, ap, length, refl, sym}
use Rattle.std.proofs.lemmas.Result.{on_ok_weaker}
use Rattle.pg_scene.proofs.Named.{looked_up}
use Rattle.pg_book.specs.Books.{entry_by, entry_pieces}
use Rattle.pg_book.proofs.front.push_entry_at.Goals as goal

pub returns : goal.returns
returns c =
    let at = looked_up c.args.claims.now c.args.claims.now c.args.i c.index-claims-i.result refl
    c.requires.one c.index-claims-i.is in
    let made = ap (entry_pieces c.args.g.now.kind c.index-claims-i.result)
    c.chapter_of-chapter.ensures
    ∙ ap (entry_by c.args.g.now c.args.depth (length c.args.claims.now) c.args.i) (sym at) in
    on_ok_weaker c.push_entry.result
    (λ added. added ∙ ap (λ xs. c.args.pieces.now.items ++ xs) made) c.push_entry.ensures
