use Rattle.std.proofs.Common.{◌≡◌, ◌∙◌, ◌++◌, Some, ap, length, sym}
use Rattle.std.specs.Prelude.{slice_get}
use Rattle.std.proofs.lemmas.Result.{on_ok_weaker}
use Rattle.pg_scene.proofs.Named.{looked_up}
use Rattle.pg_book_parts.specs.declared.chapter.Chapter.{Chapter}
use Rattle.pg_book.specs.Books.{chapter_of, claim_by, sections_pieces}
use Rattle.pg_book.proofs.book.push_claim_at.Goals as goal

pub push_sections-requires-clause-named : goal.push_sections-requires-clause-named
push_sections-requires-clause-named c =
    let at : slice_get c.args.cert.now.claims c.args.i ≡ Some c.index-claims-i.result =
    looked_up c.as_slice-claims.result.now c.args.cert.now.claims c.args.i
    c.index-claims-i.result c.as_slice-claims.ensures
    (rw c.as_slice-claims.ensures c.requires.one) c.index-claims-i.is in
    rw c.chapter_of-chapter.ensures at

pub push_sections-requires-clause-counted : goal.push_sections-requires-clause-counted
push_sections-requires-clause-counted c =
    ap (λ (chapter : Chapter). chapter.count) c.chapter_of-chapter.ensures

pub returns : goal.returns
returns c =
    let at : slice_get c.args.cert.now.claims c.args.i ≡ Some c.index-claims-i.result =
    looked_up c.as_slice-claims.result.now c.args.cert.now.claims c.args.i
    c.index-claims-i.result c.as_slice-claims.ensures
    (rw c.as_slice-claims.ensures c.requires.one) c.index-claims-i.is in
    let chapter : c.chapter_of-chapter.result
    ≡ chapter_of c.args.g.now c.args.depth (length c.args.cert.now.claims) c.args.i
    c.index-claims-i.result =
    c.chapter_of-chapter.ensures
    ∙ ap (λ claims. chapter_of c.args.g.now c.args.depth (length claims) c.args.i
    c.index-claims-i.result)
    c.as_slice-claims.ensures in
    let made = ap (sections_pieces c.args.g.now c.args.layout.now c.index-claims-i.result) chapter
    ∙ ap (claim_by c.args.g.now c.args.layout.now c.args.depth (length c.args.cert.now.claims)
    c.args.i)
    (sym at) in
    on_ok_weaker c.push_sections.result
    (λ added. added ∙ ap (λ xs. c.args.pieces.now.items ++ xs) made) c.push_sections.ensures
