use Rattle.std.proofs.Common.{◌≡◌, ◌∙◌, ◌++◌, ◌-◌, ◌<◌, Some, ap, arith, length, sym}
use Rattle.std.specs.Prelude.{slice_get}
use Rattle.std.proofs.lemmas.Result.{on_ok_weaker}
use Rattle.pg_scene.proofs.Named.{looked_up}
use Rattle.pg_scene.specs.Scenes.{AreNamed}
use Rattle.pg_book.specs.Books.{section_by}
use Rattle.pg_book.proofs.Nodes.{section-shown, shown-some}
use Rattle.pg_book.proofs.sections.push_section.Goals as goal

pub unreachable-requires : goal.unreachable-requires
unreachable-requires c =
    let k = c.args.page.chapter.count - c.args.page.number in
    let lt : k < length c.args.claim.now.nodes =
    omega (arith, c.requires.counted, c.requires.first, c.requires.last) in
    let at : slice_get c.args.claim.now.nodes k ≡ Some c.index-nodes-number.result =
    looked_up c.as_slice-nodes.result.now c.args.claim.now.nodes k c.index-nodes-number.result
    c.as_slice-nodes.ensures (rw c.as_slice-nodes.ensures lt) c.index-nodes-number.is in
    let named : AreNamed c.args.cert.now c.args.page.chapter.claim k c.args.claim.now
    c.index-nodes-number.result =
    record { claim_at = c.requires.named; node_at = at } in
    let is = c.in_ok-shown.ensures c.args.claim.now c.index-nodes-number.result named in
    shown-some c.args.layout.now.chart c.args.g.now c.args.claim.now c.index-nodes-number.result _
    is c.in_default.is

pub returns : goal.returns
returns c =
    let k = c.args.page.chapter.count - c.args.page.number in
    let lt : k < length c.args.claim.now.nodes =
    omega (arith, c.requires.counted, c.requires.first, c.requires.last) in
    let at : slice_get c.args.claim.now.nodes k ≡ Some c.index-nodes-number.result =
    looked_up c.as_slice-nodes.result.now c.args.claim.now.nodes k c.index-nodes-number.result
    c.as_slice-nodes.ensures (rw c.as_slice-nodes.ensures lt) c.index-nodes-number.is in
    let named : AreNamed c.args.cert.now c.args.page.chapter.claim k c.args.claim.now
    c.index-nodes-number.result =
    record { claim_at = c.requires.named; node_at = at } in
    let is = c.in_ok-shown.ensures c.args.claim.now c.index-nodes-number.result named in
    let made = section-shown c.args.g.now c.args.layout.now c.args.claim.now
    c.args.page.chapter c.args.page.number c.index-nodes-number.result _ c.in-Some.shown is
    c.in-Some.is
    ∙ ap (section_by c.args.g.now c.args.layout.now c.args.claim.now c.args.page.chapter
    c.args.page.number) (sym at) in
    on_ok_weaker c.push_page.result
    (λ added. added ∙ ap (λ xs. c.args.pieces.now.items ++ xs) made) c.push_page.ensures
