use Rattle.std.proofs.Common.{refl}
use Rattle.pg_book.proofs.Nodes.{shows}
use Rattle.pg_book.proofs.scenes.show_node.Goals as goal

pub returns-in_ok-show-in-Some : goal.returns-in_ok-show-in-Some
returns-in_ok-show-in-Some c =
    let is = rw (c.in-Some.is, c.page_look-look.ensures) at c.in_ok-scene.ensures.scene in
    let drawn = rw c.page_look-look.ensures at c.in_ok-show-in-Some.ensures.0 in
    shows c.args.chart c.args.g.now c.args.cert.now c.args.page.chapter.claim c.args.node
    c.in-Some.scene _ c.in_ok-show-in-Some.field-0 is refl drawn c.in_ok-show-in-Some.ensures.1
