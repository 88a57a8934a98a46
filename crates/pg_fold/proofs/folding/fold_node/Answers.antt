use Rattle.std.proofs.Common.{refl, length}
use Rattle.pg_fold.proofs.Common.{on_ok_weaker, get, equal_positions, Image}
use Rattle.pg_fold.proofs.Originals.{original-by}
use Rattle.pg_fold.proofs.Steps.{on_ok_both, image-pushed, plain-pushed}
use Rattle.pg_fold.proofs.folding.fold_node.Goals as goal

pub returns-in-Some-clause-folded : goal.returns-in-Some-clause-folded
returns-in-Some-clause-folded c =
    let node = c.args.node.now in
    let o = c.in-Some.original in
    let known = get equal_positions c.args.known.now.places in
    on_ok_weaker c.add_image.result
    (λ pushed g tables before are have. image-pushed g before node known c.args.folded.now.items
    c.add_image.new.folded.items c.position-p.result c.position-p.ensures c.in_ok-original.field-0
    (original-by g c.args.tables.now tables known c.position-p.result c.in_ok-original.field-0
    c.in_ok-original.ensures) are have o (Image node.x node.y node.turn node.left o.map o.node)
    c.in-Some.is refl pushed) c.add_image.ensures

pub returns-in-None-clause-folded : goal.returns-in-None-clause-folded
returns-in-None-clause-folded c =
    let node = c.args.node.now in
    let nodes = c.args.folded.now.items in
    let known = get equal_positions c.args.known.now.places in
    on_ok_both c.add_plain.result
    (λ pushed kept g tables before are have. plain-pushed g before node known nodes
    c.add_plain.new.folded.items c.position-p.result c.position-p.ensures c.in_ok-original.field-0
    (original-by g c.args.tables.now tables known c.position-p.result c.in_ok-original.field-0
    c.in_ok-original.ensures) are have (get equal_positions c.add_plain.new.known.places)
    (length nodes) node c.in-None.is refl kept refl pushed) c.add_plain.ensures.pushed
    c.add_plain.ensures.kept
