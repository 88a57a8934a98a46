use Rattle.std.proofs.Common.{◌≡◌, ◌+◌, ◌*◌, ◌/◌, ◌%◌, ◌<◌, length, set, true, Some, refl, ap, ◌∙◌}
use Rattle.std.proofs.Common.{arith}
use Rattle.pg_unfold.proofs.Common.{slice_get_read, Plain, Image, numbered, number_of, followed_by}
use Rattle.pg_unfold.proofs.Handing.{hands-plain, hands-image}
use Rattle.pg_unfold.proofs.met.hand_on.Goals as goal

pub mark_children-requires-clause-earlier : goal.mark_children-requires-clause-earlier
mark_children-requires-clause-earlier c =
    let at = slice_get_read c.args.nodes.now (length c.args.nodes.now)
    (c.args.key / 8) c.index-nodes-key.result refl (omega arith) c.index-nodes-key.is in
    c.requires.earlier (c.args.key / 8) (Plain c.in-Plain.node) (at ∙ ap Some c.in-Plain.is)

pub bounds-marks-child : goal.bounds-marks-child
bounds-marks-child c =
    let at = slice_get_read c.args.nodes.now (length c.args.nodes.now)
    (c.args.key / 8) c.index-nodes-key.result refl (omega arith) c.index-nodes-key.is in
    let below : c.in-Image.child < c.args.key / 8 = c.requires.earlier (c.args.key / 8)
    (Image c.in-Image.x c.in-Image.y c.in-Image.turn c.in-Image.left c.in-Image.map
    c.in-Image.child) (at ∙ ap Some c.in-Image.is) in
    omega arith

pub returns-in-Plain : goal.returns-in-Plain
returns-in-Plain c =
    let at = slice_get_read c.args.nodes.now (length c.args.nodes.now)
    (c.args.key / 8) c.index-nodes-key.result refl (omega arith) c.index-nodes-key.is in
    hands-plain c.args.nodes.now c.args.key c.args.marks.now c.mark_children.new.marks
    c.in-Plain.node (at ∙ ap Some c.in-Plain.is) c.mark_children.ensures

pub returns-in-Image : goal.returns-in-Image
returns-in-Image c =
    let at = slice_get_read c.args.nodes.now (length c.args.nodes.now)
    (c.args.key / 8) c.index-nodes-key.result refl (omega arith) c.index-nodes-key.is in
    let number : c.number.result
    ≡ number_of (followed_by c.in-Image.map (numbered (c.args.key % 8))) = c.number.ensures.number
    ∙ ap number_of
    (c.followed_by-both.ensures ∙ ap (followed_by c.in-Image.map) c.map_at.ensures) in
    hands-image c.args.nodes.now c.args.key c.args.marks.now
    (set c.args.marks.now (8 * c.in-Image.child + c.number.result) true) c.in-Image.x c.in-Image.y
    c.in-Image.turn c.in-Image.left c.in-Image.map c.in-Image.child (at ∙ ap Some c.in-Image.is)
    (let within = bounds-marks-child c in omega (arith, within, number))
    (ap (λ n. set c.args.marks.now (8 * c.in-Image.child + n) true) number)
