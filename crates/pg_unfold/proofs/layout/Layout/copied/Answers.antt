use Rattle.std.proofs.Common.{ℕ, List, Bool, Option, sym, subst}
use Rattle.pg_unfold.proofs.Common.{All, Grid, IsImageNode, ImageNode}
use Rattle.std.proofs.lemmas.Result.{IfOk-weaker}
use Rattle.pg_unfold.specs.Layouts.{IsNextCopy}
use Rattle.pg_unfold.specs.Marks.{AreBoardMaps, AreEarlier, AreMet, ArePlaces}
use Rattle.pg_unfold.proofs.ClaimSteps.{AreBoardMaps-sound, AreEarlier-sound}
use Rattle.pg_unfold.proofs.Layouts.{copied-next}
use Rattle.pg_unfold.proofs.layout.Layout.copied.Goals as goal

pub copied_node-requires-clause-limits : goal.copied_node-requires-clause-limits
copied_node-requires-clause-limits c =
    subst (All IsImageNode) (sym c.as_slice-nodes.ensures) c.requires.laid.limits.nodes

pub copied_node-requires-clause-earlier : goal.copied_node-requires-clause-earlier
copied_node-requires-clause-earlier c = subst AreEarlier (sym c.as_slice-nodes.ensures)
    (AreEarlier-sound c.args.g.now c.args.claim.now c.requires.sound)

pub copied_node-requires-clause-met : goal.copied_node-requires-clause-met
copied_node-requires-clause-met c =
    subst (λ (ns : List ImageNode). AreMet ns c.as_slice-marks.result.now)
    (sym c.as_slice-nodes.ensures) (subst (λ (ms : List Bool). AreMet c.args.claim.now.nodes ms)
    (sym c.as_slice-marks.ensures.value) c.requires.laid.met)

pub copied_node-requires-clause-places : goal.copied_node-requires-clause-places
copied_node-requires-clause-places c =
    let nodes = c.args.claim.now.nodes in
    let ms = c.as_slice-marks.result.now in
    let ps = c.as_slice-places.result.now in
    subst (λ (ns : List ImageNode). ArePlaces ns ms ps) (sym c.as_slice-nodes.ensures)
    (subst (λ (bs : List Bool). ArePlaces nodes bs ps) (sym c.as_slice-marks.ensures.value)
    (subst (λ (xs : List ℕ). ArePlaces nodes c.args.self.now.marks.items xs)
    (sym c.as_slice-places.ensures.value) c.requires.laid.places))

pub copied_node-requires-clause-maps : goal.copied_node-requires-clause-maps
copied_node-requires-clause-maps c =
    let met = subst (λ (ms : List Bool). AreMet c.args.claim.now.nodes ms)
    (sym c.as_slice-marks.ensures.value) c.requires.laid.met in
    subst (λ (board : Option Grid). AreBoardMaps board c.as_slice-marks.result.now)
    (sym c.board_of-board.ensures)
    (AreBoardMaps-sound c.args.g.now c.args.claim.now c.requires.sound c.as_slice-marks.result.now
    met)

pub returns : goal.returns
returns c = IfOk-weaker _ _ _ (λ next is.
    copied-next c.args.g.now c.args.claim.now c.args.self.now c.requires.sound c.requires.laid
    c.args.key next
    (subst (λ (b : Option Grid).
    IsNextCopy b c.args.claim.now.nodes c.args.self.now.marks.items c.args.key next)
    c.board_of-board.ensures (subst (λ (ms : List Bool).
    IsNextCopy c.board_of-board.result c.args.claim.now.nodes ms c.args.key next)
    c.as_slice-marks.ensures.value (subst (λ (ns : List ImageNode).
    IsNextCopy c.board_of-board.result ns c.as_slice-marks.result.now c.args.key next)
    c.as_slice-nodes.ensures is)))) c.copied_node.ensures
