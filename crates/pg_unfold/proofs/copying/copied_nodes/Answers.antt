use Rattle.std.proofs.Common.{List, sym, subst}
use Rattle.pg_unfold.proofs.Common.{Node}
use Rattle.pg_unfold.specs.Layouts.{AreCopiedBelow}
use Rattle.pg_unfold.proofs.Layouts.{copied-none}
use Rattle.pg_unfold.proofs.copying.copied_nodes.Goals as goal

pub loop-key-init : goal.loop-key-init
loop-key-init c =
    let g = c.args.g.now in
    let claim = c.args.claim.now in
    let layout = c.args.layout.now in
    subst (λ (ns : List Node). AreCopiedBelow g claim layout 0 ns) (sym c.new-copied.ensures.items)
    (copied-none g claim layout)
