use Rattle.std.proofs.Common.{◌≡◌, ◌↔◌, Option, Some, None, true, sym, ◌∙◌}
use Rattle.pg_unfold.proofs.Common.{Vec, Contains, false≢true, Grid, Fits, GridMap}
use Rattle.std.specs.Option.{is_some}
use Rattle.std.proofs.lemmas.Result.{IfOk-weaker}
use Rattle.pg_unfold.proofs.SoundNodes.{usable-fitting}
use Rattle.pg_unfold.proofs.soundness.usable_maps.Goals as goal

there : (o : Option Grid) → is_some o ≡ true → (grid : Grid) × (o ≡ Some grid)
there None on = absurd (false≢true on)
there (Some grid) on = (grid, λ i. Some grid)

pub returns : goal.returns
returns c =
    let has = there c.board_of.result c.if-is_none.ensures in
    IfOk-weaker _ _ _
    (λ (maps : Vec GridMap) (fit : (m : GridMap) → Contains maps.items m ↔ Fits c.args.g.now m).
    usable-fitting c.args.g.now has.0 maps.items (sym c.board_of.ensures ∙ has.1) fit)
    c.fitting_maps.ensures.fit
