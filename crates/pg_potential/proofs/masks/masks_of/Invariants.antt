use Rattle.std.proofs.Common.{◌≡◌, take}
use Rattle.pg_potential.proofs.Common.{All}
use Rattle.pg_potential.specs.Masks.{AreMasks, clear_weight}
use Rattle.pg_potential.specs.declared.masks.Mask.{Mask}
use Rattle.pg_potential.proofs.masks.masks_of.Given as goal

abbrev pub invariant-loop-line : goal.invariant-loop-line
invariant-loop-line l = record {
  lines : AreMasks (take l.line-index l.lines) l.masks.items;
  clear : All (λ (m : Mask). m.clear ≡ clear_weight l.base l.longest m.line.items) l.masks.items;
}
