use Rattle.std.proofs.Common.{◌≡◌, None, sym, ◌∙◌, eqb-true, eq-eqb}
use Rattle.pg_maps.specs.Images.{board_of}
use Rattle.pg_maps.proofs.Boards.{Fits-none, none-Fits}
use Rattle.pg_maps.proofs.fitting.fits.Goals as goal

pub returns-in_default : goal.returns-in_default
returns-in_default c =
    let g = c.args.g.now in
    let none : board_of g.field ≡ None = sym c.board_of.ensures ∙ c.in_default.is in (
      λ on. Fits-none g c.args.m none (sym c.number.ensures.number ∙ eqb-true c.number.result 0 on),
      λ h. eq-eqb c.number.result 0 (c.number.ensures.number ∙ none-Fits g c.args.m none h),
    )
