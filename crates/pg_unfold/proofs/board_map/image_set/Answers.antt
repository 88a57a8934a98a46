use Rattle.std.proofs.Common.{refl, sym, subst, ◌≡◌, Option}
use Rattle.pg_unfold.proofs.Common.{image_on, Grid, image_set-from, image_set}
use Rattle.pg_unfold.proofs.board_map.image_set.Goals as goal

pub returns-in-None : goal.returns-in-None
returns-in-None c = subst (λ (board : Option Grid).
    c.args.set.now ≡ image_set (image_on board c.args.m) c.args.set.now) (sym c.in-None.is)
    (image_set-from (λ v. v) c.args.set.now c.args.set.now c.requires.points (λ v on. on)
    (λ w on. (w, on, refl)))
