-- The class by the two values.
use Rattle.std.proofs.Common.{◌≡◌, ap, ◌∙◌}
use Rattle.pg_plain.proofs.Common.{Score, X, Y, Game, with_turn, value, class_by, class_of}

pub class_of-values : (g : Game) (s t : Score)
    → s ≡ value g (with_turn g X)
    → t ≡ value g (with_turn g Y)
    → class_by s t ≡ class_of g
unfolding class_of
class_of-values g s t with_x with_y =
    ap (λ (u : Score). class_by u t) with_x ∙ ap (class_by (value g (with_turn g X))) with_y
