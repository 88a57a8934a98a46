use Rattle.std.proofs.Common.{ap, ◌∙◌}
use Rattle.pg_pairing.proofs.Common.{contains, contains-empty, nat_cmp}
use Rattle.pg_pairing.proofs.answers.open_points.Goals as goal

pub loop-s-init : goal.loop-s-init
loop-s-init c = λ q. ap (λ s. contains s q) c.empty-opened.ensures ∙ contains-empty nat_cmp q
