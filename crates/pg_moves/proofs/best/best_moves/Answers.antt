use Rattle.std.proofs.Common.{◌≡◌, ◌∙◌, Bool, None, Some, ap, if◌then◌else◌, sym, true}
use Rattle.pg_moves.proofs.Common.{Score, best}
use Rattle.pg_moves.specs.Best.{all_known, known_scores, points_with}
use Rattle.pg_moves.proofs.best.best_moves.Goals as goal

pub returns : goal.returns
returns c =
    let trials = c.args.trials.now in
    let known : all_known trials ≡ true = sym c.are_known.ensures ∙ c.if-not-are_known.false in
    ap Some (c.in_ok-points.ensures
    ∙ ap (λ (s : Score). points_with s trials) c.best_score.ensures)
    ∙ sym (ap (λ (b : Bool). if b
    then Some (points_with (best c.args.side (known_scores trials)) trials)
    else None) known)
