-- A switching game by walks.
use Rattle.std.proofs.Common.{◌≡◌, not, ◌||◌, cond, ap, ◌∙◌}
use Rattle.pg_game.proofs.Common.{false_from_ne_true, or_left, or_right, not_from_false, contains}
use Rattle.pg_game.proofs.Common.{Kind, XWins, YWins, X, Y, Graph}
use Rattle.pg_game.specs.declared.field.Field.{Field}
use Rattle.pg_game.specs.declared.field.Field.TheVariants.{Graph as OnGraph}
use Rattle.pg_game.specs.declared.game.Game.{Game}
use Rattle.pg_game.specs.declared.position.Position.{Position}
use Rattle.pg_game.specs.Field.{field_joins, terminals_joined}
use Rattle.pg_game.specs.Game.{is_over, outcome, is_over_by, outcome_by, has_filled, all_touched}
use Rattle.pg_game.specs.Game.{is_full, short_joins, can_join}
use Rattle.pg_game.specs.Walked.{IsJoiningGame}
use Rattle.pg_game.proofs.Outcomes.{switching-on_graph}
use Rattle.pg_game.proofs.TerminalLemmas.{terminals-decides}

module _ (g : Game) (h : Graph) (field : g.field ≡ OnGraph h) where
  -- the game is over where X's edges join the terminals or those that aren't Y's don't
  pub over-switching : (p : Position)
      → is_over g p
      ≡ (terminals_joined h (contains p.x) || not (terminals_joined h (λ e. not (contains p.y e))))
  unfolding is_over
  over-switching p =
      ap (λ (k : Kind). is_over_by k (has_filled g p X) (has_filled g p Y) (all_touched g p)
      (is_full g p) (short_joins g p) (can_join g p)) (switching-on_graph g h field)
      ∙ ap (λ (f : Field).
      field_joins f (contains p.x) || not (field_joins f (λ e. not (contains p.y e)))) field

  -- X has won where its edges join the terminals
  pub outcome-switching : (p : Position)
      → outcome g p ≡ (cond (terminals_joined h (contains p.x)) XWins YWins)
  unfolding outcome
  outcome-switching p =
      ap (λ (k : Kind). outcome_by k (has_filled g p X) (has_filled g p Y) (short_joins g p))
      (switching-on_graph g h field)
      ∙ ap (λ (f : Field). cond (field_joins f (contains p.x)) XWins YWins) field

  pub IsJoiningGame-on_graph : IsJoiningGame g h
  IsJoiningGame-on_graph = record {
    kind = switching-on_graph g h field;
    x_wins = λ p walk.
        let joined = (terminals-decides h (contains p.x)).1 walk in (
          over-switching p ∙ or_left _ _ joined,
          outcome-switching p ∙ ap (λ b. cond b XWins YWins) joined,
        );
    y_wins = λ p parted none.
        let joined =
        false_from_ne_true _ (λ on. none ((terminals-decides h (contains p.x)).0 on)) in
        let joinable = false_from_ne_true _
        (λ on. parted ((terminals-decides h (λ e. not (contains p.y e))).0 on)) in (
          over-switching p ∙ or_right _ _ (not_from_false _ joinable),
          outcome-switching p ∙ ap (λ b. cond b XWins YWins) joined,
        );
    goes_on = λ p none walk.
        let joined =
        false_from_ne_true _ (λ on. none ((terminals-decides h (contains p.x)).0 on)) in
        let joinable = (terminals-decides h (λ e. not (contains p.y e))).1 walk in
        over-switching p ∙ (λ i. joined i || not (joinable i));
  }
