-- The results that the code finds kind by kind are those of the rules.
use Rattle.std.proofs.Common.{◌≡◌, Bool, true, false, not, Some, None, refl, sym, ap, ◌∙◌}
use Rattle.std.specs.Prelude.{Option, if◌then◌else◌}
use Rattle.pg_game.proofs.Common.{false≢true, contains, Kind, MakerBreaker, MakerMaker}
use Rattle.pg_game.proofs.Common.{AvoiderEnforcer, Switching, Score, XWins, YWins, X, Y, IsGraph}
use Rattle.pg_game.proofs.Common.{Graph}
use Rattle.pg_game.specs.declared.field.Field.{Field}
use Rattle.pg_game.specs.declared.field.Field.TheVariants.{Graph as OnGraph}
use Rattle.pg_game.specs.declared.game.Game.{Game}
use Rattle.pg_game.specs.declared.position.Position.{Position}
use Rattle.pg_game.specs.Field.{field_joins, terminals_joined}
use Rattle.pg_game.specs.Fit.{IsBoard, is_switching, is_graph}
use Rattle.pg_game.specs.Game.{is_over, outcome, is_over_by, outcome_by, has_filled, all_touched}
use Rattle.pg_game.specs.Game.{is_full, short_joins, can_join}
use Rattle.pg_game.specs.Judge.{filling_result, race_result, joining_result}

-- the result in a game of a kind, by what the rules look at
result_by : Kind → Bool → Bool → Bool → Bool → Bool → Bool → Option Score
result_by kind x y t f j c =
    if is_over_by kind x y t f j c then Some (outcome_by kind x y j) else None

breaker : (x y t f j c : Bool)
    → filling_result XWins YWins x t f ≡ result_by MakerBreaker x y t f j c
unfolding result_by
breaker true y t f j c = refl
breaker false y t f j c = refl

avoider : (x y t f j c : Bool)
    → filling_result YWins XWins x t f ≡ result_by AvoiderEnforcer x y t f j c
unfolding result_by
avoider true y t f j c = refl
avoider false y t f j c = refl

race : (x y t f j c : Bool) → race_result x y f ≡ result_by MakerMaker x y t f j c
unfolding result_by
race true y t f j c = refl
race false true t f j c = refl
race false false t f j c = refl

joining : (x y t f j c : Bool) → joining_result j c ≡ result_by Switching x y t f j c
unfolding result_by
joining x y t f true c = refl
joining x y t f false true = refl
joining x y t f false false = refl

-- the result of a position, by what the rules look at
result-by : (g : Game) (p : Position) (kind : Kind)
    → g.kind ≡ kind
    → result_by kind (has_filled g p X) (has_filled g p Y) (all_touched g p) (is_full g p)
    (short_joins g p) (can_join g p) ≡ (if is_over g p then Some (outcome g p) else None)
unfolding result_by is_over outcome
result-by g p kind e = ap (λ (k : Kind). result_by k (has_filled g p X) (has_filled g p Y)
    (all_touched g p) (is_full g p) (short_joins g p) (can_join g p)) (sym e)

pub result-breaker : (g : Game) (p : Position)
    → g.kind ≡ MakerBreaker
    → filling_result XWins YWins (has_filled g p X) (all_touched g p) (is_full g p)
    ≡ (if is_over g p then Some (outcome g p) else None)
result-breaker g p e = breaker (has_filled g p X) (has_filled g p Y) (all_touched g p) (is_full g p)
    (short_joins g p) (can_join g p)
    ∙ result-by g p MakerBreaker e

pub result-avoider : (g : Game) (p : Position)
    → g.kind ≡ AvoiderEnforcer
    → filling_result YWins XWins (has_filled g p X) (all_touched g p) (is_full g p)
    ≡ (if is_over g p then Some (outcome g p) else None)
result-avoider g p e = avoider (has_filled g p X) (has_filled g p Y) (all_touched g p) (is_full g p)
    (short_joins g p) (can_join g p)
    ∙ result-by g p AvoiderEnforcer e

pub result-race : (g : Game) (p : Position)
    → g.kind ≡ MakerMaker
    → race_result (has_filled g p X) (has_filled g p Y) (is_full g p)
    ≡ (if is_over g p then Some (outcome g p) else None)
result-race g p e = race (has_filled g p X) (has_filled g p Y) (all_touched g p) (is_full g p)
    (short_joins g p) (can_join g p)
    ∙ result-by g p MakerMaker e

-- ---- games on graphs

pub kind-switching : (kind : Kind) → is_switching kind ≡ true → kind ≡ Switching
kind-switching Switching h = refl
kind-switching MakerBreaker h = absurd (false≢true h)
kind-switching MakerMaker h = absurd (false≢true h)
kind-switching AvoiderEnforcer h = absurd (false≢true h)

-- a game on a graph is a switching game
pub switching-on_graph : (g : Game) (h : Graph) → g.field ≡ OnGraph h → g.kind ≡ Switching
switching-on_graph g h e = kind-switching g.kind (sym g.fits.within.kind_fits ∙ ap is_graph e)

pub result-joining : (g : Game) (p : Position) (h : Graph)
    → g.field ≡ OnGraph h
    → joining_result (terminals_joined h (contains p.x))
    (terminals_joined h (λ e. not (contains p.y e)))
    ≡ (if is_over g p then Some (outcome g p) else None)
result-joining g p h e = ap (λ (field : Field). joining_result (field_joins field (contains p.x))
    (field_joins field (λ e. not (contains p.y e)))) (sym e)
    ∙ joining (has_filled g p X) (has_filled g p Y) (all_touched g p) (is_full g p)
    (short_joins g p) (can_join g p)
    ∙ result-by g p Switching (switching-on_graph g h e)

-- a graph within the limits of games is one that a joiner takes
pub IsGraph-board : (h : Graph) → IsBoard h → IsGraph h
IsGraph-board h board = record {
  few_edges = board.few_edges;
  s_range = board.s_range;
  t_range = board.t_range;
  ends_range = board.ends;
}
