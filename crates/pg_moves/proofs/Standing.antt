-- A game that stands at a position of another.
use Rattle.std.proofs.Common.{◌≡◌, ◌≤◌, ◌∙◌, ◌&&◌, ◌||◌, ◌==◌, ℕ, Bool, true, false, not, [], refl}
use Rattle.std.proofs.Common.{sym, ap, ap₂, subst, inl, inr}
use Rattle.pg_moves.proofs.Common.{Budget, Game, IsAnswer, IsGameAt, IsPosition, Kind, Outcome}
use Rattle.pg_moves.proofs.Common.{Position, bias_of, claims_in_turn, eqb-true, filter, free_points}
use Rattle.pg_moves.proofs.Common.{is_over, list_all, list_any, or_cases, same-value, start, value}
use Rattle.pg_moves.proofs.Common.{value-over, winner, won_by}
use Rattle.pg_base.specs.Points.{AreBelow}
use Rattle.pg_game.specs.Field.{field_joins, field_lines, field_points}
use Rattle.pg_game.specs.Game.{is_empty, is_filled, is_over_by, is_touched, lines_of, outcome}
use Rattle.pg_game.specs.Game.{outcome_by}
use Rattle.pg_game.specs.declared.field.Field.{Field}
use Rattle.pg_sessions.proofs.Values.{known-from}
use Rattle.pg_solve.specs.declared.solution.Solution.TheVariants.{Class as ForClass}
use Rattle.std.specs.FinSet.{FinSet, contains}
use Rattle.std.specs.List.{range_with_len}
use Rattle.std.specs.Ordering.{nat_cmp}
use Rattle.pg_moves.specs.Trials.{HasRulesOf, IsTriedAt, IsValueOf, IsWorth, IsWorthOnGraph}
use Rattle.pg_moves.specs.Trials.{IsWorthOnLines, is_between_turns}
use Rattle.pg_moves.specs.declared.trial.Worth.{Worth}
use Rattle.pg_moves.specs.declared.trial.Worth.TheVariants.{Known, Unknown}

-- ---- whether the game is over

-- by the kind, the field and the marks: it doesn't depend on what is left of a turn
over_by : Kind → Field → FinSet nat_cmp → FinSet nat_cmp → Bool
over_by kind field x y = is_over_by kind (list_any (is_filled x) (field_lines field))
    (list_any (is_filled y) (field_lines field)) (list_all (is_touched y) (field_lines field))
    (is_empty (filter (λ v. not (contains x v) && not (contains y v))
    (range_with_len 0 (field_points field)))) (field_joins field (contains x))
    (field_joins field (λ e. not (contains y e)))

over-is : (g : Game) (p : Position) → is_over g p ≡ over_by g.kind g.field p.x p.y
unfolding over_by is_over free_points
over-is g p = refl

-- the same for two games of the same kind and field, at the same marks
pub over_same : (g h : Game) (p q : Position)
    → h.kind ≡ g.kind
    → h.field ≡ g.field
    → q.x ≡ p.x
    → q.y ≡ p.y
    → is_over h q ≡ is_over g p
over_same g h p q kind field x y =
    let same : over_by h.kind h.field q.x q.y ≡ over_by g.kind g.field p.x p.y = cc in
    over-is h q ∙ same ∙ sym (over-is g p)

outcome_same : (g : Game) (p q : Position)
    → q.x ≡ p.x
    → q.y ≡ p.y
    → outcome g q ≡ outcome g p
unfolding outcome
outcome_same g p q x y = ap₂ (λ (a b : FinSet nat_cmp).
    outcome_by g.kind (list_any (is_filled a) (lines_of g)) (list_any (is_filled b) (lines_of g))
    (field_joins g.field (contains a))) x y

-- ---- the position

-- where a turn begins at a position, the game that has its marks stands there
pub start-here : (g here : Game) (p : Position)
    → IsGameAt g p here
    → p.left ≡ bias_of g p.turn
    → start here ≡ p
start-here g here p is begins =
    let left : claims_in_turn here.bias here.turn ≡ p.left =
    ap₂ claims_in_turn is.same_bias is.same_turn ∙ sym begins in
    let x = is.same_x in
    let y = is.same_y in
    let turn = is.same_turn in
    let same : record {
      x = here.x;
      y = here.y;
      turn = here.turn;
      left = claims_in_turn here.bias here.turn;
    } ≡ record { x = p.x; y = p.y; turn = p.turn; left = p.left } = cc in
    same

-- where the game is over, what is left of the turn plays no part
value-over_here : (g here : Game) (p : Position)
    → IsGameAt g p here
    → is_over g p ≡ true
    → value g (start here) ≡ value g p
value-over_here g here p is over =
    value-over g (start here)
    (over_same g g p (start here) refl refl is.same_x is.same_y ∙ over)
    ∙ outcome_same g p (start here) is.same_x is.same_y ∙ sym (value-over g p over)

value-here : (g here : Game) (p : Position)
    → IsGameAt g p here
    → is_between_turns g p ≡ true
    → value here (start here) ≡ value g p
value-here g here p is between =
    same-value g here p (start here) is
    ∙ elim (or_cases (p.left == bias_of g p.turn) (is_over g p) between)
    as (λ _. value g (start here) ≡ value g p) [
      | inl begins ↦ ap (value g) (start-here g here p is (eqb-true _ _ begins))
      | inr over ↦ value-over_here g here p is over
    ]

-- ---- rules

pub own_rules : (g : Game) → HasRulesOf g g
own_rules g = record { kind = refl; field = refl; bias = refl }

pub rules_at : (g h here : Game) (p : Position)
    → HasRulesOf g h
    → IsGameAt h p here
    → HasRulesOf g here
rules_at g h here p rules is = record {
  kind = is.same_kind ∙ rules.kind;
  field = is.same_field ∙ rules.field;
  bias = is.same_bias ∙ rules.bias;
}

pub rules_then : (g h here : Game) → HasRulesOf g h → HasRulesOf h here → HasRulesOf g here
rules_then g h here first second = record {
  kind = second.kind ∙ first.kind;
  field = second.field ∙ first.field;
  bias = second.bias ∙ first.bias;
}

-- a position of a game is one of each game with its rules
pub position_by : (g h : Game) (p : Position)
    → HasRulesOf g h
    → IsPosition g p
    → IsPosition h p
position_by g h p rules position = record {
  x_range = subst (λ (f : Field). AreBelow p.x (field_points f)) (sym rules.field) position.x_range;
  y_range = subst (λ (f : Field). AreBelow p.y (field_points f)) (sym rules.field) position.y_range;
  disjoint = position.disjoint;
  some_left = position.some_left;
  few_left = subst (λ (b : ℕ). p.left ≤ claims_in_turn b p.turn) (sym rules.bias)
      position.few_left;
}

pub stands_by : (g h here : Game) (p : Position)
    → HasRulesOf g h
    → IsGameAt h p here
    → IsGameAt g p here
stands_by g h here p rules is = record {
  same_kind = is.same_kind ∙ rules.kind;
  same_field = is.same_field ∙ rules.field;
  same_x = is.same_x;
  same_y = is.same_y;
  same_turn = is.same_turn;
  same_bias = is.same_bias ∙ rules.bias;
}

-- ---- the value

-- the marks of a game are its own position's
at_start : (g h : Game) (p : Position)
    → HasRulesOf g h
    → value h p ≡ value g p
at_start g h p rules = same-value g h (record { x = h.x; y = h.y; turn = h.turn; left = 0 }) p
    (record {
      same_kind = rules.kind;
      same_field = rules.field;
      same_x = refl;
      same_y = refl;
      same_turn = refl;
      same_bias = rules.bias;
    })

on_graph : (here : Game) (worth : Worth)
    → IsWorthOnGraph here worth
    → IsValueOf here (start here) worth
on_graph here (Known score nodes expanded) (
  class,
  c,
  shows,
  score_is,
  counts,
  unsearched,
) = (known-from here 0 [] (ForClass class c) (record {
  score = won_by (winner class here.turn);
  certificate = c;
}) shows.shows.holds shows.shows.claims shows.shows.valid shows.shows.limits shows.sets refl).here
    ∙ sym score_is
on_graph here (Unknown expanded) none = absurd none

module _ (Brings : Game → Budget → Outcome → Type 0) (budget : Budget) where
  on_lines : (here : Game) (worth : Worth)
      → IsWorthOnLines Brings budget here worth
      → IsValueOf here (start here) worth
  on_lines here (Known score nodes expanded) (c, shows, counts, answer) = shows.holds
  on_lines here (Unknown expanded) is = tt

  -- what is known of the game where it stands is true
  worth_holds : (here : Game) (worth : Worth)
      → IsWorth Brings budget here worth
      → IsValueOf here (start here) worth
  worth_holds here worth (inl graph) = on_graph here worth graph.1
  worth_holds here worth (inr lines) = on_lines here worth lines.1

  carried : (g here : Game) (p : Position) (worth : Worth)
      → value here (start here) ≡ value g p
      → IsValueOf here (start here) worth
      → IsValueOf g p worth
  carried g here p (Known score nodes expanded) same is = sym same ∙ is
  carried g here p (Unknown expanded) same is = tt

  -- a position between turns, by the game that has its marks
  pub tried_at : (g here : Game) (p : Position) (worth : Worth)
      → is_between_turns g p ≡ true
      → IsGameAt g p here
      → IsWorth Brings budget here worth
      → IsTriedAt Brings budget g p worth
  tried_at g here p worth between stands is = record {
    holds = carried g here p worth (value-here g here p stands between)
        (worth_holds here worth is);
    tried = inl (record { between = between; here = here; stands = stands; worth_is = is });
  }

  -- a position within a turn
  pub untried_at : (g : Game) (p : Position)
      → is_between_turns g p ≡ false
      → IsTriedAt Brings budget g p (Unknown 0)
  untried_at g p goes_on =
      record { holds = tt; tried = inr (record { goes_on = goes_on; untried = refl }) }

-- ---- another game with the same rules, and a finder that may bring no less

module _ (Brings Before : Game → Budget → Outcome → Type 0) (budget : Budget)
    (more : (other : Game) (allowed : Budget) (later : Outcome) → Brings other allowed later
    → Before other allowed later) where
  answer_before : (g : Game) (answer : Outcome)
      → IsAnswer Brings g budget answer
      → IsAnswer Before g budget answer
  answer_before g answer is = record {
    outcome = is.outcome;
    brought = more g budget is.outcome is.brought;
    writable = is.writable;
    few = is.few;
    expanded = is.expanded;
    judged = is.judged;
  }

  lines_before : (here : Game) (worth : Worth)
      → IsWorthOnLines Brings budget here worth
      → IsWorthOnLines Before budget here worth
  lines_before here (Known score nodes expanded) (c, shows, counts, answer) =
      (c, shows, counts, answer_before here _ answer)
  lines_before here (Unknown expanded) answer = answer_before here _ answer

  worth_before : (here : Game) (worth : Worth)
      → IsWorth Brings budget here worth
      → IsWorth Before budget here worth
  worth_before here worth (inl graph) = inl graph
  worth_before here worth (inr lines) = inr (lines.0, lines_before here worth lines.1)

  module _ (g h : Game) (rules : HasRulesOf g h) (p : Position) (worth : Worth) where
    holds_by : (w : Worth) → IsValueOf h p w → IsValueOf g p w
    holds_by (Known score nodes expanded) is = sym (at_start g h p rules) ∙ is
    holds_by (Unknown expanded) is = tt

    same_between : is_between_turns h p ≡ is_between_turns g p
    same_between = ap₂ (λ (n : ℕ) (over : Bool). p.left == n || over)
        (ap (λ (b : ℕ). claims_in_turn b p.turn) rules.bias)
        (over_same g h p p rules.kind rules.field refl refl)

    pub tried_before : IsTriedAt Brings budget h p worth → IsTriedAt Before budget g p worth
    tried_before is = record {
      holds = holds_by worth is.holds;
      tried = elim is.tried [
        | inl settled ↦ inl (record {
          between = sym same_between ∙ settled.between;
          here = settled.here;
          stands = stands_by g h settled.here p rules settled.stands;
          worth_is = worth_before settled.here worth settled.worth_is;
        })
        | inr within ↦ inr (record {
          goes_on = sym same_between ∙ within.goes_on;
          untried = within.untried;
        })
      ];
    }
