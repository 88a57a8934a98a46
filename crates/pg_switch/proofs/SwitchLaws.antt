-- A switching game's rules are those of a test, so trees that hold force Short's win, and cuts that
-- hold force Cut's, by the laws of spanning.
use Rattle.std.proofs.Common.{◌≡◌, ℕ, ◌<◌, ◌≤◌, suc, Bool, not, ◌||◌, cond, refl, sym, ap, ◌∙◌}
use Rattle.std.proofs.Common.{subst, arith}
use Rattle.pg_switch.proofs.Common.{false_from_ne_true, FinSet, contains, nat_cmp, IsBelow, Win}
use Rattle.pg_switch.proofs.Common.{XWins, YWins, Side, X, Y, Graph, edge_count, spans_in}
use Rattle.pg_switch.proofs.Common.{first_end, second_end, IsSpan-graph, spans_e-sound}
use Rattle.pg_switch.proofs.Common.{spans_e-complete, joins-below, joins_more, Field, Lines, Game}
use Rattle.pg_switch.proofs.Common.{Position, field_points, field_joins, terminals_joined}
use Rattle.pg_switch.proofs.Common.{greatest_bias, is_over, is_over_by, outcome, outcome_by}
use Rattle.pg_switch.proofs.Common.{short_joins, can_join, has_filled, all_touched, is_full}
use Rattle.pg_switch.proofs.Common.{IsPosition, claims_in_turn, Rules, ForcesBy, AreTrees, AreCuts}
use Rattle.pg_switch.proofs.Common.{TreesHold, TreesHoldOn, CutsHold, CutsHoldOn, rules_of, Forces}
use Rattle.std.proofs.Math.Path.{fun_ext, ap₂}
use Rattle.pg_base.specs.declared.kind.Kind.{Kind}
use Rattle.pg_base.specs.declared.score.Score.{Score}
use Rattle.pg_game.specs.declared.field.Field.TheVariants.{Graph as OnGraph}
use Rattle.pg_game.proofs.Outcomes.{switching-on_graph}
use Rattle.pg_game.proofs.TerminalLemmas.{terminals-from_joined}
use Rattle.pg_switch.specs.Claims.{kept, claim_rules, IsMonotone, IsPlace}
use Rattle.pg_switch.proofs.SpanLaws.{ForcesBy-trees, ForcesBy-cuts}
use Rattle.pg_switch.proofs.EdgeSets.{IsTrees-from, IsCuts-from}

same_rules : (p q b c : ℕ) (o u : Position → Bool) (s t : Position → Score)
    → p ≡ q
    → b ≡ c
    → o ≡ u
    → s ≡ t
    → ◌≡◌ {A = Rules} (record { points = p; bias = b; over = o; outcome = s }) (record {
      points = q;
      bias = c;
      over = u;
      outcome = t;
    })
same_rules p q b c o u s t ep eb eo es = λ i. record {
  points = ep i;
  bias = eb i;
  over = eo i;
  outcome = es i;
}

module _ (g : Game) (h : Graph) (on : g.field ≡ OnGraph h) where
  -- Y claims one edge a turn
  single : g.bias ≡ 1
  single =
      let few : g.bias ≤ 1 =
      subst (λ (k : Kind). g.bias ≤ greatest_bias k) (switching-on_graph g h on) g.fits.few_bias in
      omega (arith, few, g.fits.some_bias)

  own_joins : (p : Position) → short_joins g p ≡ terminals_joined h (contains p.x)
  own_joins p = ap (λ (f : Field). field_joins f (contains p.x)) on

  kept_joins : (p : Position) → can_join g p ≡ terminals_joined h (kept (edge_count h) p)
  kept_joins p = ap (λ (f : Field). field_joins f (λ e. not (contains p.y e))) on
      ∙ sym (joins-below (first_end h.ends) (second_end h.ends) (λ e. not (contains p.y e))
      (edge_count h) h.s h.t)

  over_same : (p : Position)
      → is_over g p
      ≡ (terminals_joined h (contains p.x) || not (terminals_joined h (kept (edge_count h) p)))
  unfolding is_over
  over_same p = ap (λ (k : Kind). is_over_by k (has_filled g p X) (has_filled g p Y)
      (all_touched g p) (is_full g p) (short_joins g p) (can_join g p)) (switching-on_graph g h on)
      ∙ ap₂ (λ (j c : Bool). j || not c) (own_joins p) (kept_joins p)

  outcome_same : (p : Position) → outcome g p ≡ cond (terminals_joined h (contains p.x)) XWins YWins
  unfolding outcome
  outcome_same p =
      ap (λ (k : Kind). outcome_by k (has_filled g p X) (has_filled g p Y) (short_joins g p))
      (switching-on_graph g h on)
      ∙ ap (λ (j : Bool). cond j XWins YWins) (own_joins p)

  -- the rules are those of the test whether edges join the terminals
  pub rules-switching : rules_of g ≡ claim_rules (edge_count h) (terminals_joined h)
  rules-switching = same_rules _ _ _ _ _ _ _ _ (ap field_points on) single (fun_ext over_same)
      (fun_ext outcome_same)

  -- a position of the game is one of these rules
  pub place-switching : (p : Position) → IsPosition g p → IsPlace (edge_count h) p
  place-switching p i = record {
    x_range = λ v k. subst (λ (n : ℕ). v < n) (ap field_points on) (i.x_range v k);
    y_range = λ v k. subst (λ (n : ℕ). v < n) (ap field_points on) (i.y_range v k);
    disjoint = i.disjoint;
    one_left = let few : p.left ≤ 1 = at p.turn i.few_left in omega (arith, few, i.some_left);
  } where
    at : (s : Side) → p.left ≤ claims_in_turn g.bias s → p.left ≤ 1
    at X l = l
    at Y l = omega (arith, l, single)

-- edges join the terminals where they span e, and more edges where fewer do
joins_e : (h : Graph) (set : ℕ → Bool)
    → IsBelow set (edge_count h)
    → terminals_joined h set ≡ spans_in h set (edge_count h)
joins_e h set small =
    let edges : IsBelow set (suc (edge_count h)) = λ z k. let low = small z k in omega arith in
    sym (terminals-from_joined h set (spans_in h set (edge_count h)) small (
      λ t. spans_e-sound h set t,
      λ walk. spans_e-complete h set edges walk,
    ))

more_join : (h : Graph) → IsMonotone (terminals_joined h)
more_join h a b w t = joins_more (first_end h.ends) (second_end h.ends) a b (edge_count h) h.s h.t
    (λ k low i. w k i) t

forces_trees : (g : Game) (h : Graph) (p : Position) (a1 a2 : FinSet nat_cmp)
    → g.field ≡ OnGraph h
    → IsPosition g p
    → AreTrees h p a1 a2
    → Forces g p X Win
forces_trees g h p a1 a2 on position t =
    let place = place-switching g h on p position in
    let s = IsTrees-from h p a1 a2 place.x_range t in
    subst (λ (r : Rules). ForcesBy r p X Win) (sym (rules-switching g h on))
    (ForcesBy-trees (spans_in h) (IsSpan-graph h) (edge_count h) (terminals_joined h) (more_join h)
    (joins_e h) p a1 a2 place (record {
      first_free = t.first_free;
      second_free = t.second_free;
      apart = t.apart;
      first = s.first;
      first_joins = s.first_joins;
      second = s.second;
      second_joins = s.second_joins;
    }))

forces_cuts : (g : Game) (h : Graph) (p : Position) (d1 d2 : FinSet nat_cmp)
    → g.field ≡ OnGraph h
    → IsPosition g p
    → AreCuts h p d1 d2
    → Forces g p Y Win
forces_cuts g h p d1 d2 on position t =
    let place = place-switching g h on p position in
    let s = IsCuts-from h p d1 d2 place.y_range t in
    let second_parts = s.second_parts (false_from_ne_true _
    (λ k. let low = (t.second_free (edge_count h) k).0 in absurd (omega arith))) in
    subst (λ (r : Rules). ForcesBy r p Y Win) (sym (rules-switching g h on))
    (ForcesBy-cuts (spans_in h) (IsSpan-graph h) (edge_count h) (terminals_joined h) (more_join h)
    (joins_e h) p d1 d2 place (record {
      first_free = t.first_free;
      second_free = t.second_free;
      apart = t.apart;
      first = s.first;
      first_parts = s.first_parts;
      second = s.second;
      second_parts = second_parts;
    }))

-- ---- any game

-- trees that hold are a win for Short, whoever is to move
pub Forces-trees : (g : Game) (p : Position) (a1 a2 : FinSet nat_cmp)
    → IsPosition g p
    → TreesHold g p a1 a2
    → Forces g p X Win
Forces-trees g p a1 a2 position t = at g.field refl t
  where
    at : (f : Field) → g.field ≡ f → TreesHoldOn f p a1 a2 → Forces g p X Win
    at (Lines f) on t = absurd t
    at (OnGraph h) on t = forces_trees g h p a1 a2 on position t

-- cuts that hold are a win for Cut, whoever is to move
pub Forces-cuts : (g : Game) (p : Position) (d1 d2 : FinSet nat_cmp)
    → IsPosition g p
    → CutsHold g p d1 d2
    → Forces g p Y Win
Forces-cuts g p d1 d2 position t = at g.field refl t
  where
    at : (f : Field) → g.field ≡ f → CutsHoldOn f p d1 d2 → Forces g p Y Win
    at (Lines f) on t = absurd t
    at (OnGraph h) on t = forces_cuts g h p d1 d2 on position t
