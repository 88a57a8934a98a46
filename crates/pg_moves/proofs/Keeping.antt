-- The moves with the best known value keep the value of the game.
use Rattle.std.proofs.Common.{◌≡◌, ◌∙◌, ◌||◌, ℕ, Bool, true, false, cond, List, [], ◌∷◌, map, Some}
use Rattle.std.proofs.Common.{None, refl, sym, ap, ap₂, inl, inr, if◌then◌else◌}
use Rattle.pg_moves.proofs.Common.{All, All-head, All-tail, Draw, Game, Position, Score, Side, X}
use Rattle.pg_moves.proofs.Common.{XWins, Y, YWins, and_parts, best, cases_Bool, false≢true, filter}
use Rattle.pg_moves.proofs.Common.{free_points, is_over, list_any, start, value}
use Rattle.pg_moves.proofs.Common.{value-step}
use Rattle.pg_game.specs.Rules.{better}
use Rattle.pg_moves.specs.Best.{all_known, best_by, best_moves, best_tried, has_score, is_known}
use Rattle.pg_moves.specs.Best.{keeping, known_scores, points_with, same_score, with_known}
use Rattle.pg_moves.specs.Trials.{IsValueOf, legal_moves, moved}
use Rattle.pg_moves.specs.declared.trial.Trial.{Trial}
use Rattle.pg_moves.specs.declared.trial.Worth.{Worth}
use Rattle.pg_moves.specs.declared.trial.Worth.TheVariants.{Known, Unknown}

-- ---- the best of scores

abbrev has : List Score → Score → Bool
has scores score = list_any (λ (s : Score). same_score s score) scores

x_draw : (x_wins draws y_wins later : Bool)
    → better X Draw (best_by X x_wins draws y_wins) ≡ best_by X x_wins true later
x_draw true draws y_wins later = refl
x_draw false true y_wins later = refl
x_draw false false y_wins later = refl

x_loss : (x_wins draws y_wins : Bool)
    → best_by X x_wins draws y_wins ≡ best_by X x_wins draws true
x_loss true draws y_wins = refl
x_loss false true y_wins = refl
x_loss false false y_wins = refl

y_draw : (x_wins draws y_wins later : Bool)
    → better Y Draw (best_by Y x_wins draws y_wins) ≡ best_by Y later true y_wins
y_draw x_wins draws true later = refl
y_draw x_wins true false later = refl
y_draw x_wins false false later = refl

y_loss : (x_wins draws y_wins : Bool)
    → best_by Y x_wins draws y_wins ≡ best_by Y true draws y_wins
y_loss x_wins draws true = refl
y_loss x_wins true false = refl
y_loss x_wins false false = refl

pub best-by : (side : Side) (scores : List Score)
    → best side scores ≡ best_by side (has scores XWins) (has scores Draw) (has scores YWins)
best-by X [] = refl
best-by X (XWins ∷ scores) = refl
best-by X (Draw ∷ scores) = ap (better X Draw) (best-by X scores)
    ∙ x_draw (has scores XWins) (has scores Draw) (has scores YWins) (has scores YWins)
best-by X (YWins ∷ scores) =
    best-by X scores ∙ x_loss (has scores XWins) (has scores Draw) (has scores YWins)
best-by Y [] = refl
best-by Y (YWins ∷ scores) = refl
best-by Y (Draw ∷ scores) = ap (better Y Draw) (best-by Y scores)
    ∙ y_draw (has scores XWins) (has scores Draw) (has scores YWins) (has scores XWins)
best-by Y (XWins ∷ scores) =
    best-by Y scores ∙ y_loss (has scores XWins) (has scores Draw) (has scores YWins)

-- ---- known scores

has_one : (worth : Worth) (score : Score) (scores : List Score)
    → has (with_known worth scores) score ≡ (has_score score worth || has scores score)
has_one (Known own nodes expanded) score scores = refl
has_one (Unknown expanded) score scores = refl

-- a score is among the known ones where some move has it
any-known : (trials : List Trial) (score : Score)
    → list_any (λ (t : Trial). has_score score t.worth) trials ≡ has (known_scores trials) score
any-known [] score = refl
any-known (t ∷ trials) score =
    ap (λ (b : Bool). has_score score t.worth || b) (any-known trials score)
    ∙ sym (has_one t.worth score (known_scores trials))

-- the best of the known scores, by which of them some move has
pub best-tried : (side : Side) (trials : List Trial) (x_wins draws y_wins : Bool)
    → x_wins ≡ list_any (λ (t : Trial). has_score XWins t.worth) trials
    → draws ≡ list_any (λ (t : Trial). has_score Draw t.worth) trials
    → y_wins ≡ list_any (λ (t : Trial). has_score YWins t.worth) trials
    → best_by side x_wins draws y_wins ≡ best side (known_scores trials)
best-tried side trials x_wins draws y_wins x_is draws_are y_is =
    let scores = known_scores trials in
    ap (λ (b : Bool). best_by side b draws y_wins) (x_is ∙ any-known trials XWins)
    ∙ ap (λ (b : Bool). best_by side (has scores XWins) b y_wins)
    (draws_are ∙ any-known trials Draw)
    ∙ ap (λ (b : Bool). best_by side (has scores XWins) (has scores Draw) b)
    (y_is ∙ any-known trials YWins)
    ∙ sym (best-by side scores)

-- what is known of each move is true
abbrev AreTrue : Game → List Trial → Type 0
AreTrue g trials = All (λ (t : Trial). IsValueOf g (moved g t.point) t.worth) trials

abbrev points_of : List Trial → List ℕ
points_of trials = map (λ (t : Trial). t.point) trials

one_value : (g : Game) (p : Position) (worth : Worth) (scores : List Score)
    → is_known worth ≡ true
    → IsValueOf g p worth
    → with_known worth scores ≡ value g p ∷ scores
one_value g p (Known score nodes expanded) scores known is =
    ap (λ (s : Score). s ∷ scores) (sym is)
one_value g p (Unknown expanded) scores known is = absurd (false≢true known)

values-are : (g : Game) (trials : List Trial)
    → all_known trials ≡ true
    → AreTrue g trials
    → known_scores trials ≡ map (λ v. value g (moved g v)) (points_of trials)
values-are g [] known are = refl
values-are g (t ∷ trials) known are =
    let parts = and_parts (is_known t.worth) (all_known trials) known in
    one_value g (moved g t.point) t.worth (known_scores trials) parts.0
    (All-head (λ (t : Trial). IsValueOf g (moved g t.point) t.worth) t trials are)
    ∙ ap (λ (l : List Score). value g (moved g t.point) ∷ l) (values-are g trials parts.1
    (All-tail (λ (t : Trial). IsValueOf g (moved g t.point) t.worth) t trials are))

one_has : (g : Game) (p : Position) (worth : Worth) (score : Score)
    → is_known worth ≡ true
    → IsValueOf g p worth
    → has_score score worth ≡ same_score (value g p) score
one_has g p (Known own nodes expanded) score known is =
    ap (λ (s : Score). same_score s score) (sym is)
one_has g p (Unknown expanded) score known is = absurd (false≢true known)

points_cond : (b : Bool) (t : Trial) (trials : List Trial)
    → points_of (cond b (t ∷ trials) trials)
    ≡ cond b (t.point ∷ points_of trials) (points_of trials)
points_cond true t trials = refl
points_cond false t trials = refl

points-are : (g : Game) (trials : List Trial) (score : Score)
    → all_known trials ≡ true
    → AreTrue g trials
    → points_with score trials
    ≡ filter (λ v. same_score (value g (moved g v)) score) (points_of trials)
points-are g [] score known are = refl
points-are g (t ∷ trials) score known are =
    let parts = and_parts (is_known t.worth) (all_known trials) known in
    let same = one_has g (moved g t.point) t.worth score parts.0
    (All-head (λ (t : Trial). IsValueOf g (moved g t.point) t.worth) t trials are) in
    let others = points-are g trials score parts.1
    (All-tail (λ (t : Trial). IsValueOf g (moved g t.point) t.worth) t trials are) in
    points_cond (has_score score t.worth) t
    (filter (λ (u : Trial). has_score score u.worth) trials)
    ∙ ap₂ (λ (b : Bool) (points : List ℕ). cond b (t.point ∷ points) points) same others

-- ---- the best moves

tried_by : (side : Side) (trials : List Trial) (known : Bool)
    → all_known trials ≡ known
    → best_tried side trials
    ≡ (if known then Some (points_with (best side (known_scores trials)) trials) else None)
tried_by side trials known is = ap (λ (b : Bool). if b
    then Some (points_with (best side (known_scores trials)) trials)
    else None) is

moves_by : (g : Game) (trials : List Trial) (known : Bool)
    → all_known trials ≡ known
    → best_moves g trials ≡ (if known then Some (keeping g) else None)
moves_by g trials known is = ap (λ (b : Bool). if b then Some (keeping g) else None) is

module _ (g : Game) (trials : List Trial) (points : points_of trials ≡ legal_moves g)
    (are : AreTrue g trials) where
  -- where the game isn't over, its value is the best of those after the moves
  pub best_is_value : all_known trials ≡ true
      → is_over g (start g) ≡ false
      → best g.turn (known_scores trials) ≡ value g (start g)
  best_is_value known going =
      let legal : points_of trials ≡ free_points g (start g) =
      points ∙ ap (λ (b : Bool). if b then [] else free_points g (start g)) going in
      ap (best g.turn) (values-are g trials known are
      ∙ ap (map (λ v. value g (moved g v))) legal)
      ∙ sym (value-step g (start g) going)

  kept : all_known trials ≡ true
      → points_with (best g.turn (known_scores trials)) trials ≡ keeping g
  kept known =
      let found : Score = best g.turn (known_scores trials) in
      let has_found : ℕ → Bool = λ v. same_score (value g (moved g v)) found in
      let keeps : ℕ → Bool = λ v. same_score (value g (moved g v)) (value g (start g)) in
      points-are g trials found known are ∙ ap (filter has_found) points
      ∙ elim (cases_Bool (is_over g (start g))) as (λ _.
      filter has_found (legal_moves g) ≡ filter keeps (legal_moves g)) [
        | inl over ↦
            let none : legal_moves g ≡ [] =
            ap (λ (b : Bool). if b then [] else free_points g (start g)) over in
            ap (filter has_found) none ∙ sym (ap (filter keeps) none)
        | inr going ↦
            ap (λ (s : Score). filter (λ v. same_score (value g (moved g v)) s) (legal_moves g))
            (best_is_value known going)
      ]

  pub best-is : best_tried g.turn trials ≡ best_moves g trials
  best-is = elim (cases_Bool (all_known trials))
      as (λ _. best_tried g.turn trials ≡ best_moves g trials) [
        | inl known ↦
            tried_by g.turn trials true known ∙ ap Some (kept known)
            ∙ sym (moves_by g trials true known)
        | inr unknown ↦
            tried_by g.turn trials false unknown ∙ sym (moves_by g trials false unknown)
      ]

-- ---- whether all is known

pub known-some : (side : Side) (trials : List Trial) (points : List ℕ)
    → best_tried side trials ≡ Some points
    → all_known trials ≡ true
known-some side trials points is = elim (cases_Bool (all_known trials))
    as (λ _. all_known trials ≡ true) [
      | inl known ↦ known
      | inr unknown ↦
          let none : None ≡ Some points = sym (tried_by side trials false unknown) ∙ is in
          absurd (cc none)
    ]

pub unknown-none : (side : Side) (trials : List Trial)
    → best_tried side trials ≡ None
    → all_known trials ≡ false
unknown-none side trials is = elim (cases_Bool (all_known trials))
    as (λ _. all_known trials ≡ false) [
      | inl known ↦
          let some : Some (points_with (best side (known_scores trials)) trials) ≡ None =
          sym (tried_by side trials true known) ∙ is in
          absurd (cc some)
      | inr unknown ↦ unknown
    ]
