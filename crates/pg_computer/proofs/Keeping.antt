-- What is chosen is legal, and what is proved keeps the value.
use Rattle.std.proofs.Common.{◌≡◌, ◌≢◌, ◌∙◌, ◌⊎◌, ℕ, ◌<◌, Bool, true, false, List, [], map, Option}
use Rattle.std.proofs.Common.{Some, None, refl, sym, ap, subst, inl, inr, if◌then◌else◌}
use Rattle.pg_computer.proofs.Common.{All-contains, AreTrials, Budget, Contains, Contains-map, Game}
use Rattle.pg_computer.proofs.Common.{IsGameAt, Draw, IsTriedAt, IsValueOf, Known, Outcome}
use Rattle.pg_computer.proofs.Common.{Position, Score, Side, Trial, Unknown, Worth, X, XWins, Y}
use Rattle.pg_computer.proofs.Common.{YWins, after, after_with, all_known, any-free_points, best}
use Rattle.pg_computer.proofs.Common.{best-by, best_by, best_is_value, bias_of, false≢true, entry}
use Rattle.pg_computer.proofs.Common.{field_points, find, find_member, find_none, free_point}
use Rattle.pg_computer.proofs.Common.{free_points, has_score, HasRulesOf, is_free, is_over}
use Rattle.pg_computer.proofs.Common.{known_scores, list_any, list_any-map, lowest_free}
use Rattle.pg_computer.proofs.Common.{member-free, member-within, moved, other, over_same}
use Rattle.pg_computer.proofs.Common.{own_rules, point_count, same-value, same_score, start}
use Rattle.pg_computer.proofs.Common.{start-here, tried_before, value, value-step, won_by}
use Rattle.pg_files.specs.GameFile.{Entry as GameEntry}
use Rattle.pg_game.specs.declared.field.Field.{Field}
use Rattle.pg_computer.specs.Choices.{Chooses, aim, choice_by, chosen, has, lacks}
use Rattle.pg_computer.specs.declared.choice.Choice.{Choice}

-- ---- scores

scores-same : (a b : Score) → same_score a b ≡ true → a ≡ b
scores-same XWins XWins e = refl
scores-same XWins Draw e = absurd (false≢true e)
scores-same XWins YWins e = absurd (false≢true e)
scores-same Draw XWins e = absurd (false≢true e)
scores-same Draw Draw e = refl
scores-same Draw YWins e = absurd (false≢true e)
scores-same YWins XWins e = absurd (false≢true e)
scores-same YWins Draw e = absurd (false≢true e)
scores-same YWins YWins e = refl

same-scores : (s : Score) → same_score s s ≡ true
same-scores XWins = refl
same-scores Draw = refl
same-scores YWins = refl

-- a known value that is this score
scored : (g : Game) (p : Position) (worth : Worth) (score : Score)
    → has_score score worth ≡ true
    → IsValueOf g p worth
    → value g p ≡ score
scored g p (Known own nodes expanded) score same is = is ∙ scores-same own score same
scored g p (Unknown expanded) score same is = absurd (false≢true same)

-- a win is the best of scores with a win
best-won : (side : Side) (scores : List Score)
    → list_any (λ (s : Score). same_score s (won_by side)) scores ≡ true
    → best side scores ≡ won_by side
best-won X scores some = best-by X scores
    ∙ ap (λ (b : Bool). best_by X b (list_any (λ (s : Score). same_score s Draw) scores)
    (list_any (λ (s : Score). same_score s YWins) scores)) some
best-won Y scores some = best-by Y scores
    ∙ ap (λ (b : Bool). best_by Y (list_any (λ (s : Score). same_score s XWins) scores)
    (list_any (λ (s : Score). same_score s Draw) scores) b) some

-- a move that wins keeps the value
win_is_value : (g : Game) (v : ℕ)
    → is_over g (start g) ≡ false
    → v < point_count g
    → is_free (start g) v ≡ true
    → value g (moved g v) ≡ won_by g.turn
    → value g (start g) ≡ won_by g.turn
win_is_value g v going within free won =
    let wins : ℕ → Bool = λ w. same_score (value g (after g (start g) w)) (won_by g.turn) in
    let here : wins v ≡ true =
    ap (λ (s : Score). same_score s (won_by g.turn)) won ∙ same-scores (won_by g.turn) in
    value-step g (start g) going
    ∙ best-won g.turn (map (λ w. value g (after g (start g) w)) (free_points g (start g)))
    (list_any-map (λ w. value g (after g (start g) w))
    (λ (s : Score). same_score s (won_by g.turn)) (free_points g (start g))
    ∙ any-free_points g (start g) wins v within free here)

-- ---- a move that was tried

module _ (Brings : Game → Budget → Outcome → Type 0) (budget : Budget) (here : Game)
    (trials : List Trial) (tried : AreTrials Brings budget here trials)
    (going : is_over here (start here) ≡ false) where
  all_free : map (λ (t : Trial). t.point) trials ≡ free_points here (start here)
  all_free = tried.points
      ∙ ap (λ (b : Bool). if b then [] else free_points here (start here)) going

  member : (t : Trial) → Contains trials t → Contains (free_points here (start here)) t.point
  member t among = subst (λ (vs : List ℕ). Contains vs t.point) all_free
      (Contains-map (λ (u : Trial). u.point) trials t among)

  trial_within : (t : Trial) → Contains trials t → t.point < point_count here
  trial_within t among = member-within here (start here) t.point (member t among)

  trial_free : (t : Trial) → Contains trials t → is_free (start here) t.point ≡ true
  trial_free t among = member-free here (start here) t.point (member t among)

  trial_holds : (t : Trial) → Contains trials t → IsValueOf here (moved here t.point) t.worth
  trial_holds t among = (All-contains
      (λ (u : Trial). IsTriedAt Brings budget here (moved here u.point) u.worth) trials t tried.each
      among).holds

  -- a move that is aimed at keeps the value
  keeps_by : (known : Bool) (t : Trial)
      → all_known trials ≡ known
      → Contains trials t
      → has_score (if known then best here.turn (known_scores trials) else won_by here.turn)
      t.worth ≡ true
      → value here (moved here t.point) ≡ value here (start here)
  keeps_by true t known among aimed =
      scored here (moved here t.point) t.worth _ aimed (trial_holds t among)
      ∙ best_is_value here trials tried.points (λ k d low. (tried.each k d low).holds) known going
  keeps_by false t known among aimed =
      let won = scored here (moved here t.point) t.worth (won_by here.turn) aimed
      (trial_holds t among) in
      won ∙ sym (win_is_value here t.point going (trial_within t among) (trial_free t among) won)

  pub aimed_keeps : (t : Trial)
      → Contains trials t
      → has (aim here.turn trials) t ≡ true
      → value here (moved here t.point) ≡ value here (start here)
  aimed_keeps t among aimed = keeps_by (all_known trials) t refl among aimed

-- ---- the choice

-- the point of a choice is that of a move, or the lowest free point
abbrev IsFrom : List Trial → ℕ → Choice → Type 0
IsFrom trials lowest c =
    ((t : Trial) × Contains trials t × (c.point ≡ t.point)) ⊎ (c.point ≡ lowest)

from : (side : Side) (trials : List Trial) (lowest : ℕ)
    → IsFrom trials lowest (choice_by side trials lowest)
from side trials lowest = go (find (has (aim side trials)) trials)
    (find (lacks (won_by (other side))) trials) refl refl
  where
    go : (first unlost : Option Trial)
        → find (has (aim side trials)) trials ≡ first
        → find (lacks (won_by (other side))) trials ≡ unlost
        → IsFrom trials lowest (chosen first unlost lowest)
    go (Some t) unlost is none =
        inl (t, (find_member (has (aim side trials)) trials t is).0, refl)
    go None (Some t) is some =
        inl (t, (find_member (lacks (won_by (other side))) trials t some).0, refl)
    go None None is none = inr refl

-- a proved choice is a move that is aimed at
proved_from : (side : Side) (trials : List Trial) (lowest : ℕ)
    → (choice_by side trials lowest).proved ≡ true
    → (t : Trial) × Contains trials t × ((choice_by side trials lowest).point ≡ t.point)
    × (has (aim side trials) t ≡ true)
proved_from side trials lowest proved = go (find (has (aim side trials)) trials)
    (find (lacks (won_by (other side))) trials) refl proved
  where
    go : (first unlost : Option Trial)
        → find (has (aim side trials)) trials ≡ first
        → (chosen first unlost lowest).proved ≡ true
        → (t : Trial) × Contains trials t × ((chosen first unlost lowest).point ≡ t.point)
        × (has (aim side trials) t ≡ true)
    go (Some t) unlost is proved =
        let found = find_member (has (aim side trials)) trials t is in
        (t, found.0, refl, found.1)
    go None (Some t) is proved = absurd (false≢true proved)
    go None None is proved = absurd (false≢true proved)

-- ---- at a position

-- the lowest free point
lowest_member : (g : Game) (p : Position) (lowest : ℕ)
    → lowest_free g p ≡ Some lowest
    → Contains (free_points g p) lowest
lowest_member g p lowest is = (find_member (λ v. true) (free_points g p) lowest is).0

-- some point is free in a game that goes on
pub some_lowest : (g : Game) (p : Position)
    → is_over g p ≡ false
    → lowest_free g p ≡ None
    → ⊥
some_lowest g p going none =
    let some = free_point g p going in
    false≢true (sym (find_none (λ v. true) (free_points g p) none)
    ∙ any-free_points g p (λ v. true) some.0 some.1 some.2 refl)

-- a game of the same parts has the same rules
pub rules_copied : (g copy : Game) → entry copy ≡ entry g → HasRulesOf g copy
rules_copied g copy same = record {
  kind = ap (λ (e : GameEntry). e.kind) same;
  field = ap (λ (e : GameEntry). e.field) same;
  bias = ap (λ (e : GameEntry). e.bias) same;
}

-- in the middle of a turn
pub chooses_lowest : (Brings : Game → Budget → Outcome → Type 0) (budget : Budget) (g : Game)
    (p : Position) (lowest : ℕ)
    → lowest_free g p ≡ Some lowest
    → p.left ≢ bias_of g p.turn
    → Chooses Brings budget g p (record { point = lowest; proved = false })
chooses_lowest Brings budget g p lowest is goes_on = record {
  lowest = lowest;
  is_lowest = is;
  within = member-within g p lowest (lowest_member g p lowest is);
  free = member-free g p lowest (lowest_member g p lowest is);
  keeps = λ proved. absurd (false≢true proved);
  made = inr (record { goes_on = goes_on; untried = refl });
}

module _ (Brings : Game → Budget → Outcome → Type 0) (budget : Budget) (g here : Game)
    (p : Position) (stands : IsGameAt g p here) (begins : p.left ≡ bias_of g p.turn)
    (going : is_over g p ≡ false) where
  at_start : start here ≡ p
  at_start = start-here g here p stands begins

  here_going : is_over here (start here) ≡ false
  here_going = over_same g here p (start here) stands.same_kind stands.same_field stands.same_x
      stands.same_y ∙ going

  -- a move there and here
  moved_there : (v : ℕ) → value g (after g p v) ≡ value here (moved here v)
  moved_there v = sym (same-value g here p (after g p v) stands)
      ∙ (λ i. value here (after_with (sym stands.same_bias i) (sym at_start i) v))

  value_there : value here (start here) ≡ value g p
  value_there =
      same-value g here p (start here) stands ∙ ap (λ (q : Position). value g q) at_start

  module _ (lowest : ℕ) (is_lowest : lowest_free g p ≡ Some lowest) (trials : List Trial)
      (tried : AreTrials Brings budget here trials) where
    within_there : (c : Choice) → IsFrom trials lowest c → c.point < point_count g
    within_there c (inl (t, among, is)) = subst (λ (v : ℕ). v < point_count g) (sym is)
        (subst (λ (f : Field). t.point < field_points f) stands.same_field
        (trial_within Brings budget here trials tried here_going t among))
    within_there c (inr is) = subst (λ (v : ℕ). v < point_count g) (sym is)
        (member-within g p lowest (lowest_member g p lowest is_lowest))

    free_there : (c : Choice) → IsFrom trials lowest c → is_free p c.point ≡ true
    free_there c (inl (t, among, is)) = ap (λ (v : ℕ). is_free p v) is
        ∙ ap (λ (q : Position). is_free q t.point) (sym at_start)
        ∙ trial_free Brings budget here trials tried here_going t among
    free_there c (inr is) = ap (λ (v : ℕ). is_free p v) is
        ∙ member-free g p lowest (lowest_member g p lowest is_lowest)

    keeps_there : (choice_by p.turn trials lowest).proved ≡ true
        → value g (after g p (choice_by p.turn trials lowest).point) ≡ value g p
    keeps_there proved =
        let found = proved_from p.turn trials lowest proved in
        let aimed = subst (λ (side : Side). has (aim side trials) found.0 ≡ true)
        (sym stands.same_turn) found.3 in
        ap (λ (v : ℕ). value g (after g p v)) found.2 ∙ moved_there found.0.point
        ∙ aimed_keeps Brings budget here trials tried here_going found.0 found.1 aimed
        ∙ value_there

    pub chooses_tried : Chooses Brings budget g p (choice_by p.turn trials lowest)
    chooses_tried = record {
      lowest = lowest;
      is_lowest = is_lowest;
      within = within_there (choice_by p.turn trials lowest) (from p.turn trials lowest);
      free = free_there (choice_by p.turn trials lowest) (from p.turn trials lowest);
      keeps = keeps_there;
      made = inl (record {
        begins = begins;
        here = here;
        stands = stands;
        trials = trials;
        tried = tried;
        by_rule = refl;
      });
    }

-- ---- a finder that may bring no less

module _ (Brings Before : Game → Budget → Outcome → Type 0) (budget : Budget)
    (more : (other : Game) (allowed : Budget) (later : Outcome) → Brings other allowed later
    → Before other allowed later) where
  trials_before : (g : Game) (trials : List Trial)
      → AreTrials Brings budget g trials
      → AreTrials Before budget g trials
  trials_before g trials are = record {
    points = are.points;
    each = λ k d low. tried_before Brings Before budget more g g (own_rules g) _ _
        (are.each k d low);
  }

  pub chooses_before : (g : Game) (p : Position) (c : Choice)
      → Chooses Brings budget g p c
      → Chooses Before budget g p c
  chooses_before g p c is = record {
    lowest = is.lowest;
    is_lowest = is.is_lowest;
    within = is.within;
    free = is.free;
    keeps = is.keeps;
    made = elim is.made [
      | inl by_trials ↦ inl (record {
        begins = by_trials.begins;
        here = by_trials.here;
        stands = by_trials.stands;
        trials = by_trials.trials;
        tried = trials_before by_trials.here by_trials.trials by_trials.tried;
        by_rule = by_trials.by_rule;
      })
      | inr within_turn ↦ inr within_turn
    ];
  }
