-- Points that were tried so far.
use Rattle.std.proofs.Common.{◌≡◌, ◌∙◌, ◌+◌, ◌++◌, ℕ, true, false, List, [], ◌∷◌, map, refl, sym}
use Rattle.std.proofs.Common.{ap, subst, arith, if◌then◌else◌, Bool}
use Rattle.std.specs.List.{range_with_len}
use Rattle.pg_board.proofs.Ranges.{filter-off, filter-on}
use Rattle.pg_moves.proofs.Common.{All, All-nil, All-push, Budget, Game, Outcome, filter}
use Rattle.pg_moves.proofs.Common.{free_points, is_free, is_over, map_push, point_count, start}
use Rattle.pg_moves.specs.Trials.{AreTrials, HasRulesOf, IsTriedAt, moved}
use Rattle.pg_moves.specs.declared.trial.Trial.{Trial}

-- the free points below v were tried, in order, and the game has its rules still
pub record AreTriedBelow (Brings : Game → Budget → Outcome → Type 0) (budget : Budget)
    (g now : Game) (v : ℕ) (trials : List Trial) : Type 0 where
  pub rules : HasRulesOf g now
  pub points : map (λ (t : Trial). t.point) trials
      ≡ filter (is_free (start g)) (range_with_len 0 v)
  pub each : All (λ (t : Trial). IsTriedAt Brings budget g (moved g t.point) t.worth) trials

module _ (Brings : Game → Budget → Outcome → Type 0) (budget : Budget) (g : Game) where
  abbrev IsTried : Trial → Type 0
  IsTried t = IsTriedAt Brings budget g (moved g t.point) t.worth

  pub none_tried : (trials : List Trial)
      → trials ≡ []
      → HasRulesOf g g
      → AreTriedBelow Brings budget g g 0 trials
  none_tried trials none rules = subst (AreTriedBelow Brings budget g g 0) (sym none)
      (record { rules = rules; points = refl; each = All-nil IsTried })

  pub one_tried : (old now : Game) (v : ℕ) (before after : List Trial) (t : Trial)
      → is_free (start g) v ≡ true
      → t.point ≡ v
      → IsTried t
      → HasRulesOf g now
      → after ≡ before ++ t ∷ []
      → AreTriedBelow Brings budget g old v before
      → AreTriedBelow Brings budget g now (v + 1) after
  one_tried old now v before after t free at is rules pushed below =
      subst (AreTriedBelow Brings budget g now (v + 1)) (sym pushed) (record {
        rules = rules;
        points = map_push (λ (u : Trial). u.point) before t
            ∙ ap (λ (u : ℕ). map (λ (s : Trial). s.point) before ++ u ∷ []) at
            ∙ ap (λ (vs : List ℕ). vs ++ v ∷ []) below.points
            ∙ sym (filter-on (is_free (start g)) 0 v v (omega arith) free);
        each = All-push IsTried before t below.each is;
      })

  pub point_taken : (now : Game) (v : ℕ) (trials : List Trial)
      → is_free (start g) v ≡ false
      → AreTriedBelow Brings budget g now v trials
      → AreTriedBelow Brings budget g now (v + 1) trials
  point_taken now v trials taken below = record {
    rules = below.rules;
    points = below.points ∙ sym (filter-off (is_free (start g)) 0 v v (omega arith) taken);
    each = below.each;
  }

  pub all_tried : (now : Game) (trials : List Trial)
      → is_over g (start g) ≡ false
      → AreTriedBelow Brings budget g now (point_count g) trials
      → AreTrials Brings budget g trials
  unfolding free_points
  all_tried now trials going below = record {
    points = below.points
        ∙ sym (ap (λ (b : Bool). if b then [] else free_points g (start g)) going);
    each = below.each;
  }

  pub none_legal : is_over g (start g) ≡ true → AreTrials Brings budget g []
  none_legal over = record {
    points = sym (ap (λ (b : Bool). if b then [] else free_points g (start g)) over);
    each = All-nil IsTried;
  }
