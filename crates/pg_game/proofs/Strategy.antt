-- How a side forces a goal by keeping an invariant.
use Rattle.std.proofs.Common.{◌≡◌, ℕ, List, [], ◌∷◌, ◌<◌, ◌≤◌, Bool, true, false, not, ◌&&◌, ◌||◌}
use Rattle.std.proofs.Common.{length, refl, sym, ◌∙◌, inl, inr, ◌⊎◌, arith}
use Rattle.pg_game.proofs.Common.{cases_Bool, or_left, or_right, not_from_false, false≢true, Side}
use Rattle.pg_game.proofs.Common.{Kind, MakerBreaker, MakerMaker, AvoiderEnforcer, Switching, Goal}
use Rattle.pg_game.specs.declared.position.Position.{Position}
use Rattle.pg_game.specs.Position.{is_free}
use Rattle.pg_game.specs.declared.game.Game.{Game}
use Rattle.pg_game.specs.Game.{after, free_points, point_count, is_over, is_full, is_over_by}
use Rattle.pg_game.specs.Play.{IsLegalPlay}
pub use Rattle.pg_game.specs.Strategy.{Keeps}
use Rattle.pg_game.proofs.Common.{first_end, second_end, switching_full, contains}
use Rattle.pg_game.specs.Rules.{IsEnding}
use Rattle.pg_game.specs.Value.{rules_of, Forces}
use Rattle.pg_game.proofs.RulesLaws.{ForcesBy-from_keeps}
use Rattle.pg_game.proofs.FreePoints.{length-free_points-after, first_free, none-full, is_full-none}
use Rattle.pg_game.specs.Field.{field_points, field_joins}
use Rattle.pg_game.specs.declared.field.Field.{Field}
use Rattle.pg_game.specs.declared.field.Field.TheVariants.{Lines, Graph as OnGraph}

-- ---- a game that isn't over has a free point

last_of_three : (a b c : Bool) → c ≡ true → (a || (b || c)) ≡ true
last_of_three a b c h = or_right a _ (or_right b c h)

-- where each edge is taken, those of X join the terminals or those that aren't Y's don't
full_joins : (field : Field) (x y : ℕ → Bool)
    → ((v : ℕ) → v < field_points field → (x v ≡ true) ⊎ (y v ≡ true))
    → (field_joins field x || not (field_joins field (λ e. not (y e)))) ≡ true
full_joins (Lines f) x y full = refl
full_joins (OnGraph h) x y full =
    elim (switching_full (first_end h.ends) (second_end h.ends) x y (length h.ends) h.s h.t full) [
      | inl joined ↦ or_left _ _ joined
      | inr parted ↦ or_right _ _ (not_from_false _ parted)
    ]

over_by-full : (kind : Kind) (x y t f j c : Bool)
    → f ≡ true
    → (j || not c) ≡ true
    → is_over_by kind x y t f j c ≡ true
over_by-full MakerBreaker x y t f j c h k = last_of_three x t f h
over_by-full AvoiderEnforcer x y t f j c h k = last_of_three x t f h
over_by-full MakerMaker x y t f j c h k = last_of_three x y f h
over_by-full Switching x y t f j c h k = k

-- where no point is free the game is over
pub over-where_full : (g : Game) (p : Position) → is_full g p ≡ true → is_over g p ≡ true
unfolding is_over
over-where_full g p full = over_by-full g.kind _ _ _ _ _ _ full
    (full_joins g.field (contains p.x) (contains p.y)
    (λ v within. taken v (none-full g p full v within)))
  where
    taken : (v : ℕ) → is_free p v ≡ false → (contains p.x v ≡ true) ⊎ (contains p.y v ≡ true)
    taken v none = by (contains p.x v) (contains p.y v) none
      where
        by : (a b : Bool) → (not a && not b) ≡ false → (a ≡ true) ⊎ (b ≡ true)
        by true b h = inl refl
        by false true h = inr refl
        by false false h = absurd (false≢true (sym h))

-- where the game isn't over some point is free
pub free_point : (g : Game) (p : Position)
    → is_over g p ≡ false
    → (v : ℕ) × (v < point_count g) × (is_free p v ≡ true)
free_point g p going = elim (cases_Bool (is_full g p)) [
  | inl full ↦ absurd (false≢true (sym going ∙ over-where_full g p full))
  | inr some ↦ first_free g p some
]

-- ---- keeping an invariant

-- a game's rules end it where no point is free
pub IsEnding-game : (g : Game) → IsEnding (rules_of g)
IsEnding-game g = record { full = λ p none. over-where_full g p (is_full-none g p none) }

-- the side forces its goal wherever an invariant holds that it keeps
pub Forces-from_keeps : {I : Position → Type 0} (g : Game) (side : Side) (goal : Goal)
    → Keeps g side goal I
    → (p : Position) → I p
    → Forces g p side goal
Forces-from_keeps g side goal keeps p i =
    ForcesBy-from_keeps (rules_of g) (IsEnding-game g) side goal keeps p i

-- a legal play has at most as many moves as points are free
pub length-legal_play : (g : Game) (p : Position) (moves : List ℕ)
    → IsLegalPlay g p moves
    → length moves ≤ length (free_points g p)
length-legal_play g p [] legal = omega arith
length-legal_play g p (v ∷ others) legal =
    let fewer = length-free_points-after g p v legal.1 legal.2 in
    let rest = length-legal_play g (after g p v) others legal.3 in
    omega arith
