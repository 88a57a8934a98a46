-- Which positions a list of positions settles, and the lists of expanded positions that leave a
-- question open.
use Rattle.std.specs.Prelude.{◌≡◌, ℕ, zero, suc, ◌<◌, Bool, true, false, not, Option, Some, None}
use Rattle.std.specs.Prelude.{List, map, length, take, slice_get, if◌then◌else◌}
use Rattle.pg_game.specs.Prelude.{list_any, list_all, Contains, option_or, Score, Side}
use Rattle.pg_game.specs.declared.game.Game.{Game}
use Rattle.pg_game.specs.declared.position.Position.{Position}
use Rattle.pg_game.specs.PositionLemmas.{equal_positions}
use Rattle.pg_game.specs.Position.{is_free}
use Rattle.pg_game.specs.Game.{free_points, point_count, start, after}
use Rattle.pg_game.specs.Decided.{answer_for, decided}

-- whether the answer is known to be this one
abbrev pub is_answer : Bool → Option Bool → Bool
is_answer b None = false
is_answer true (Some a) = a
is_answer false (Some a) = not a

-- what is known from the answers of the moves: what the side to move wants where some move has it,
-- the other answer where all moves have that
unfoldable pub by_moves : Side → List (Option Bool) → Option Bool
by_moves side answers = if list_any (is_answer (answer_for side)) answers
    then Some (answer_for side)
    else (if list_all (is_answer (not (answer_for side))) answers
    then Some (not (answer_for side))
    else None)

-- whether the position is one of the list
abbrev pub is_listed : List Position → Position → Bool
is_listed table p = list_any (equal_positions p) table

-- the answer to which a list settles a position where at most so many points are free
unfoldable pub settled_within : ℕ → Game → Score → List Position → Position → Option Bool
settled_within zero g t table p = decided g t p
settled_within (suc moves) g t table p = option_or (decided g t p) (if is_listed table p
    then by_moves p.turn (map (λ v. settled_within moves g t table (after g p v)) (free_points g p))
    else None)

-- the answer to which the list settles the position: that of a criterion, or for a member what is
-- known from its moves
unfoldable pub settled : Game → Score → List Position → Position → Option Bool
settled g t table p = settled_within (length (free_points g p)) g t table p

-- the position is one move after a member that the list doesn't settle
pub record IsOpened (g : Game) (t : Score) (table : List Position) (q : Position) : Type 0 where
  pub from : Position
  pub point : ℕ
  pub listed : Contains table from
  pub range : point < point_count g
  pub free : is_free from point ≡ true
  pub leads : q ≡ after g from point
  pub unsettled : settled g t table from ≡ None

-- different undecided positions, the first the game's, each later one opened by those before it
pub record IsTable (g : Game) (t : Score) (table : List Position) : Type 0 where
  pub undecided : (k : ℕ) (p : Position) → slice_get table k ≡ Some p → decided g t p ≡ None
  pub different : (i k : ℕ) (p : Position)
      → slice_get table i ≡ Some p
      → slice_get table k ≡ Some p
      → i ≡ k
  pub first : (p : Position) → slice_get table 0 ≡ Some p → p ≡ start g
  pub later : (k : ℕ) (p : Position)
      → slice_get table (suc k) ≡ Some p
      → IsOpened g t (take (suc k) table) p

-- so many positions by these rules, and they don't settle the game's
pub record IsOpenTable (g : Game) (t : Score) (budget : ℕ) (table : List Position) : Type 0 where
  pub count : length table ≡ budget
  pub rules : IsTable g t table
  pub unsettled : settled g t table (start g) ≡ None
