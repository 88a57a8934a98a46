-- What solving leaves in the work.
use Rattle.std.specs.Prelude.{◌≡◌, ◌≢◌, ◌⊎◌, ℕ, length, Option, Some}
use Rattle.pg_solve.specs.Prelude.{Kind, MakerMaker, Switching, Score, XWins, Draw, YWins}
use Rattle.pg_solve.specs.Prelude.{free_points, start, IsListed, IsOpenTable, value, Game, Expanded}
use Rattle.pg_pns.specs.Budget.{budget_for}
use Rattle.pg_solve.specs.Searched.{last_question}
use Rattle.pg_solve.specs.declared.solution.Solution.{Solution}
use Rattle.pg_solve.specs.declared.solution.Solution.TheVariants.{Value, Class as ForClass, Unknown}

-- how many positions may be expanded for each question where so many are asked for
abbrev pub budget : Game → ℕ → ℕ
budget g positions = budget_for (length (free_points g (start g))) positions

-- what may have been asked last: whether X wins; or in Maker-Maker whether X at least draws, and
-- then X doesn't win
abbrev pub IsAsked : Game → Score → Type 0
IsAsked g XWins = Unit {0}
IsAsked g Draw = (g.kind ≡ MakerMaker) × (value g (start g) ≢ XWins)
IsAsked g YWins = ⊥

-- the work holds the question asked last, with positions expanded for it by the rules, no more than
-- the budget
pub record IsLeft (g : Game) (budget : ℕ) (work : Expanded) : Type 0 where
  pub question : Score
  pub held : work.question ≡ Some question
  pub asked : IsAsked g question
  pub listed : IsListed g question budget work.positions

-- the work holds the question asked last, with exactly as many positions as the budget, which leave
-- it open
pub record IsLeftOpen (g : Game) (budget : ℕ) (work : Expanded) : Type 0 where
  pub question : Score
  pub held : work.question ≡ Some question
  pub asked : IsAsked g question
  pub unsettled : IsOpenTable g question budget work.positions

-- where a value was found, the question held is the one whose answer tells it
abbrev pub IsAskedLast : Kind → Option Score → Solution → Type 0
IsAskedLast kind question (Value score certificate) = question ≡ Some (last_question kind score)
IsAskedLast kind question (ForClass class certificate) = Unit {0}
IsAskedLast kind question Unknown = Unit {0}

-- the work holds what was asked last of a game on lines that is one of these, with so many
-- positions for each question
pub record IsLeftOf (IsOne : Game → Type 0) (positions : ℕ) (work : Expanded) : Type 0 where
  pub game : Game
  pub one : IsOne game
  pub on_lines : game.kind ≢ Switching
  pub left : IsLeft game (budget game positions) work

-- what solving leaves in the work: all as it was, or by the rules what it asked last of a game on
-- lines that is one of these
abbrev pub LeavesSearch : (Game → Type 0) → ℕ → Expanded → Expanded → Type 0
LeavesSearch IsOne positions before after =
    (after ≡ before) ⊎ IsLeftOf IsOne positions after
