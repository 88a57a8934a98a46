-- The moves of a game, each with what is known of the position after it.
use Rattle.std.specs.Prelude.{◌≡◌, ◌≢◌, ◌⊎◌, ◌==◌, ◌||◌, ℕ, Bool, true, false, List, [], map, ⊤}
use Rattle.std.specs.Prelude.{if◌then◌else◌}
use Rattle.pg_moves.specs.Prelude.{All, Budget, Cert, Certificate, Class, Game, IsAnswer, IsGameAt}
use Rattle.pg_moves.specs.Prelude.{Open, Outcome, Position, ShowsClass, ShowsValue, Switching}
use Rattle.pg_moves.specs.Prelude.{after, bias_of, free_points, is_over, node_count, outcome_of}
use Rattle.pg_moves.specs.Prelude.{start, value, winner, won_by}
use Rattle.pg_moves.specs.declared.trial.Trial.{Trial}
use Rattle.pg_moves.specs.declared.trial.Worth.{Worth}
use Rattle.pg_moves.specs.declared.trial.Worth.TheVariants.{Known, Unknown}

-- the legal moves from the game's own position, in ascending order: none where the game is over
abbrev pub legal_moves : Game → List ℕ
legal_moves g = if is_over g (start g) then [] else free_points g (start g)

-- the position after a move from the game's own
abbrev pub moved : Game → ℕ → Position
moved g v = after g (start g) v

-- whether a turn begins at the position, or the game is over there
abbrev pub is_between_turns : Game → Position → Bool
is_between_turns g p = p.left == bias_of g p.turn || is_over g p

-- the games have the same rules: kind, field and bias
pub record HasRulesOf (g h : Game) : Type 0 where
  pub kind : h.kind ≡ g.kind
  pub field : h.field ≡ g.field
  pub bias : h.bias ≡ g.bias

-- ---- what is known of a game at its own position

-- a switching game has the class that a certificate shows
abbrev pub IsWorthOnGraph : Game → Worth → Type 0
IsWorthOnGraph g (Known score nodes expanded) = (class : Class) × (c : Cert) × ShowsClass g class c
    × (score ≡ won_by (winner class g.turn))
    × (nodes ≡ node_count c.claims)
    × (expanded ≡ 0)
IsWorthOnGraph g (Unknown expanded) = ⊥

-- the score, where it is known, is the value of the position
abbrev pub IsValueOf : Game → Position → Worth → Type 0
IsValueOf g p (Known score nodes expanded) = value g p ≡ score
IsValueOf g p (Unknown expanded) = ⊤

module _ (Brings : Game → Budget → Outcome → Type 0) (budget : Budget) where
  -- of a game on lines, a certificate was brought that shows the value; or nothing that shows its
  -- score
  abbrev pub IsWorthOnLines : Game → Worth → Type 0
  IsWorthOnLines g (Known score nodes expanded) = (c : Cert) × ShowsValue g score c
      × (nodes ≡ node_count c.claims)
      × IsAnswer Brings g budget (outcome_of (Certificate score c) expanded)
  IsWorthOnLines g (Unknown expanded) = IsAnswer Brings g budget (outcome_of Open expanded)

  abbrev pub IsWorth : Game → Worth → Type 0
  IsWorth g worth = ((g.kind ≡ Switching) × IsWorthOnGraph g worth)
      ⊎ ((g.kind ≢ Switching) × IsWorthOnLines g worth)

  -- ---- what is known of a position of a game

  -- a turn begins there or the game is over, and this is known of the game that has its marks
  pub record IsSettledAt (g : Game) (p : Position) (worth : Worth) : Type 0 where
    pub between : is_between_turns g p ≡ true
    pub here : Game
    pub stands : IsGameAt g p here
    pub worth_is : IsWorth here worth

  -- the game isn't over, and the side has further points to claim in this turn: nothing is tried,
  -- since no game file says such a position
  pub record IsWithinTurn (g : Game) (p : Position) (worth : Worth) : Type 0 where
    pub goes_on : is_between_turns g p ≡ false
    pub untried : worth ≡ Unknown 0

  -- what is known is true of the game's position, and that is all that is brought and judged
  pub record IsTriedAt (g : Game) (p : Position) (worth : Worth) : Type 0 where
    pub holds : IsValueOf g p worth
    pub tried : IsSettledAt g p worth ⊎ IsWithinTurn g p worth

  -- each legal move was tried, in order
  pub record AreTrials (g : Game) (trials : List Trial) : Type 0 where
    pub points : map (λ (t : Trial). t.point) trials ≡ legal_moves g
    pub each : All (λ (t : Trial). IsTriedAt g (moved g t.point) t.worth) trials
