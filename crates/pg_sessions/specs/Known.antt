-- What is known of the values of a game, and where else it holds.
use Rattle.std.specs.Prelude.{◌≡◌, ◌≢◌, ◌⊎◌, ℕ, Option, Some, None}
use Rattle.pg_sessions.specs.Prelude.{All, Switching, Score, XWins, YWins, Side, X, Y, IsNodeOf}
use Rattle.pg_sessions.specs.Prelude.{IsValid, Cert, Claim, value, Game, Position, Expanded, winner}
use Rattle.pg_sessions.specs.Prelude.{budget, IsAskedLast, IsLeft, certificate_of, IsShown}
use Rattle.pg_sessions.specs.Prelude.{IsTrueOf, Solution, Value, Unknown}
use Rattle.pg_solve.specs.declared.solution.Solution.TheVariants.{Class as ForClass}
use Rattle.pg_sessions.specs.declared.known.Known.{Known}

-- ---- where it holds

-- a node of the claim has the position
abbrev pub HasNode : Position → Claim → Type 0
HasNode p claim = (k : ℕ) × IsNodeOf claim.nodes k p

-- each claim of the certificate has a node with the position
abbrev pub HaveNodes : Position → Cert → Type 0
HaveNodes p certificate = All (HasNode p) certificate.claims

-- the value of the position is known; and wherever each claim has a node, the value is the same
pub record IsKnown (g : Game) (p : Position) (known : Known) : Type 0 where
  pub here : value g p ≡ known.score
  pub wherever : (q : Position) → HaveNodes q known.certificate → value g q ≡ known.score

-- ---- what solving tells

-- solving the game, with so many positions for each question, finds this certificate
pub record IsSolvedBy (g : Game) (positions : ℕ) (c : Cert) : Type 0 where
  pub solution : Solution
  pub work : Expanded
  pub own : certificate_of solution ≡ Some c
  pub holds : IsTrueOf g solution
  pub valid : IsValid g c
  pub last : IsAskedLast g.kind work.question solution
  pub left : g.kind ≢ Switching → IsLeft g (budget g positions) work
  pub shown : IsShown g (budget g positions) work.positions solution

-- what is known at a position to which a game goes: the same where each claim has a node there,
-- else what solving finds
abbrev pub IsKnownThere : Game → ℕ → Position → Known → Known → Type 0
IsKnownThere g positions p before now =
    ((now ≡ before) × HaveNodes p before.certificate) ⊎ IsSolvedBy g positions now.certificate

-- the score where this side wins
abbrev pub won_by : Side → Score
won_by X = XWins
won_by Y = YWins

-- what is known of a game that was solved, by the side to move
abbrev pub known_by : Side → Solution → Option Known
known_by turn (Value score certificate) = Some (record { score = score; certificate = certificate })
known_by turn (ForClass class certificate) =
    Some (record { score = won_by (winner class turn); certificate = certificate })
known_by turn Unknown = None
