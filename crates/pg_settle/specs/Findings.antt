-- What a finder brings, how it is judged, and how it is stored.
use Rattle.std.specs.Prelude.{◌≡◌, ◌≤◌, ◌⊎◌, Bool, true, false, map, ⊤}
use Rattle.pg_settle.specs.Prelude.{Bytes, Cert, Claim, DifferInPosition, Game, Goal, IsFileOf}
use Rattle.pg_settle.specs.Prelude.{IsValid, IsWithinLimits, Score, Side, due_for_value, heading}
use Rattle.pg_settle.specs.Prelude.{printed_certificate, start, value}
use Rattle.pg_settle.specs.declared.budget.Budget.{Budget}
use Rattle.pg_settle.specs.declared.finding.Finding.{Finding}
use Rattle.pg_settle.specs.declared.finding.Finding.TheVariants.{Certificate, Open}
use Rattle.pg_settle.specs.declared.finding.Outcome.{Outcome}

-- a certificate that was found is within the limits of the format
abbrev pub IsWritable : Finding → Type 0
IsWritable (Certificate score c) = IsWithinLimits c
IsWritable Open = ⊤

-- ---- the judgment

-- the claim says that with this turn the side reaches the goal
abbrev pub HasHeading : Side → Side → Goal → Claim → Type 0
HasHeading turn side goal claim =
    (claim.turn ≡ turn) × (claim.side ≡ side) × (claim.goal ≡ goal)

-- THE JUDGMENT: the certificate is valid for the game, and its claims are those that are due for
-- the score
pub record ShowsScore (g : Game) (score : Score) (c : Cert) : Type 0 where
  pub valid : IsValid g c
  pub claims : map heading c.claims ≡ due_for_value g.turn score

-- a certificate was found that shows its score
abbrev pub IsShowing : Game → Finding → Type 0
IsShowing g (Certificate score c) = ShowsScore g score c
IsShowing g Open = ⊥

-- what was found, where it shows its score, and else nothing
abbrev pub IsJudged : Game → Finding → Finding → Type 0
IsJudged g found (Certificate score c) = (found ≡ Certificate score c) × ShowsScore g score c
IsJudged g found Open = IsShowing g found → ⊥

-- a finder that brings such outcomes has brought one, and this is it, once it is judged
pub record IsAnswer (Brings : Game → Budget → Outcome → Type 0) (g : Game) (budget : Budget)
    (answer : Outcome) : Type 0 where
  pub outcome : Outcome
  pub brought : Brings g budget outcome
  pub writable : IsWritable outcome.finding
  pub few : outcome.expanded ≤ budget.positions
  pub expanded : answer.expanded ≡ outcome.expanded
  pub judged : IsJudged g outcome.finding answer.finding

-- the score is the value of the game's position, as the certificate shows
pub record ShowsValue (g : Game) (score : Score) (c : Cert) : Type 0 where
  pub holds : value g (start g) ≡ score
  pub shows : ShowsScore g score c
  pub limits : IsWithinLimits c

-- ---- the file

-- THE FILE of a certificate that was brought: that of a certificate which solving has found; with
-- images it is as printed if two nodes of a claim have the same position
abbrev pub IsKeptAs : Bool → Game → Cert → Bytes → Type 0
IsKeptAs false g c text = IsFileOf false g c text
IsKeptAs true g c text = (DifferInPosition c × IsFileOf true g c text)
    ⊎ ((DifferInPosition c → ⊥) × (text ≡ printed_certificate c))
