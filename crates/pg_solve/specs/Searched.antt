-- Claims that a search has found, and the value that they show.
use Rattle.std.specs.Prelude.{◌≡◌, ℕ, Bool, true, false, List, [], ◌∷◌}
use Rattle.pg_solve.specs.Prelude.{Kind, MakerMaker, Score, XWins, Draw, YWins, Claim, IsListed}
use Rattle.pg_solve.specs.Prelude.{Game, Position, IsClaimOf}

-- the question whose answer tells that the value is this one: whether X wins, and in Maker-Maker
-- after a no whether X at least draws
abbrev pub last_question : Kind → Score → Score
last_question MakerMaker YWins = Draw
last_question MakerMaker Draw = Draw
last_question _ _ = XWins

-- some search with that budget answered the question so, with this claim
pub record IsSearched (g : Game) (budget : ℕ) (question : Score) (answer : Bool)
    (claim : Claim) : Type 0 where
  pub table : List Position
  pub listed : IsListed g question budget table
  pub shows : IsClaimOf g question table answer claim

-- one claim answers the last question, for which these positions were expanded
pub record IsOneClaim (g : Game) (table : List Position) (question : Score) (answer : Bool)
    (claims : List Claim) : Type 0 where
  pub claim : Claim
  pub one : claims ≡ claim ∷ []
  pub shows : IsClaimOf g question table answer claim

-- in Maker-Maker one claim denies X the win, and the other shows that X at least draws, for which
-- these positions were expanded
pub record AreDrawClaims (g : Game) (budget : ℕ) (table : List Position)
    (claims : List Claim) : Type 0 where
  pub kind : g.kind ≡ MakerMaker
  pub denial : Claim
  pub claim : Claim
  pub two : claims ≡ denial ∷ claim ∷ []
  pub denies : IsSearched g budget XWins false denial
  pub shows : IsClaimOf g Draw table true claim

-- the claims that show the value
abbrev pub AreValueClaims : Game → ℕ → List Position → Score → List Claim → Type 0
AreValueClaims g budget table XWins claims = IsOneClaim g table XWins true claims
AreValueClaims g budget table YWins claims =
    IsOneClaim g table (last_question g.kind YWins) false claims
AreValueClaims g budget table Draw claims = AreDrawClaims g budget table claims
