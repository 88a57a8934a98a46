-- What solving says of a game, and how it is shown.
use Rattle.std.specs.Prelude.{◌≡◌, ℕ, Bool, true, false, List, [], Option, Some, None}
use Rattle.pg_solve.specs.Prelude.{Side, Cert, One, start, value, Game, Position, Expanded}
use Rattle.pg_game.specs.Class.{class_of}
use Rattle.pg_solve.specs.Due.{Heading, due_for_value, due_for_class}
use Rattle.pg_solve.specs.EdgeClaims.{named, AreClassClaims}
use Rattle.pg_solve.specs.Left.{IsLeftOpen}
use Rattle.pg_solve.specs.Searched.{last_question, AreValueClaims}
use Rattle.pg_solve.specs.declared.solution.Solution.{Solution}
use Rattle.pg_solve.specs.declared.solution.Solution.TheVariants.{Value, Class as ForClass, Unknown}

-- whether it is a class
abbrev pub is_class : Solution → Bool
is_class (Value score certificate) = false
is_class (ForClass class certificate) = true
is_class Unknown = false

-- the certificate, where something was found
abbrev pub certificate_of : Solution → Option Cert
certificate_of (Value score certificate) = Some certificate
certificate_of (ForClass class certificate) = Some certificate
certificate_of Unknown = None

-- the headings of the claims that are due
abbrev pub due : Side → Solution → List Heading
due turn (Value score certificate) = due_for_value turn score
due turn (ForClass class certificate) = due_for_class class
due turn Unknown = []

-- the score is the value of the game's position, and the class is the game's
abbrev pub IsTrueOf : Game → Solution → Type 0
IsTrueOf g (Value score certificate) = value g (start g) ≡ score
IsTrueOf g (ForClass class certificate) = class_of g ≡ Some (named class)
IsTrueOf g Unknown = Unit {0}

-- the claims show it: a value by searches with that budget, the last of which expanded these
-- positions, and a class by sets of edges
abbrev pub IsShown : Game → ℕ → List Position → Solution → Type 0
IsShown g budget table (Value score certificate) =
    AreValueClaims g budget table score certificate.claims
IsShown g budget table (ForClass class certificate) = AreClassClaims g class certificate.claims
IsShown g budget table Unknown = Unit {0}

-- the class of a switching game was found, with the claims that show it in version 1
abbrev pub IsClassified : Game → Solution → Type 0
IsClassified g (Value score certificate) = ⊥
IsClassified g (ForClass class certificate) = (class_of g ≡ Some (named class))
    × AreClassClaims g class certificate.claims
    × (certificate.version ≡ One)
IsClassified g Unknown = ⊥

-- the value of a game on lines was found by the question that the work holds, with a certificate of
-- version 1, or that question is open
abbrev pub IsFoundBy : Game → ℕ → Expanded → Solution → Type 0
IsFoundBy g budget work (Value score certificate) =
    (work.question ≡ Some (last_question g.kind score))
    × AreValueClaims g budget work.positions score certificate.claims
    × (certificate.version ≡ One)
IsFoundBy g budget work (ForClass class certificate) = ⊥
IsFoundBy g budget work Unknown = IsLeftOpen g budget work
