-- What the commands of games on vectors read and say.
use Rattle.std.specs.Prelude.{◌≡◌, ℕ, [], ◌∷◌, List, length, map, Option, Some, None, Result, Ok}
use Rattle.std.specs.Prelude.{Err}
use Rattle.pg_families.specs.Prelude.{Win, Switching, Side, X, Y, Bytes, Holding, Entry}
use Rattle.pg_families.specs.Prelude.{IsWithinLimits, printed_certificate, Cert, Claim}
use Rattle.pg_families.specs.Prelude.{IsFirstVecFault, IsVecValid, flaw_number, Class, Short, Cut}
use Rattle.pg_families.specs.Prelude.{at_turn, vector_class, vector_rules, VecPlay}
use Rattle.pg_families.specs.Prelude.{chosen_vec_claim, vec_start, VecFlaw, VecGame, VectorEntry}
use Rattle.pg_families.specs.Prelude.{vector_game, vector_entry, accepted_text, class_cut_text}
use Rattle.pg_families.specs.Prelude.{class_first_mover_text, class_short_text, Refusal}
use Rattle.pg_families.specs.Prelude.{RejectedVectors, Contender, Done, End, Opens, OpensTwo}
use Rattle.pg_families.specs.Prelude.{IsLackingOne, IsLackingTwo, both, certificate_held}
use Rattle.pg_families.specs.Prelude.{game_fault, held_as, or_halt, Delivers, Halt}
use Rattle.pg_files.specs.Views.{number_of as game_fault_number}
use Rattle.pg_lehman.specs.ClassClaims.{class_claims}
use Rattle.pg_lehman.specs.Sets.{named}
use Rattle.pg_lehman.specs.declared.class.Class.TheVariants.{First}
use Rattle.pg_families.specs.Judged.{AcceptsValid, PlaysValid, RefusesChecked, RefusesPlayed}

-- ---- what names hold

-- the game that a name holds, or what stands against it
abbrev pub vectors_held : Option Bytes → Result VectorEntry Halt
vectors_held o = held_as
    (λ text. or_halt (λ fault. game_fault (game_fault_number fault.0) fault.1) (vector_game text)) o

-- a game and a certificate, or what stands against the first of them
abbrev pub vectors_both_held : Option Bytes → Option Bytes → Result (VectorEntry × Cert) Halt
vectors_both_held game_bytes certificate_bytes =
    both (vectors_held game_bytes) (certificate_held certificate_bytes)

-- ---- checking and playing

-- the text that accepts a claim
abbrev pub vec_acceptance : Claim → Bytes
vec_acceptance claim = accepted_text claim.turn claim.side claim.goal

abbrev pub vec_acceptances : Cert → List Bytes
vec_acceptances c = map vec_acceptance c.claims

-- the certificate is rejected at its first faulty claim
abbrev pub RejectsVectors : VecGame → Cert → Refusal → Type 0
RejectsVectors g c refusal =
    (claim : ℕ) × (node : ℕ) × (why : VecFlaw) × IsFirstVecFault g c claim node why
    × (refusal ≡ RejectedVectors claim node (flaw_number why))

-- the certificate has a claim of the side with the game's turn, or has none
abbrev pub HasVecClaim : Side → VecGame → Cert → Type 0
HasVecClaim side g c = (claim : Claim) × (chosen_vec_claim g c side ≡ Some claim)

abbrev pub LacksVecClaim : Side → VecGame → Cert → Type 0
LacksVecClaim side g c = chosen_vec_claim g c side ≡ None

-- what is seen of a player: the rules of the game with the words short and cut, and the goal to win
abbrev pub vec_player : VecPlay → Contender
vec_player play = record {
  contest = record { rules = vector_rules play.game; kind = Switching };
  side = play.side;
  goal = Win;
  position = play.position;
}

-- the side at the game's position
abbrev pub vec_contender : Side → VecGame → Contender
vec_contender side g = record {
  contest = record { rules = vector_rules g; kind = Switching };
  side = side;
  goal = Win;
  position = vec_start g;
}

abbrev pub RefusesVectorCheck : Result (VectorEntry × Cert) Halt → Refusal → Type 0
RefusesVectorCheck read refusal = RefusesChecked vector_entry RejectsVectors read refusal

abbrev pub AcceptsVectors : Result (VectorEntry × Cert) Halt → List Entry → End → Type 0
AcceptsVectors read entries end =
    AcceptsValid vector_entry IsVecValid vec_acceptances read entries end

abbrev pub RefusesVectorPlay : Side → Result (VectorEntry × Cert) Halt → Refusal → Type 0
RefusesVectorPlay side read refusal =
    RefusesPlayed vector_entry IsVecValid RejectsVectors (LacksVecClaim side) side read refusal

abbrev pub PlaysVectors : Side → Result (VectorEntry × Cert) Halt → List Entry → End → Type 0
PlaysVectors side read entries end =
    PlaysValid vector_entry IsVecValid (HasVecClaim side) (vec_contender side) read entries end

-- ---- solving

-- the text of a class
abbrev pub vec_class_text : Class → Bytes
vec_class_text (Short a1 a2) = class_short_text
vec_class_text (Cut d1 d2) = class_cut_text
vec_class_text (First a1 a2 d1 d2) = class_first_mover_text

-- the class of the sets is that of the values with X and with Y to move, and the certificate shows
-- it by two valid claims of one node each, which stand on the sets
pub record ShowsVecClass (g : VecGame) (sets : Class) (c : Cert) : Type 0 where
  pub class_is : vector_class g ≡ Some (named sets)
  pub valid : IsVecValid g c
  pub limits : IsWithinLimits c
  pub claims : c.claims ≡ class_claims (at_turn g X) (at_turn g Y) (length g.vectors) sets

-- a certificate that shows the class is stored under the name, and then the class is said
abbrev pub SolvesVectorGame : VecGame → Bytes → Done → End → Type 0
SolvesVectorGame g name done end = (sets : Class) × (c : Cert) × ShowsVecClass g sets c
    × Delivers (name, printed_certificate c) (vec_class_text sets ∷ []) done end

-- the same of what was read
abbrev pub SolvesVectors : Result VectorEntry Halt → Bytes → Done → End → Type 0
SolvesVectors (Err halt) name done end = ⊥
SolvesVectors (Ok e) name done end =
    (g : VecGame) × (vector_entry g ≡ e) × SolvesVectorGame g name done end

-- ---- what the code has read

abbrev pub OpensVectors : Option Holding → Bytes → Result VecGame Halt → Type 0
OpensVectors h name r = Opens vector_entry vectors_held h name r

-- a game and a certificate, with the game as its file says it
abbrev pub vectors_pair : VecGame × Cert → VectorEntry × Cert
vectors_pair pair = (vector_entry pair.0, pair.1)

abbrev pub OpensVectorsBoth : Option Holding → Bytes → Bytes → Result (VecGame × Cert) Halt → Type 0
OpensVectorsBoth h g c r = OpensTwo vectors_pair vectors_both_held h g c r

-- it is told that a name that is wanted isn't held
abbrev pub IsVectorLacking : Option Holding → Bytes → Type 0
IsVectorLacking h name = IsLackingOne vectors_held h name

abbrev pub AreVectorsLacking : Option Holding → Bytes → Bytes → Type 0
AreVectorsLacking h g c = IsLackingTwo vectors_both_held h g c
