-- What the commands of connectivity games read, store and say.
use Rattle.std.specs.Prelude.{◌≡◌, ℕ, [], ◌∷◌, List, map, Option, Some, None, Result, Ok, Err}
use Rattle.pg_families.specs.Prelude.{Win, MakerBreaker, Side, Bytes, Holding, Entry, span_class}
use Rattle.pg_families.specs.Prelude.{span_rules_of, SpanPlay, chosen_span_claim, span_start}
use Rattle.pg_families.specs.Prelude.{AreDueClaims, named, IsFirstFlaw, IsSpanValid, SpanCert}
use Rattle.pg_families.specs.Prelude.{SpanClaim, SpanFlaw, SpanGame, SpanClass, Maker, Breaker}
use Rattle.pg_families.specs.Prelude.{First, SpanEntry, span_game, span_cert, IsWithinRanges}
use Rattle.pg_families.specs.Prelude.{printed_span, span_entry, accepted_text, class_breaker_text}
use Rattle.pg_families.specs.Prelude.{class_first_mover_text, class_maker_text, Refusal}
use Rattle.pg_families.specs.Prelude.{RejectedSpan, Contender, Done, End, Opens, OpensTwo}
use Rattle.pg_families.specs.Prelude.{IsLackingOne, IsLackingTwo, both, certificate_fault}
use Rattle.pg_families.specs.Prelude.{game_fault, held_as, or_halt, Delivers, Halt}
use Rattle.pg_files.specs.Views.{number_of as game_fault_number}
use Rattle.pg_span.specs.Flaw.{flaw_number}
use Rattle.pg_family_files.specs.SpanCertViews.{number_of as certificate_fault_number}
use Rattle.pg_families.specs.Judged.{AcceptsValid, PlaysValid, RefusesChecked, RefusesPlayed}

-- ---- what names hold

-- the game that a name holds, or what stands against it
abbrev pub span_held : Option Bytes → Result SpanEntry Halt
span_held o = held_as
    (λ text. or_halt (λ fault. game_fault (game_fault_number fault.0) fault.1) (span_game text)) o

-- the certificate that a name holds, or what stands against it
abbrev pub span_cert_held : Option Bytes → Result SpanCert Halt
span_cert_held o = held_as
    (λ text. or_halt (λ fault. certificate_fault (certificate_fault_number fault.0) fault.1)
    (span_cert text)) o

-- both, or what stands against the first of them
abbrev pub span_both_held : Option Bytes → Option Bytes → Result (SpanEntry × SpanCert) Halt
span_both_held game_bytes certificate_bytes =
    both (span_held game_bytes) (span_cert_held certificate_bytes)

-- ---- checking and playing

-- the text that accepts a claim
abbrev pub span_acceptance : SpanClaim → Bytes
span_acceptance claim = accepted_text claim.turn claim.side Win

abbrev pub span_acceptances : SpanCert → List Bytes
span_acceptances c = map span_acceptance c.claims

-- the certificate is rejected at its first faulty claim
abbrev pub RejectsSpan : SpanGame → SpanCert → Refusal → Type 0
RejectsSpan g c refusal = (claim : ℕ) × (why : SpanFlaw) × IsFirstFlaw g c claim why
    × (refusal ≡ RejectedSpan claim (flaw_number why))

-- the certificate has a claim of the side with the game's turn, or has none
abbrev pub HasSpanClaim : Side → SpanGame → SpanCert → Type 0
HasSpanClaim side g c = (claim : SpanClaim) × (chosen_span_claim g c side ≡ Some claim)

abbrev pub LacksSpanClaim : Side → SpanGame → SpanCert → Type 0
LacksSpanClaim side g c = chosen_span_claim g c side ≡ None

-- what is seen of a player: the rules of the game with the words maker and breaker, and the goal to
-- win
abbrev pub span_player : SpanPlay → Contender
span_player play = record {
  contest = record { rules = span_rules_of play.game; kind = MakerBreaker };
  side = play.side;
  goal = Win;
  position = play.position;
}

-- the side at the game's position
abbrev pub span_contender : Side → SpanGame → Contender
span_contender side g = record {
  contest = record { rules = span_rules_of g; kind = MakerBreaker };
  side = side;
  goal = Win;
  position = span_start g;
}

abbrev pub RefusesSpanCheck : Result (SpanEntry × SpanCert) Halt → Refusal → Type 0
RefusesSpanCheck read refusal = RefusesChecked span_entry RejectsSpan read refusal

abbrev pub AcceptsSpans : Result (SpanEntry × SpanCert) Halt → List Entry → End → Type 0
AcceptsSpans read entries end =
    AcceptsValid span_entry IsSpanValid span_acceptances read entries end

abbrev pub RefusesSpanPlay : Side → Result (SpanEntry × SpanCert) Halt → Refusal → Type 0
RefusesSpanPlay side read refusal =
    RefusesPlayed span_entry IsSpanValid RejectsSpan (LacksSpanClaim side) side read refusal

abbrev pub PlaysSpan : Side → Result (SpanEntry × SpanCert) Halt → List Entry → End → Type 0
PlaysSpan side read entries end =
    PlaysValid span_entry IsSpanValid (HasSpanClaim side) (span_contender side) read entries end

-- ---- solving

-- the text of a class
abbrev pub span_class_text : SpanClass → Bytes
span_class_text Maker = class_maker_text
span_class_text Breaker = class_breaker_text
span_class_text First = class_first_mover_text

-- the class is that of the values with X and with Y to move, and the certificate shows it by two
-- valid claims, of the side that wins with X and of the one that wins with Y to move
pub record ShowsSpanClass (g : SpanGame) (class : SpanClass) (c : SpanCert) : Type 0 where
  pub class_is : span_class g ≡ Some (named class)
  pub valid : IsSpanValid g c
  -- the numbers are such as a file may say, so that what is stored can be read again
  pub ranges : IsWithinRanges c
  pub claims : AreDueClaims class c.claims

-- a certificate that shows the class is stored under the name, and then the class is said
abbrev pub SolvesSpanGame : SpanGame → Bytes → Done → End → Type 0
SolvesSpanGame g name done end = (class : SpanClass) × (c : SpanCert) × ShowsSpanClass g class c
    × Delivers (name, printed_span c) (span_class_text class ∷ []) done end

-- the same of what was read
abbrev pub SolvesSpan : Result SpanEntry Halt → Bytes → Done → End → Type 0
SolvesSpan (Err halt) name done end = ⊥
SolvesSpan (Ok e) name done end =
    (g : SpanGame) × (span_entry g ≡ e) × SolvesSpanGame g name done end

-- ---- what the code has read

abbrev pub OpensSpan : Option Holding → Bytes → Result SpanGame Halt → Type 0
OpensSpan h name r = Opens span_entry span_held h name r

abbrev pub OpensSpanCert : Option Holding → Bytes → Result SpanCert Halt → Type 0
OpensSpanCert h name r = Opens (λ x. x) span_cert_held h name r

-- a game and a certificate, with the game as its file says it
abbrev pub span_pair : SpanGame × SpanCert → SpanEntry × SpanCert
span_pair pair = (span_entry pair.0, pair.1)

abbrev pub OpensSpanBoth : Option Holding
    → Bytes
    → Bytes
    → Result (SpanGame × SpanCert) Halt
    → Type 0
OpensSpanBoth h g c r = OpensTwo span_pair span_both_held h g c r

-- it is told that a name that is wanted isn't held
abbrev pub IsSpanLacking : Option Holding → Bytes → Type 0
IsSpanLacking h name = IsLackingOne span_held h name

abbrev pub AreSpansLacking : Option Holding → Bytes → Bytes → Type 0
AreSpansLacking h g c = IsLackingTwo span_both_held h g c
