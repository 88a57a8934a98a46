-- Claims by their headings, and the value that they show.
use Rattle.std.proofs.Common.{◌≡◌, ◌∙◌, ℕ, List, [], ◌∷◌, length, get_or, map, slice_get}
use Rattle.std.proofs.Common.{Some, refl, sym, ap, subst, arith}
use Rattle.pg_settle.proofs.Common.{Cert, Claim, Draw, Forces, Game, Goal, Heading, IsValid}
use Rattle.pg_settle.proofs.Common.{IsWithinLimits, Score, Side, X, XWins, Y, YWins, draws, heading}
use Rattle.pg_settle.proofs.Common.{length-map, start, value, wins, with_turn}
use Rattle.pg_results.proofs.Claims.{ValidClaimsAreForced}
use Rattle.pg_solve.proofs.Values.{both-draw, x-wins, y-wins}
use Rattle.pg_settle.specs.Findings.{HasHeading, IsAnswer, IsJudged, IsShowing, IsWritable}
use Rattle.pg_settle.specs.Findings.{ShowsScore, ShowsValue}
use Rattle.pg_settle.specs.Settling.{outcome_of}
use Rattle.pg_settle.specs.declared.budget.Budget.{Budget}
use Rattle.pg_settle.specs.declared.finding.Finding.{Finding}
use Rattle.pg_settle.specs.declared.finding.Finding.TheVariants.{Certificate, Open}
use Rattle.pg_settle.specs.declared.finding.Outcome.{Outcome}

-- ---- headings

abbrev headed_so : Side → Side → Goal → Heading
headed_so turn side goal = record { turn = turn; side = side; goal = goal }

headed : (turn side : Side) (goal : Goal) (c : Claim)
    → HasHeading turn side goal c
    → heading c ≡ headed_so turn side goal
headed turn side goal c (same_turn, same_side, same_goal) =
    rw (same_turn, same_side, same_goal) refl

heads : (turn side : Side) (goal : Goal) (c : Claim)
    → heading c ≡ headed_so turn side goal
    → HasHeading turn side goal c
heads turn side goal c is = (
  ap (λ (h : Heading). h.turn) is,
  ap (λ (h : Heading). h.side) is,
  ap (λ (h : Heading). h.goal) is,
)

-- ---- lists of one claim and of two

-- so many headings are those of as many claims
pub counted : (cs : List Claim) (hs : List Heading)
    → map heading cs ≡ hs
    → length cs ≡ length hs
counted cs hs is = sym (length-map cs heading) ∙ ap length is

the_one : (cs : List Claim) (c : Claim)
    → length cs ≡ 1
    → c ≡ get_or cs 0 c
    → cs ≡ c ∷ []
the_one [] c count at = absurd (omega (arith, count))
the_one (d ∷ []) c count at = ap (λ (e : Claim). e ∷ []) (sym at)
the_one (d ∷ e ∷ cs) c count at = absurd (omega (arith, count))

the_two : (cs : List Claim) (c d : Claim)
    → length cs ≡ 2
    → c ≡ get_or cs 0 c
    → d ≡ get_or cs 1 d
    → cs ≡ c ∷ d ∷ []
the_two [] c d count first second = absurd (omega (arith, count))
the_two (a ∷ []) c d count first second = absurd (omega (arith, count))
the_two (a ∷ b ∷ []) c d count first second =
    ap (λ (e : Claim). e ∷ b ∷ []) (sym first) ∙ ap (λ (e : Claim). c ∷ e ∷ []) (sym second)
the_two (a ∷ b ∷ e ∷ cs) c d count first second = absurd (omega (arith, count))

module _ (turn side : Side) (goal : Goal) (cs : List Claim) (c : Claim) (count : length cs ≡ 1)
    (at : c ≡ get_or cs 0 c) where
  pub one_headed : HasHeading turn side goal c → map heading cs ≡ headed_so turn side goal ∷ []
  one_headed has = ap (map heading) (the_one cs c count at)
      ∙ ap (λ (h : Heading). h ∷ []) (headed turn side goal c has)

  pub one_heads : map heading cs ≡ headed_so turn side goal ∷ [] → HasHeading turn side goal c
  one_heads is =
      let same : heading c ∷ [] ≡ headed_so turn side goal ∷ [] =
      sym (ap (map heading) (the_one cs c count at)) ∙ is in
      heads turn side goal c
      (ap (λ (hs : List Heading). get_or hs 0 (headed_so turn side goal)) same)

module _ (turn one other : Side) (goal : Goal) (cs : List Claim) (c d : Claim)
    (count : length cs ≡ 2) (first : c ≡ get_or cs 0 c) (second : d ≡ get_or cs 1 d) where
  pub two_headed : HasHeading turn one goal c
      → HasHeading turn other goal d
      → map heading cs ≡ headed_so turn one goal ∷ headed_so turn other goal ∷ []
  two_headed has too = ap (map heading) (the_two cs c d count first second)
      ∙ (ap (λ (h : Heading). h ∷ heading d ∷ []) (headed turn one goal c has)
      ∙ ap (λ (h : Heading). headed_so turn one goal ∷ h ∷ []) (headed turn other goal d too))

  two_same : map heading cs ≡ headed_so turn one goal ∷ headed_so turn other goal ∷ []
      → heading c ∷ heading d ∷ [] ≡ headed_so turn one goal ∷ headed_so turn other goal ∷ []
  two_same is = sym (ap (map heading) (the_two cs c d count first second)) ∙ is

  pub first_heads : map heading cs ≡ headed_so turn one goal ∷ headed_so turn other goal ∷ []
      → HasHeading turn one goal c
  first_heads is = heads turn one goal c
      (ap (λ (hs : List Heading). get_or hs 0 (headed_so turn one goal)) (two_same is))

  pub second_heads : map heading cs ≡ headed_so turn one goal ∷ headed_so turn other goal ∷ []
      → HasHeading turn other goal d
  second_heads is = heads turn other goal d
      (ap (λ (hs : List Heading). get_or hs 1 (headed_so turn other goal)) (two_same is))

-- ---- the value

first_of : (cs : List Claim) (h : Heading) (hs : List Heading)
    → map heading cs ≡ h ∷ hs
    → (c : Claim) × (slice_get cs 0 ≡ Some c) × (heading c ≡ h)
first_of [] h hs is = absurd (cc is)
first_of (c ∷ cs) h hs is = (c, refl, ap (λ (l : List Heading). get_or l 0 h) is)

second_of : (cs : List Claim) (h k : Heading) (hs : List Heading)
    → map heading cs ≡ h ∷ k ∷ hs
    → (c : Claim) × (slice_get cs 1 ≡ Some c) × (heading c ≡ k)
second_of [] h k hs is = absurd (cc is)
second_of (c ∷ []) h k hs is = absurd (cc is)
second_of (c ∷ d ∷ cs) h k hs is = (d, refl, ap (λ (l : List Heading). get_or l 1 k) is)

-- a claim of a valid certificate is forced, by its heading
forced_so : ValidClaimsAreForced
    → (g : Game) (c : Cert) → IsWithinLimits c
    → IsValid g c
    → (i : ℕ) (h : Heading) → (claim : Claim) × (slice_get c.claims i ≡ Some claim)
    × (heading claim ≡ h)
    → Forces g (with_turn g h.turn) h.side h.goal
forced_so law g c limits valid i h (claim, at, is) =
    subst (λ (h : Heading). Forces g (with_turn g h.turn) h.side h.goal) is
    (law g c limits valid i claim at)

-- the score that a certificate shows is the value
pub shown_value : ValidClaimsAreForced
    → (g : Game) (score : Score) (c : Cert) → IsWithinLimits c
    → ShowsScore g score c
    → value g (start g) ≡ score
shown_value law g XWins c limits shows = x-wins (value g (start g))
    (forced_so law g c limits shows.valid 0 (wins g.turn X)
    (first_of c.claims (wins g.turn X) [] shows.claims))
shown_value law g YWins c limits shows = y-wins (value g (start g))
    (forced_so law g c limits shows.valid 0 (wins g.turn Y)
    (first_of c.claims (wins g.turn Y) [] shows.claims))
shown_value law g Draw c limits shows = both-draw (value g (start g))
    (forced_so law g c limits shows.valid 1 (draws g.turn X)
    (second_of c.claims (draws g.turn Y) (draws g.turn X) [] shows.claims))
    (forced_so law g c limits shows.valid 0 (draws g.turn Y)
    (first_of c.claims (draws g.turn Y) (draws g.turn X ∷ []) shows.claims))

-- ---- what was found and judged

pub stays_judged : (g : Game) (found : Finding) → IsShowing g found → IsJudged g found found
stays_judged g (Certificate score c) shows = (refl, shows)
stays_judged g Open shows = absurd shows

-- a score that a certificate within the limits shows is the value
abbrev pub ScoresAreValues : Type 0
ScoresAreValues = (g : Game) (score : Score) (c : Cert) → IsWithinLimits c
    → ShowsScore g score c
    → value g (start g) ≡ score

module _ (Brings : Game → Budget → Outcome → Type 0) (g : Game) (budget : Budget)
    (answer : Outcome) (is : IsAnswer Brings g budget answer) where
  -- the same answer, by its parts
  pub answer_of : (finding : Finding) (expanded : ℕ)
      → answer.finding ≡ finding
      → answer.expanded ≡ expanded
      → IsAnswer Brings g budget (outcome_of finding expanded)
  answer_of finding expanded found count = record {
    outcome = is.outcome;
    brought = is.brought;
    writable = is.writable;
    few = is.few;
    expanded = sym count ∙ is.expanded;
    judged = subst (λ (f : Finding). IsJudged g is.outcome.finding f) found is.judged;
  }

  -- a certificate that is left shows the value
  pub answer_shows : ScoresAreValues
      → (score : Score) (c : Cert) → answer.finding ≡ Certificate score c
      → ShowsValue g score c
  answer_shows law score c found =
      let judged : IsJudged g is.outcome.finding (Certificate score c) =
      subst (λ (f : Finding). IsJudged g is.outcome.finding f) found is.judged in
      let limits : IsWithinLimits c = subst IsWritable judged.0 is.writable in
      record { holds = law g score c limits judged.1; shows = judged.1; limits = limits }
