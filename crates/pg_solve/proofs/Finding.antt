-- What is found by questions and by classes, as the clauses of solving say it.
use Rattle.std.proofs.Common.{◌≡◌, ◌∙◌, ℕ, zero, suc, ◌<◌, ◌≤◌, true, false, List, [], ◌∷◌, Some}
use Rattle.std.proofs.Common.{length, map, refl, sym, ap, subst, subst₂, arith, slice_get, IfSome}
use Rattle.pg_solve.proofs.Common.{none-some, All, Goal, Win, Kind, MakerBreaker, MakerMaker}
use Rattle.pg_solve.proofs.Common.{AvoiderEnforcer, Switching, Score, XWins, Draw, YWins, Side, X}
use Rattle.pg_solve.proofs.Common.{Y, IsClaim, IsOfVersion, IsWithinLimits, node_count, IsValid}
use Rattle.pg_solve.proofs.Common.{IsValidClaim, Cert, Claim, One, claimed_goal, is_switching}
use Rattle.pg_solve.proofs.Common.{IsTable, IsOpenTable, IsWorkOf, Game, Position, Expanded}
use Rattle.pg_base.specs.declared.goal.Goal.TheVariants.{Draw as AtLeastDraw}
use Rattle.pg_cert.specs.declared.cert.Version.{Version}
use Rattle.pg_solve.proofs.Searching.{claims-value, denied-value, yes-win, no-win}
use Rattle.pg_solve.specs.Due.{Heading, heading, due_for_value}
use Rattle.pg_solve.specs.Left.{IsLeft, IsLeftOpen, IsAskedLast}
use Rattle.pg_solve.specs.Searched.{last_question, IsSearched, AreValueClaims}
use Rattle.pg_solve.specs.Solved.{certificate_of, due, is_class, IsTrueOf, IsShown, IsFoundBy}
use Rattle.pg_solve.specs.declared.solution.Solution.{Solution}
use Rattle.pg_solve.specs.declared.solution.Solution.TheVariants.{Value, Class as ForClass, Unknown}

-- ---- the questions

pub left-second : (g : Game) (budget : ℕ) (denial : Claim) (work : Expanded)
    → g.kind ≡ MakerMaker
    → IsSearched g budget XWins false denial
    → IsWorkOf g Draw budget work
    → IsLeft g budget work
left-second g budget denial work kind denied is = record {
  question = Draw;
  held = is.question;
  asked = (kind, denied-value g budget denial kind denied);
  listed = is.listed;
}

pub open-second : (g : Game) (budget : ℕ) (denial : Claim) (work : Expanded)
    → g.kind ≡ MakerMaker
    → IsSearched g budget XWins false denial
    → work.question ≡ Some Draw
    → IsOpenTable g Draw budget work.positions
    → IsLeftOpen g budget work
open-second g budget denial work kind denied held unsettled = record {
  question = Draw;
  held = held;
  asked = (kind, denied-value g budget denial kind denied);
  unsettled = unsettled;
}

-- ---- lists of one and of two claims

heading-is : (c : Claim) (turn side : Side) (goal : Goal)
    → c.turn ≡ turn
    → c.side ≡ side
    → c.goal ≡ goal
    → heading c ≡ record { turn = turn; side = side; goal = goal }
heading-is c turn side goal same_turn same_side same_goal =
    rw (same_turn, same_side, same_goal) refl

headings-one : (claims : List Claim) (claim : Claim) (h : Heading)
    → claims ≡ claim ∷ []
    → heading claim ≡ h
    → map heading claims ≡ h ∷ []
headings-one claims claim h one is = ap (map heading) one ∙ ap (λ (k : Heading). k ∷ []) is

headings-two : (claims : List Claim) (one other : Claim) (h k : Heading)
    → claims ≡ one ∷ other ∷ []
    → heading one ≡ h
    → heading other ≡ k
    → map heading claims ≡ h ∷ k ∷ []
headings-two claims one other h k two first second = ap (map heading) two
    ∙ (ap (λ (i : Heading). i ∷ heading other ∷ []) first ∙ ap (λ (i : Heading). h ∷ i ∷ []) second)

valid-one : (g : Game) (cert : Cert) (claim : Claim)
    → cert.claims ≡ claim ∷ []
    → IsValidClaim g claim
    → IsValid g cert
valid-one g cert claim one valid i c at =
    only i (subst (λ (cs : List Claim). slice_get cs i ≡ Some c) one at)
  where
    only : (i : ℕ) → slice_get (claim ∷ []) i ≡ Some c → IsValidClaim g c
    only zero here = let same : claim ≡ c = cc in subst (λ (d : Claim). IsValidClaim g d) same valid
    only (suc i) here = absurd (none-some c here)

valid-two : (g : Game) (cert : Cert) (one other : Claim)
    → cert.claims ≡ one ∷ other ∷ []
    → IsValidClaim g one
    → IsValidClaim g other
    → IsValid g cert
valid-two g cert one other two valid too i c at =
    each i (subst (λ (cs : List Claim). slice_get cs i ≡ Some c) two at)
  where
    each : (i : ℕ) → slice_get (one ∷ other ∷ []) i ≡ Some c → IsValidClaim g c
    each zero here = let same : one ≡ c = cc in subst (λ (d : Claim). IsValidClaim g d) same valid
    each (suc zero) here =
        let same : other ≡ c = cc in
        subst (λ (d : Claim). IsValidClaim g d) same too
    each (suc (suc i)) here = absurd (none-some c here)

all-one : (P : Claim → Type 0) (claim : Claim) → P claim → All P (claim ∷ [])
all-one P claim h zero d lt = h
all-one P claim h (suc k) d lt = absurd (omega arith)

all-two : (P : Claim → Type 0) (one other : Claim) → P one → P other → All P (one ∷ other ∷ [])
all-two P one other h too zero d lt = h
all-two P one other h too (suc zero) d lt = too
all-two P one other h too (suc (suc k)) d lt = absurd (omega arith)

within-one : (cert : Cert) (claim : Claim)
    → cert.version ≡ One
    → cert.claims ≡ claim ∷ []
    → IsClaim claim
    → IsOfVersion One claim
    → IsWithinLimits cert
within-one cert claim version one limits plain = record {
  some = subst (λ (cs : List Claim). 0 < length cs) (sym one) (omega arith);
  few = subst (λ (cs : List Claim). length cs ≤ 8) (sym one) (omega arith);
  claims = subst (λ (cs : List Claim). All IsClaim cs) (sym one) (all-one IsClaim claim limits);
  nodes = subst (λ (cs : List Claim). node_count cs ≤ 200000) (sym one)
      (let few = limits.few in omega (arith, few));
  bodies = subst₂ (λ (v : Version) (cs : List Claim). All (IsOfVersion v) cs) (sym version)
      (sym one) (all-one (IsOfVersion One) claim plain);
}

within-two : (cert : Cert) (one other : Claim)
    → cert.version ≡ One
    → cert.claims ≡ one ∷ other ∷ []
    → IsClaim one
    → IsClaim other
    → IsOfVersion One one
    → IsOfVersion One other
    → IsWithinLimits cert
within-two cert one other version two limits too plain plain_too = record {
  some = subst (λ (cs : List Claim). 0 < length cs) (sym two) (omega arith);
  few = subst (λ (cs : List Claim). length cs ≤ 8) (sym two) (omega arith);
  claims =
      subst (λ (cs : List Claim). All IsClaim cs) (sym two) (all-two IsClaim one other limits too);
  nodes = subst (λ (cs : List Claim). node_count cs ≤ 200000) (sym two)
      (let first = limits.few in let second = too.few in omega (arith, first, second));
  bodies = subst₂ (λ (v : Version) (cs : List Claim). All (IsOfVersion v) cs) (sym version)
      (sym two) (all-two (IsOfVersion One) one other plain plain_too);
}

-- ---- claims that show a value

value-headings : (g : Game) (budget : ℕ) (table : List Position) (score : Score)
    (claims : List Claim)
    → AreValueClaims g budget table score claims
    → map heading claims ≡ due_for_value g.turn score
value-headings g budget table XWins claims is = headings-one claims is.claim _ is.one
    (heading-is is.claim g.turn X Win is.shows.turn is.shows.side (is.shows.goal ∙ yes-win g.kind))
value-headings g budget table YWins claims is = headings-one claims is.claim _ is.one
    (heading-is is.claim g.turn Y Win is.shows.turn is.shows.side (is.shows.goal ∙ no-win g.kind))
value-headings g budget table Draw claims is = headings-two claims is.denial is.claim _ _ is.two
    (heading-is is.denial g.turn Y AtLeastDraw is.denies.shows.turn is.denies.shows.side
    (is.denies.shows.goal ∙ ap (λ (k : Kind). claimed_goal k XWins false) is.kind))
    (heading-is is.claim g.turn X AtLeastDraw is.shows.turn is.shows.side
    (is.shows.goal ∙ ap (λ (k : Kind). claimed_goal k Draw true) is.kind))

value-valid : (g : Game) (budget : ℕ) (table : List Position) (score : Score) (cert : Cert)
    → AreValueClaims g budget table score cert.claims
    → IsValid g cert
value-valid g budget table XWins cert is = valid-one g cert is.claim is.one is.shows.valid
value-valid g budget table YWins cert is = valid-one g cert is.claim is.one is.shows.valid
value-valid g budget table Draw cert is =
    valid-two g cert is.denial is.claim is.two is.denies.shows.valid is.shows.valid

value-within : (g : Game) (budget : ℕ) (table : List Position) (score : Score) (cert : Cert)
    → cert.version ≡ One
    → AreValueClaims g budget table score cert.claims
    → IsWithinLimits cert
value-within g budget table XWins cert version is =
    within-one cert is.claim version is.one is.shows.limits is.shows.version
value-within g budget table YWins cert version is =
    within-one cert is.claim version is.one is.shows.limits is.shows.version
value-within g budget table Draw cert version is = within-two cert is.denial is.claim version is.two
    is.denies.shows.limits is.shows.limits is.denies.shows.version is.shows.version

-- ---- the clauses, for a game on lines

not-switching : (kind : Kind) → (kind ≡ Switching → ⊥) → false ≡ is_switching kind
not-switching MakerBreaker ne = refl
not-switching MakerMaker ne = refl
not-switching AvoiderEnforcer ne = refl
not-switching Switching ne = absurd (ne refl)

module _ (g : Game) (budget : ℕ) (work : Expanded) where
  pub found-kind : (g.kind ≡ Switching → ⊥)
      → (s : Solution) → IsFoundBy g budget work s
      → is_class s ≡ is_switching g.kind
  found-kind ne (Value score cert) is = not-switching g.kind ne
  found-kind ne (ForClass class cert) is = absurd is
  found-kind ne Unknown is = not-switching g.kind ne

  pub found-true : IsLeft g budget work → (s : Solution) → IsFoundBy g budget work s → IsTrueOf g s
  found-true left (Value score cert) is =
      let same : Some left.question ≡ Some (last_question g.kind score) = sym left.held ∙ is.0 in
      let asked : left.question ≡ last_question g.kind score = cc in
      claims-value g budget work.positions score cert.claims
      (subst (λ (t : Score). IsTable g t work.positions) asked left.listed.rules) is.1
  found-true left (ForClass class cert) is = absurd is
  found-true left Unknown is = tt

  pub found-claims : (s : Solution)
      → IsFoundBy g budget work s
      → IfSome (certificate_of s) (λ cert. map heading cert.claims ≡ due g.turn s)
  found-claims (Value score cert) is = value-headings g budget work.positions score cert.claims is.1
  found-claims (ForClass class cert) is = absurd is
  found-claims Unknown is = tt

  pub found-valid : (s : Solution)
      → IsFoundBy g budget work s
      → IfSome (certificate_of s) (IsValid g)
  found-valid (Value score cert) is = value-valid g budget work.positions score cert is.1
  found-valid (ForClass class cert) is = absurd is
  found-valid Unknown is = tt

  pub found-within : (s : Solution)
      → IsFoundBy g budget work s
      → IfSome (certificate_of s) IsWithinLimits
  found-within (Value score cert) is = value-within g budget work.positions score cert is.2 is.1
  found-within (ForClass class cert) is = absurd is
  found-within Unknown is = tt

  pub found-version : (s : Solution)
      → IsFoundBy g budget work s
      → IfSome (certificate_of s) (λ cert. cert.version ≡ One)
  found-version (Value score cert) is = is.2
  found-version (ForClass class cert) is = absurd is
  found-version Unknown is = tt

  pub found-shown : (s : Solution) → IsFoundBy g budget work s → IsShown g budget work.positions s
  found-shown (Value score cert) is = is.1
  found-shown (ForClass class cert) is = absurd is
  found-shown Unknown is = tt

  pub found-last : (s : Solution) → IsFoundBy g budget work s → IsAskedLast g.kind work.question s
  found-last (Value score cert) is = is.0
  found-last (ForClass class cert) is = absurd is
  found-last Unknown is = tt
