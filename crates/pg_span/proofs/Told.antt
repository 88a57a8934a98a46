-- What a certificate tells: one flaw at most where it isn't valid, and the class where it has both
-- winners' claims.
use Rattle.std.proofs.Common.{◌≡◌, ◌≢◌, ℕ, ◌<◌, Some, List, [], ◌∷◌, inl, inr, refl, sym, ◌∙◌}
use Rattle.std.proofs.Common.{subst, subst₂, arith}
use Rattle.std.specs.Prelude.{length, slice_get, get_or}
use Rattle.pg_span.proofs.Common.{All, cases_order, slice_get-get_or, slice_get_within, Win, Side}
use Rattle.pg_span.proofs.Common.{X, Y, ForcesBy, Position}
use Rattle.pg_base.proofs.Stands.{same_some}
use Rattle.pg_span.specs.Game.{marks_at, span_class, span_rules_of}
use Rattle.pg_span.specs.Solved.{AreDueClaims, named, winner}
use Rattle.pg_span.specs.Valid.{HasFlaw, IsBodyAt, IsFirstFlaw, IsSpanClaimValid, IsSpanValid}
use Rattle.pg_span.specs.declared.cert.SpanBody.{SpanBody}
use Rattle.pg_span.specs.declared.cert.SpanBody.TheVariants.{Trees, Parts}
use Rattle.pg_span.specs.declared.cert.SpanCert.{SpanCert}
use Rattle.pg_span.specs.declared.cert.SpanClaim.{SpanClaim}
use Rattle.pg_span.specs.declared.flaw.SpanFlaw.{SpanFlaw}
use Rattle.pg_span.specs.declared.flaw.SpanFlaw.TheVariants as flaws
use Rattle.pg_span.specs.declared.game.SpanGame.{SpanGame}
use Rattle.pg_span.specs.declared.solved.SpanClass.{SpanClass}
use Rattle.pg_span.specs.declared.solved.SpanClass.TheVariants as classes
use Rattle.pg_span.proofs.ClassLemmas.{forced-by, place, x_wins, y_wins}

x≢y : X ≢ Y
x≢y e = cc

both_sides : {A : Type 0} (side : Side) → side ≡ X → side ≡ Y → A
both_sides side x y = absurd (x≢y (sym x ∙ y))

-- ---- flaws

-- a body that holds has no flaw
unflawed : (g : SpanGame) (p : Position) (side : Side) (body : SpanBody) (why : SpanFlaw)
    → IsBodyAt g p side body
    → HasFlaw g p side body why
    → ⊥
unflawed g p side (Trees first a1 a2) flaws.Side t h = both_sides side t.0 h
unflawed g p side (Trees first a1 a2) flaws.Trees t h = h.1 t.1
unflawed g p side (Trees first a1 a2) flaws.Parts t h = h
unflawed g p side (Parts numbers) flaws.Side t h = both_sides side h t.0
unflawed g p side (Parts numbers) flaws.Trees t h = h
unflawed g p side (Parts numbers) flaws.Parts t h = h.1 t.1

-- a body has one flaw at most
one_flaw : (g : SpanGame) (p : Position) (side : Side) (body : SpanBody) (why how : SpanFlaw)
    → HasFlaw g p side body why
    → HasFlaw g p side body how
    → why ≡ how
one_flaw g p side (Trees first a1 a2) flaws.Side flaws.Side h k = refl
one_flaw g p side (Trees first a1 a2) flaws.Side flaws.Trees h k = both_sides side k.0 h
one_flaw g p side (Trees first a1 a2) flaws.Side flaws.Parts h k = absurd k
one_flaw g p side (Trees first a1 a2) flaws.Trees flaws.Side h k = both_sides side h.0 k
one_flaw g p side (Trees first a1 a2) flaws.Trees flaws.Trees h k = refl
one_flaw g p side (Trees first a1 a2) flaws.Trees flaws.Parts h k = absurd k
one_flaw g p side (Trees first a1 a2) flaws.Parts how h k = absurd h
one_flaw g p side (Parts numbers) flaws.Side flaws.Side h k = refl
one_flaw g p side (Parts numbers) flaws.Side flaws.Trees h k = absurd k
one_flaw g p side (Parts numbers) flaws.Side flaws.Parts h k = both_sides side h k.0
one_flaw g p side (Parts numbers) flaws.Trees how h k = absurd h
one_flaw g p side (Parts numbers) flaws.Parts flaws.Side h k = both_sides side k h.0
one_flaw g p side (Parts numbers) flaws.Parts flaws.Trees h k = absurd k
one_flaw g p side (Parts numbers) flaws.Parts flaws.Parts h k = refl

claim_unflawed : (g : SpanGame) (claim : SpanClaim) (why : SpanFlaw)
    → IsSpanClaimValid g claim
    → HasFlaw g (marks_at g claim.turn) claim.side claim.body why
    → ⊥
claim_unflawed g claim why valid flaw =
    unflawed g (marks_at g claim.turn) claim.side claim.body why valid flaw

pub valid-unflawed : (g : SpanGame) (cert : SpanCert) (k : ℕ) (why : SpanFlaw)
    → IsSpanValid g cert
    → IsFirstFlaw g cert k why
    → ⊥
valid-unflawed g cert k why valid f =
    let low : k < length cert.claims = slice_get_within cert.claims k f.claim f.at in
    let same : f.claim ≡ get_or cert.claims k f.claim =
    same_some (sym f.at ∙ slice_get-get_or cert.claims k f.claim low) in
    claim_unflawed g f.claim why
    (subst (IsSpanClaimValid g) (sym same) (valid k f.claim low)) f.flaw

pub first_flaw-one : (g : SpanGame) (cert : SpanCert) (k i : ℕ) (why how : SpanFlaw)
    → IsFirstFlaw g cert k why
    → IsFirstFlaw g cert i how
    → (k ≡ i) × (why ≡ how)
first_flaw-one g cert k i why how f s =
    elim (cases_order k i) [
      | inl same ↦
          let at : slice_get cert.claims i ≡ Some f.claim =
          subst (λ (n : ℕ). slice_get cert.claims n ≡ Some f.claim) same f.at in
          let claim : s.claim ≡ f.claim = same_some (sym s.at ∙ at) in
          let flaw : HasFlaw g (marks_at g f.claim.turn) f.claim.side f.claim.body how =
          subst (λ (c : SpanClaim). HasFlaw g (marks_at g c.turn) c.side c.body how) claim s.flaw in
          (same, one_flaw g (marks_at g f.claim.turn) f.claim.side f.claim.body why how f.flaw flaw)
      | inr (inl low) ↦ absurd (claim_unflawed g f.claim why (s.before k f.claim low f.at) f.flaw)
      | inr (inr high) ↦ absurd (claim_unflawed g s.claim how (f.before i s.claim high s.at) s.flaw)
    ]

-- ---- the class

forced_class : (g : SpanGame) (class : SpanClass)
    → ForcesBy (span_rules_of g) (marks_at g X) (winner class X) Win
    → ForcesBy (span_rules_of g) (marks_at g Y) (winner class Y) Win
    → span_class g ≡ Some (named class)
unfolding span_class
forced_class g classes.Maker s t = rw (x_wins _ s, x_wins _ t) refl
forced_class g classes.Breaker s t = rw (y_wins _ s, y_wins _ t) refl
forced_class g classes.First s t = rw (x_wins _ s, y_wins _ t) refl

claim-forces : (g : SpanGame) (claim : SpanClaim) (turn side : Side)
    → claim.turn ≡ turn
    → claim.side ≡ side
    → IsSpanClaimValid g claim
    → ForcesBy (span_rules_of g) (marks_at g turn) side Win
claim-forces g claim turn side same own valid =
    subst₂ (λ (t s : Side). ForcesBy (span_rules_of g) (marks_at g t) s Win) same own
    (forced-by g claim.side (marks_at g claim.turn) claim.body (place g claim.turn) valid)

pub class-told : (g : SpanGame) (class : SpanClass) (cert : SpanCert)
    → AreDueClaims class cert.claims
    → IsSpanValid g cert
    → span_class g ≡ Some (named class)
class-told g class cert due valid =
    let all : All (IsSpanClaimValid g) (due.first ∷ due.second ∷ []) =
    subst (λ (claims : List SpanClaim). All (IsSpanClaimValid g) claims) due.two valid in
    forced_class g class
    (claim-forces g due.first X (winner class X) due.first_turn due.first_side
    (all 0 due.first (omega arith)))
    (claim-forces g due.second Y (winner class Y) due.second_turn due.second_side
    (all 1 due.second (omega arith)))
