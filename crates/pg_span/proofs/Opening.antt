-- What a player has when it is opened.
use Rattle.std.proofs.Common.{◌≡◌, ◌∙◌, ℕ, List, Option, Some, None, get_or, slice_get, sym}
use Rattle.std.proofs.Common.{subst}
use Rattle.pg_span.proofs.Common.{All-get_or, slice_get-get_or, slice_get_within, All, FinSet}
use Rattle.pg_span.proofs.Common.{nat_cmp, Side, Position, AreParts, AreJoiningTrees, IsFirst}
use Rattle.std.proofs.Math.Logic.{∥∥₁_map}
use Rattle.pg_switch.proofs.Known.{same_bool, same_number, same_side, less, are_free, IsChosen}
use Rattle.pg_switch.proofs.Known as known
use Rattle.pg_switch.proofs.Seats.{reached-start}
use Rattle.pg_span.specs.declared.cert.SpanBody.{SpanBody}
use Rattle.pg_span.specs.declared.cert.SpanBody.TheVariants.{Trees, Parts}
use Rattle.pg_span.specs.declared.cert.SpanCert.{SpanCert}
use Rattle.pg_span.specs.declared.cert.SpanClaim.{SpanClaim}
use Rattle.pg_span.specs.declared.game.SpanGame.{SpanGame}
use Rattle.pg_span.specs.Player.{chosen_span_claim, span_start, IsOnSpanPlan}
use Rattle.pg_span.specs.Game.{marks_at, span_rules_of}
use Rattle.pg_span.specs.Valid.{IsBodyAt, IsSpanClaimValid, IsSpanValid}
use Rattle.pg_span.proofs.ClassLemmas.{place, forced-by}

-- ---- facts that have one proof at most

first-claimed : (m : ℕ) (p : Position) (a1 a2 : FinSet nat_cmp) (first : Option ℕ)
    → ∥ IsFirst m p a1 a2 first ∥₁
    → IsFirst m p a1 a2 first
first-claimed m p a1 a2 None t = tt
first-claimed m p a1 a2 (Some v) t = (
  less _ _ (∥∥₁_map t (λ h. h.0)),
  same_bool _ _ (∥∥₁_map t (λ h. h.1)),
  same_bool _ _ (∥∥₁_map t (λ h. h.2)),
  same_bool _ _ (∥∥₁_map t (λ h. h.3)),
  same_side _ _ (∥∥₁_map t (λ h. h.4)),
)

joining-trees : (a b : ℕ → ℕ) (m n : ℕ) (p : Position) (first : Option ℕ) (a1 a2 : FinSet nat_cmp)
    → ∥ AreJoiningTrees a b m n p first a1 a2 ∥₁
    → AreJoiningTrees a b m n p first a1 a2
joining-trees a b m n p first a1 a2 t = record {
  first_claimed = first-claimed m p a1 a2 first (∥∥₁_map t (λ h. h.first_claimed));
  one_free = are_free m p a1 (∥∥₁_map t (λ h. h.one_free));
  two_free = are_free m p a2 (∥∥₁_map t (λ h. h.two_free));
  apart = λ f k. same_bool _ _ (∥∥₁_map t (λ h. h.apart f k));
  one_joins = same_bool _ _ (∥∥₁_map t (λ h. h.one_joins));
  two_joins = same_bool _ _ (∥∥₁_map t (λ h. h.two_joins));
}

parts : (a b : ℕ → ℕ) (m n bound : ℕ) (label : ℕ → ℕ) (p : Position)
    → ∥ AreParts a b m n bound label p ∥₁
    → AreParts a b m n bound label p
parts a b m n bound label p t = record {
  few_taken = less _ _ (∥∥₁_map t (λ h. h.few_taken));
  few_free = less _ _ (∥∥₁_map t (λ h. h.few_free));
}

-- ---- the claim that is chosen

pub chosen-is : (g : SpanGame) (cert : SpanCert) (side : Side) (claim : SpanClaim)
    → chosen_span_claim g cert side ≡ Some claim
    → IsChosen (λ (c : SpanClaim). c.side) (λ (c : SpanClaim). c.turn) cert.claims side g.turn claim
unfolding chosen_span_claim
chosen-is g cert side claim h = known.chosen-is (λ (c : SpanClaim). c.side)
    (λ (c : SpanClaim). c.turn) cert.claims side g.turn claim h

-- what is so of all claims is so of one
at-place : (P : SpanClaim → Type 0) (claims : List SpanClaim) (k : ℕ) (claim : SpanClaim)
    → slice_get claims k ≡ Some claim
    → All P claims
    → P claim
at-place P claims k claim at all =
    let within = slice_get_within claims k claim at in
    let there : Some (get_or claims k claim) ≡ Some claim =
    sym (slice_get-get_or claims k claim within) ∙ at in
    let same : get_or claims k claim ≡ claim = cc in
    subst (λ (c : SpanClaim). P c) same (All-get_or P claims k claim within all)

-- ---- the plan at the game's marks

plan-holds : (g : SpanGame) (claim : SpanClaim) (body : SpanBody)
    → claim.body ≡ body
    → claim.turn ≡ g.turn
    → ∥ IsSpanClaimValid g claim ∥₁
    → IsBodyAt g (span_start g) claim.side body
plan-holds g claim (Trees first a1 a2) is turn t =
    let t2 : ∥ IsBodyAt g (marks_at g claim.turn) claim.side (Trees first a1 a2) ∥₁ = ∥∥₁_map t
    (λ h. subst (λ (b : SpanBody). IsBodyAt g (marks_at g claim.turn) claim.side b) is h) in
    let t3 : ∥ IsBodyAt g (marks_at g g.turn) claim.side (Trees first a1 a2) ∥₁ = ∥∥₁_map t2
    (λ h. subst (λ (s : Side). IsBodyAt g (marks_at g s) claim.side (Trees first a1 a2)) turn h) in
    (same_side _ _ (∥∥₁_map t3 (λ h. h.0)), joining-trees _ _ _ _ _ _ _ _ (∥∥₁_map t3 (λ h. h.1)))
plan-holds g claim (Parts numbers) is turn t =
    let t2 : ∥ IsBodyAt g (marks_at g claim.turn) claim.side (Parts numbers) ∥₁ = ∥∥₁_map t
    (λ h. subst (λ (b : SpanBody). IsBodyAt g (marks_at g claim.turn) claim.side b) is h) in
    let t3 : ∥ IsBodyAt g (marks_at g g.turn) claim.side (Parts numbers) ∥₁ = ∥∥₁_map t2
    (λ h. subst (λ (s : Side). IsBodyAt g (marks_at g s) claim.side (Parts numbers)) turn h) in (
      same_side _ _ (∥∥₁_map t3 (λ h. h.0)),
      (same_number _ _ (∥∥₁_map t3 (λ h. h.1.0)), parts _ _ _ _ _ _ _ (∥∥₁_map t3 (λ h. h.1.1))),
    )

-- so the player is on its plan there
pub on-start : (g : SpanGame) (cert : SpanCert) (side : Side) (claim : SpanClaim) (plan : SpanBody)
    → ∥ IsSpanValid g cert ∥₁
    → chosen_span_claim g cert side ≡ Some claim
    → plan ≡ claim.body
    → IsOnSpanPlan g claim.side (span_start g) plan
on-start g cert side claim plan valid h is =
    let c = chosen-is g cert side claim h in
    let holds = plan-holds g claim plan (sym is) c.turn_is
    (∥∥₁_map valid (at-place (IsSpanClaimValid g) cert.claims c.place claim c.at)) in
    record {
      place = place g g.turn;
      reached = reached-start (span_rules_of g) (span_start g);
      forced = forced-by g claim.side (span_start g) plan (place g g.turn) holds;
      holds = λ _. holds;
    }
