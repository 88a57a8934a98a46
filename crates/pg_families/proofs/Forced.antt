-- Claims of families' games that are said are forced.
use Rattle.std.proofs.Common.{◌≡◌, ℕ, zero, suc, List, [], ◌∷◌, length, slice_get, Option, Some}
use Rattle.std.proofs.Common.{Result, Ok, Err, refl, sym, ap, subst, arith}
use Rattle.pg_families.proofs.Common.{All, All-head, All-tail, Goal, Win, Side, Bytes, ForcesBy}
use Rattle.pg_families.proofs.Common.{printed_certificate, Cert, Claim, Class, Short, Cut, marks_at}
use Rattle.pg_families.proofs.Common.{span_rules_of, IsSpanClaimValid, IsSpanValid, SpanCert}
use Rattle.pg_families.proofs.Common.{SpanClaim, SpanGame, SpanClass, Maker, Breaker, First}
use Rattle.pg_families.proofs.Common.{IsVecClaimValid, IsVecValid, at_turn, vector_rules, span_game}
use Rattle.pg_families.proofs.Common.{vector_game, printed_span, span_entry, vector_entry, Family}
use Rattle.pg_families.proofs.Common.{Connectivity, Vectors, FamilyTask, Solve, Check, Play, Done}
use Rattle.pg_families.proofs.Common.{End, certificate_held, Halt}
use Rattle.std.proofs.lemmas.Option.{none-some}
use Rattle.pg_base.proofs.Stands.{same_some}
use Rattle.pg_cert.specs.declared.cert.Version.{Version}
use Rattle.pg_cert.specs.declared.node.Node.{Node}
use Rattle.pg_lehman.specs.declared.class.Class.TheVariants.{First as FirstSets}
use Rattle.pg_span.proofs.Opening as span_opening
use Rattle.pg_gf2.specs.declared.flaw.VecFlaw.TheVariants as flaws
use Rattle.pg_gf2.specs.declared.game.VecGame.{VecGame}
use Rattle.pg_vec_player.proofs.Opening as vector_opening
use Rattle.pg_families.specs.Connectivity.{HasSpanClaim, SolvesSpan, span_both_held, span_cert_held}
use Rattle.pg_families.specs.Connectivity.{span_class_text, span_contender, span_held}
use Rattle.pg_families.specs.Vectors.{HasVecClaim, SolvesVectors, vec_class_text, vec_contender}
use Rattle.pg_families.specs.Vectors.{vectors_both_held, vectors_held}
use Rattle.pg_families.specs.Family.{ActsInFamily, AreForcedInFamily, IsForcedInFamily}
use Rattle.pg_families.specs.Family.{IsForcedInFamilyFrom, SaysSpanGame, SaysVectorGame}
use Rattle.pg_families.proofs.Announced.{AreOther, accepts_forced, apart, delivers_other, first_ok}
use Rattle.pg_families.proofs.Announced.{held_there, one_other, others_forced, plays_forced}

-- each valid claim of a connectivity game is forced
abbrev pub SpanClaimsForce : Type 0
SpanClaimsForce = (g : SpanGame) → (claim : SpanClaim) → IsSpanClaimValid g claim
    → ForcesBy (span_rules_of g) (marks_at g claim.turn) claim.side Win

-- and each of a valid certificate for a game on vectors
abbrev pub VectorClaimsAreForced : Type 0
VectorClaimsAreForced = (g : VecGame) → (c : Cert) → IsVecValid g c
    → (i : ℕ) → (claim : Claim) → slice_get c.claims i ≡ Some claim
    → ForcesBy (vector_rules g) (at_turn g claim.turn) claim.side Win

-- what is so of all members is so of one
all_at : {A : Type 0} (P : A → Type 0) (xs : List A) (i : ℕ) (x : A)
    → slice_get xs i ≡ Some x
    → All P xs
    → P x
all_at P [] i x at all = absurd (none-some x at)
all_at P (y ∷ ys) zero x at all = subst (λ z. P z) (same_some at) (All-head P y ys all)
all_at P (y ∷ ys) (suc i) x at all = all_at P ys i x at (All-tail P y ys all)

-- ---- connectivity games

span_said : (game certificate : Option Bytes) (g : SpanGame) (c : SpanCert)
    → span_both_held game certificate ≡ Ok (span_entry g, c)
    → SaysSpanGame game g
span_said game certificate g c is =
    let (text, held, said) = held_there _ span_game game (span_entry g)
    (first_ok (span_held game) (span_cert_held certificate) (span_entry g) c is) in
    record { text = text; held = held; said = said }

span_class_other : (class : SpanClass) → AreOther (span_class_text class ∷ [])
span_class_other Maker = one_other (span_class_text Maker) (apart _ 97 refl, apart _ 109 refl)
span_class_other Breaker = one_other (span_class_text Breaker) (apart _ 97 refl, apart _ 109 refl)
span_class_other First = one_other (span_class_text First) (apart _ 97 refl, apart _ 109 refl)

span_solved : (game : Option Bytes) (read : Result _ Halt) (name : Bytes) (done : Done) (end : End)
    → SolvesSpan read name done end
    → AreForcedInFamily Connectivity game done.entries
span_solved game (Err halt) name done end solves = absurd solves
span_solved game (Ok e) name done end (g, said, (class, c, shown, delivers)) =
    others_forced (IsForcedInFamilyFrom Connectivity game)
    (IsForcedInFamily Connectivity game) done.entries (delivers_other (
      name,
      printed_span c,
    ) (span_class_text class ∷ []) done end (span_class_other class) delivers)

module _ (force : SpanClaimsForce) where
  span_valid : (g : SpanGame) (c : SpanCert)
      → IsSpanValid g c
      → (i : ℕ) (claim : SpanClaim) → slice_get c.claims i ≡ Some claim
      → ForcesBy (span_rules_of g) (marks_at g claim.turn) claim.side Win
  span_valid g c valid i claim at =
      force g claim (all_at (IsSpanClaimValid g) c.claims i claim at valid)

  -- the claim that is chosen is forced from the position
  span_chosen : (side : Side) (g : SpanGame) (c : SpanCert)
      → IsSpanValid g c
      → HasSpanClaim side g c
      → ForcesBy (span_rules_of g) (marks_at g g.turn) side Win
  span_chosen side g c valid (claim, is) =
      let one = span_opening.chosen-is g c side claim is in
      subst (λ (s : Side). ForcesBy (span_rules_of g) (marks_at g g.turn) s Win) one.side_is
      (subst (λ (turn : Side). ForcesBy (span_rules_of g) (marks_at g turn) claim.side Win)
      one.turn_is (span_valid g c valid one.place claim one.at))

-- ---- games on vectors

vectors_said : (game certificate : Option Bytes) (g : VecGame) (c : Cert)
    → vectors_both_held game certificate ≡ Ok (vector_entry g, c)
    → SaysVectorGame game g
vectors_said game certificate g c is =
    let (text, held, said) = held_there _ vector_game game (vector_entry g)
    (first_ok (vectors_held game) (certificate_held certificate) (vector_entry g) c is) in
    record { text = text; held = held; said = said }

vec_class_other : (class : Class) → AreOther (vec_class_text class ∷ [])
vec_class_other (Short a1 a2) =
    one_other (vec_class_text (Short a1 a2)) (apart _ 97 refl, apart _ 109 refl)
vec_class_other (Cut d1 d2) =
    one_other (vec_class_text (Cut d1 d2)) (apart _ 97 refl, apart _ 109 refl)
vec_class_other (FirstSets a1 a2 d1 d2) =
    one_other (vec_class_text (FirstSets a1 a2 d1 d2)) (apart _ 97 refl, apart _ 109 refl)

vectors_solved : (game : Option Bytes) (read : Result _ Halt) (name : Bytes) (done : Done)
    (end : End)
    → SolvesVectors read name done end
    → AreForcedInFamily Vectors game done.entries
vectors_solved game (Err halt) name done end solves = absurd solves
vectors_solved game (Ok e) name done end (g, said, (sets, c, shown, delivers)) =
    others_forced (IsForcedInFamilyFrom Vectors game) (IsForcedInFamily Vectors game) done.entries
    (delivers_other (name, printed_certificate c) (vec_class_text sets ∷ []) done end
    (vec_class_other sets) delivers)

-- a valid claim claims a win
wins : (g : VecGame) (version : Version) (claim : Claim)
    → IsVecClaimValid g version claim
    → claim.goal ≡ Win
wins g version claim valid = go claim.nodes refl where
  go : (nodes : List Node) → claim.nodes ≡ nodes → claim.goal ≡ Win
  go [] is =
      let none = ap length is in
      let one = valid.one_node in
      absurd (omega (arith, none, one))
  go (node ∷ nodes) is =
      (valid.sound node (ap (λ (ns : List Node). slice_get ns 0) is) flaws.Claimer).1

module _ (forced : VectorClaimsAreForced) where
  vec_valid : (g : VecGame) (c : Cert)
      → IsVecValid g c
      → (i : ℕ) (claim : Claim) → slice_get c.claims i ≡ Some claim
      → ForcesBy (vector_rules g) (at_turn g claim.turn) claim.side claim.goal
  vec_valid g c valid i claim at =
      subst (λ (k : Goal). ForcesBy (vector_rules g) (at_turn g claim.turn) claim.side k)
      (sym (wins g c.version claim (valid i claim at))) (forced g c valid i claim at)

  -- the claim that is chosen is forced from the position
  vec_chosen : (side : Side) (g : VecGame) (c : Cert)
      → IsVecValid g c
      → HasVecClaim side g c
      → ForcesBy (vector_rules g) (at_turn g g.turn) side Win
  vec_chosen side g c valid (claim, is) =
      let one = vector_opening.chosen-is g c side claim is in
      subst (λ (s : Side). ForcesBy (vector_rules g) (at_turn g g.turn) s Win) one.side_is
      (subst (λ (turn : Side). ForcesBy (vector_rules g) (at_turn g turn) claim.side Win)
      one.turn_is (forced g c valid one.place claim one.at))

-- ---- all tasks

module _ (force : SpanClaimsForce) (forced : VectorClaimsAreForced) where
  pub announced : (family : Family) (task : FamilyTask) (game certificate : Option Bytes)
      (name : Bytes) (done : Done) (end : End)
      → ActsInFamily family task game certificate name done end
      → AreForcedInFamily family game done.entries
  announced Connectivity Solve game certificate name done end solves =
      span_solved game (span_held game) name done end solves
  announced Connectivity Check game certificate name done end acts =
      accepts_forced (IsForcedInFamilyFrom Connectivity game)
      (IsForcedInFamily Connectivity game) span_entry IsSpanValid (λ (k : SpanClaim). k.turn)
      (λ (k : SpanClaim). k.side) (λ (k : SpanClaim). Win) (λ (c : SpanCert). c.claims)
      (span_both_held game certificate) done.entries end (λ g c is valid i claim at. (
        g,
        span_said game certificate g c is,
        span_valid force g c valid i claim at,
      )) acts.0
  announced Connectivity (Play side) game certificate name done end acts =
      plays_forced (IsForcedInFamilyFrom Connectivity game) (IsForcedInFamily Connectivity game)
      span_entry IsSpanValid (HasSpanClaim side) (span_contender side)
      (span_both_held game certificate) done.entries end (λ g c is valid has. (
        g,
        span_said game certificate g c is,
        span_chosen force side g c valid has,
      )) acts.0
  announced Vectors Solve game certificate name done end solves =
      vectors_solved game (vectors_held game) name done end solves
  announced Vectors Check game certificate name done end acts =
      accepts_forced (IsForcedInFamilyFrom Vectors game)
      (IsForcedInFamily Vectors game) vector_entry IsVecValid (λ (k : Claim). k.turn)
      (λ (k : Claim). k.side) (λ (k : Claim). k.goal) (λ (c : Cert). c.claims)
      (vectors_both_held game certificate) done.entries end (λ g c is valid i claim at. (
        g,
        vectors_said game certificate g c is,
        vec_valid forced g c valid i claim at,
      )) acts.0
  announced Vectors (Play side) game certificate name done end acts =
      plays_forced (IsForcedInFamilyFrom Vectors game) (IsForcedInFamily Vectors game) vector_entry
      IsVecValid (HasVecClaim side) (vec_contender side)
      (vectors_both_held game certificate) done.entries end (λ g c is valid has. (
        g,
        vectors_said game certificate g c is,
        vec_chosen forced side g c valid has,
      )) acts.0
