-- Pairs that hold force the claim: a win for Breaker and for Avoider, and a draw at least for
-- either side of Maker-Maker.
use Rattle.std.proofs.Common.{◌≡◌, ◌≢◌, ℕ, ◌<◌, ◌≤◌, true, false, List, Option, Some, None, refl}
use Rattle.std.proofs.Common.{sym, ap, ◌∙◌, subst, inl, inr, ◌⊎◌, arith}
use Rattle.pg_pairing.proofs.Common.{ShareNone, Win, Kind, MakerBreaker, MakerMaker}
use Rattle.pg_pairing.proofs.Common.{AvoiderEnforcer, Pair, Side, X, Y, other, Game, Position}
use Rattle.pg_pairing.proofs.Common.{is_free, claims_in_turn, point_count, bias_of, has_filled}
use Rattle.pg_pairing.proofs.Common.{is_over, outcome, after, IsPosition, PairsHold, breaker_of}
use Rattle.pg_pairing.proofs.Common.{pairs_answer, reaches, Forces, is_full-one, side≢other}
use Rattle.pg_pairing.proofs.Common.{turn-replied, IsPosition-after}
use Rattle.pg_base.specs.declared.goal.Goal.{Goal}
use Rattle.pg_base.specs.declared.goal.Goal.TheVariants.{Draw as AtLeastDraw}
use Rattle.pg_game.specs.Strategy.{Keeps}
use Rattle.pg_game.proofs.Strategy.{Forces-from_keeps, free_point}
use Rattle.pg_game.proofs.Unfilled.{unfilled-breaker, unfilled-draw, unfilled-avoider, maker_bias}
use Rattle.pg_pairing.specs.Rest.{ArePairsOf, rest, RestHolds, MayClaim, HeldBefore}
use Rattle.pg_pairing.proofs.OpenPairs.{RestHolds-from, ArePairsOf-from, breaker_of-same}
use Rattle.pg_pairing.proofs.OpenPairs.{breaker_of-avoider, unfilled-held, unfilled-replied}
use Rattle.pg_pairing.proofs.AnswerLaws.{avoider_or_not, answer-free, RestHolds-enforcer}
use Rattle.pg_pairing.proofs.AnswerLaws.{keeps_replied, keeps_unreplied}

-- the other side claims one point a turn
abbrev ClaimsOne : Game → Side → Type 0
ClaimsOne g side = (p : Position) → IsPosition g p → p.turn ≡ side → p.left ≤ 1

module _ (g : Game) (side : Side) (claims : MayClaim g.kind side)
    (single : ClaimsOne g (other side)) where
  -- the other side has just replied to a position where the rest of the pairs held
  record Replied (p : Position) (pairs : List Pair) : Type 0 where
    pub reply : Option ℕ
    pub mine : p.turn ≡ side
    pub held : HeldBefore g p side pairs reply

  -- the rest of some pairs holds, or did before the other side's last point
  record Paired (p : Position) : Type 0 where
    pub position : IsPosition g p
    pub pairs : List Pair
    pub are : ArePairsOf g pairs
    pub state : RestHolds g p side pairs ⊎ Replied p pairs

  -- ---- where the game is over

  unfilled-after : (q : Position) (v : ℕ) (pairs : List Pair)
      → q.turn ≡ other side
      → (after g q v).turn ≡ side
      → v < point_count g
      → is_free q v ≡ true
      → ShareNone (after g q v).x (after g q v).y
      → RestHolds g q side pairs
      → has_filled g (after g q v) (other (breaker_of g.kind side)) ≡ false
  unfilled-after q v pairs theirs mine within free disjoint h = elim (avoider_or_not g.kind) [
    | inl kind ↦
        let is_x = claims kind in
        let h_after = RestHolds-enforcer g side q pairs v kind (theirs ∙ ap other is_x)
        (mine ∙ is_x) h within free in
        unfilled-held g side (after g q v) disjoint (rest (after g q v) pairs) h_after
    | inr kind ↦ unfilled-replied g side q v (rest q pairs)
        (theirs ∙ ap other (sym (breaker_of-same g.kind side kind))) disjoint h
  ]

  unfilled : (p : Position) → Paired p → has_filled g p (other (breaker_of g.kind side)) ≡ false
  unfilled p i = elim i.state [
    | inl h ↦ unfilled-held g side p i.position.disjoint (rest p i.pairs) h
    | inr r ↦
        let b = r.held in
        let P : Position → Type 0 = λ q. q.turn ≡ side → ShareNone q.x q.y
        → has_filled g q (other (breaker_of g.kind side)) ≡ false in
        subst P (sym b.leads)
        (λ mine disjoint. unfilled-after b.before b.reply i.pairs b.theirs mine b.within b.free
        disjoint b.held) r.mine i.position.disjoint
  ]

  -- ---- moves

  Answer : Position → Type 0
  Answer p = (v : ℕ) × (v < point_count g) × (is_free p v ≡ true) × Paired (after g p v)

  -- an answer after which the rest holds
  answered : (p : Position)
      → (i : Paired p) → is_over g p ≡ false
      → (last : Option ℕ) → RestHolds g (after g p (pairs_answer g p i.pairs last)) side i.pairs
      → Answer p
  unfolding Answer
  answered p i going last h =
      let point = free_point g p going in
      let here = answer-free g p i.pairs last i.are (is_full-one g p point.0 point.1 point.2) in
      let w = pairs_answer g p i.pairs last in (
        w,
        here.0,
        here.1,
        record {
          position = IsPosition-after g p w i.position here.0 here.1;
          pairs = i.pairs;
          are = i.are;
          state = inl h;
        },
      )

  own : (p : Position) → Paired p → is_over g p ≡ false → p.turn ≡ side → Answer p
  own p i going mine = elim i.state [
    | inl h ↦
        answered p i going None (keeps_unreplied g side p i.pairs claims i.position i.are mine h)
    | inr r ↦ answered p i going r.reply
        (keeps_replied g side p i.pairs r.reply claims i.position i.are mine r.held)
  ]

  theirs : (p : Position)
      → Paired p
      → p.turn ≡ other side
      → (v : ℕ) → v < point_count g
      → is_free p v ≡ true
      → Paired (after g p v)
  theirs p i yours v within free = elim i.state [
    | inl h ↦ record {
      position = IsPosition-after g p v i.position within free;
      pairs = i.pairs;
      are = i.are;
      state = inr (record {
        reply = Some v;
        mine = turn-replied g p side v (single p i.position yours) yours;
        held = record {
          before = p;
          reply = v;
          last_is = refl;
          theirs = yours;
          within = within;
          free = free;
          leads = refl;
          held = h;
        };
      });
    }
    | inr r ↦ absurd (side≢other side (sym r.mine ∙ yours))
  ]

  keeps-paired : (goal : Goal)
      → ((p : Position) → has_filled g p (other (breaker_of g.kind side)) ≡ false
      → reaches side goal (outcome g p) ≡ true)
      → Keeps g side goal Paired
  unfolding Answer
  keeps-paired goal good = record {
    ends = λ p i over. good p (unfilled p i);
    own = λ p i going mine. own p i going mine;
    theirs = λ p i going yours v within free. theirs p i yours v within free;
  }

  Forces-paired : (goal : Goal)
      → ((p : Position) → has_filled g p (other (breaker_of g.kind side)) ≡ false
      → reaches side goal (outcome g p) ≡ true)
      → (p : Position) (pairs : List Pair) → IsPosition g p
      → PairsHold g p side pairs
      → Forces g p side goal
  Forces-paired goal good p pairs position h =
      Forces-from_keeps g side goal (keeps-paired goal good) p (record {
        position = position;
        pairs = pairs;
        are = ArePairsOf-from g p side pairs h;
        state = inl (RestHolds-from g p side pairs h);
      })

-- ---- Maker-Breaker

maker_claims_one : (g : Game) → ClaimsOne g X
maker_claims_one g p position turn =
    subst (λ (s : Side). p.left ≤ bias_of g s) turn position.few_left

-- Breaker wins, whoever is to move and however many points it claims a turn
pub Forces-pairs_breaker : (g : Game) (p : Position) (pairs : List Pair)
    → g.kind ≡ MakerBreaker
    → IsPosition g p
    → PairsHold g p Y pairs
    → Forces g p Y Win
Forces-pairs_breaker g p pairs kind position h =
    let guard : breaker_of g.kind Y ≡ Y = ap (λ (k : Kind). breaker_of k Y) kind in
    Forces-paired g Y (λ e. absurd (breaker≢avoider (sym kind ∙ e))) (maker_claims_one g) Win
    (λ q none. unfilled-breaker g q kind
    (sym (ap (λ (s : Side). has_filled g q (other s)) guard) ∙ none)) p pairs position h
  where
    breaker≢avoider : MakerBreaker ≢ AvoiderEnforcer
    breaker≢avoider e = cc

-- ---- Maker-Maker

one_bias : (g : Game) (side : Side) → g.bias ≡ 1 → ClaimsOne g side
one_bias g side one p position turn = few p.turn position.few_left
  where
    few : (s : Side) → p.left ≤ claims_in_turn g.bias s → p.left ≤ 1
    few X h = h
    few Y h = omega (arith, h, one)

-- either side gets a draw at least, whoever is to move
pub Forces-pairs_draw : (g : Game) (p : Position) (side : Side) (pairs : List Pair)
    → g.kind ≡ MakerMaker
    → IsPosition g p
    → PairsHold g p side pairs
    → Forces g p side AtLeastDraw
Forces-pairs_draw g p side pairs kind position h =
    let guard : breaker_of g.kind side ≡ side = ap (λ (k : Kind). breaker_of k side) kind in
    Forces-paired g side (λ e. absurd (maker≢avoider (sym kind ∙ e)))
    (one_bias g (other side) (maker_bias g kind)) AtLeastDraw
    (λ q none. unfilled-draw g side q kind
    (sym (ap (λ (s : Side). has_filled g q (other s)) guard) ∙ none)) p pairs position h
  where
    maker≢avoider : MakerMaker ≢ AvoiderEnforcer
    maker≢avoider e = cc

-- ---- Avoider-Enforcer

-- Avoider wins, whoever is to move
pub Forces-pairs_avoider : (g : Game) (p : Position) (pairs : List Pair)
    → g.kind ≡ AvoiderEnforcer
    → IsPosition g p
    → PairsHold g p X pairs
    → Forces g p X Win
Forces-pairs_avoider g p pairs kind position h =
    let guard = breaker_of-avoider g.kind X kind in
    Forces-paired g X (λ e. refl) (one_bias g Y (h.avoider kind).single) Win
    (λ q none. unfilled-avoider g q kind
    (sym (ap (λ (s : Side). has_filled g q (other s)) guard) ∙ none)) p pairs position h
