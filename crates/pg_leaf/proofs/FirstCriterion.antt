-- What each criterion answers, and the leaf that shows it.
use Rattle.std.proofs.Common.{◌≡◌, ◌≢◌, ℕ, zero, suc, ◌<◌, ◌%◌, Bool, true, false, ◌&&◌, ◌==◌}
use Rattle.std.proofs.Common.{Option, Some, None, option_map, List, [], ◌∷◌, length, get_or, refl}
use Rattle.std.proofs.Common.{sym, ap, ◌∙◌, subst, inl, inr, arith, if◌then◌else◌}
use Rattle.pg_leaf.proofs.Common.{cases_Bool, false≢true, cond-true, cond-false, and_parts}
use Rattle.pg_leaf.proofs.Common.{and_from, ltb-true, eq-eqb, All, MakerBreaker, MakerMaker}
use Rattle.pg_leaf.proofs.Common.{AvoiderEnforcer, Switching, Pair, Score, Side, Game, Position}
use Rattle.pg_leaf.proofs.Common.{is_over, outcome, outcome_by, has_filled, short_joins, after}
use Rattle.pg_leaf.proofs.Common.{IsPosition, PairsHold, may_attack, LeadsToLine, IsThreatLine}
use Rattle.pg_leaf.proofs.Common.{Criterion, decided, answer_by, first_criterion, at_least, by_end}
use Rattle.pg_leaf.proofs.Common.{claimer, claimed_goal, answer_for, defender, defends, attack_wins}
use Rattle.pg_leaf.proofs.Common.{pairs_exist, IsQuestion, point_count-le, IsPair, shows_defence}
use Rattle.pg_leaf.proofs.Common.{pairs_fit, PotentialFits, Over, Pairs, Potential, Threat}
use Rattle.pg_leaf.proofs.Common.{some≢none, same_some, ByEnd, ByPotential, ByThreat, ByPairs}
use Rattle.pg_base.specs.declared.kind.Kind.{Kind}
use Rattle.pg_base.specs.declared.score.Score.TheVariants.{XWins, Draw, YWins}
use Rattle.pg_base.specs.declared.side.Side.TheVariants.{X, Y}
use Rattle.pg_game.specs.Value.{reaches}
use Rattle.pg_game.specs.Potential.{PotentialHolds, potential_holds}
use Rattle.pg_game.specs.Avoider.{AvoiderHolds, avoider_holds}
use Rattle.pg_game.proofs.ThreatLaws.{near-from, near-range}
use Rattle.pg_leaf.specs.Ahead.{IsKnownAt}
use Rattle.pg_leaf.specs.declared.ahead.Next.{Next}
use Rattle.pg_leaf.specs.Leaf.{IsLeaf, IsAttackLine}

-- ---- the order of the criteria, as tests

chosen : Bool → Bool → Bool → Bool → Option Criterion
chosen a b c d = if a
    then Some ByEnd
    else (if b
    then Some ByPotential
    else (if c then Some ByThreat else (if d then Some ByPairs else None)))

-- what the first answers, where the criteria have these answers
nested : Bool → Bool → Bool → Bool → (Criterion → Bool) → Option Bool
nested a b c d answer = option_map answer (chosen a b c d)

none-chosen : (a b c d : Bool) (answer : Criterion → Bool)
    → nested a b c d answer ≡ None
    → chosen a b c d ≡ None
unfolding nested chosen
none-chosen true b c d answer h = absurd (some≢none h)
none-chosen false true c d answer h = absurd (some≢none h)
none-chosen false false true d answer h = absurd (some≢none h)
none-chosen false false false true answer h = absurd (some≢none h)
none-chosen false false false false answer h = refl

by-first : (a b c d : Bool) (answer : Criterion → Bool)
    → a ≡ true
    → (nested a b c d answer ≡ Some (answer ByEnd)) × (chosen a b c d ≡ Some ByEnd)
unfolding nested chosen
by-first true b c d answer h = (refl, refl)
by-first false b c d answer h = absurd (false≢true h)

by-second : (a b c d : Bool) (answer : Criterion → Bool)
    → a ≡ false
    → b ≡ true
    → (nested a b c d answer ≡ Some (answer ByPotential)) × (chosen a b c d ≡ Some ByPotential)
unfolding nested chosen
by-second true b c d answer g h = absurd (false≢true (sym g))
by-second false false c d answer g h = absurd (false≢true h)
by-second false true c d answer g h = (refl, refl)

by-third : (a b c d : Bool) (answer : Criterion → Bool)
    → a ≡ false
    → b ≡ false
    → c ≡ true
    → (nested a b c d answer ≡ Some (answer ByThreat)) × (chosen a b c d ≡ Some ByThreat)
unfolding nested chosen
by-third true b c d answer f g h = absurd (false≢true (sym f))
by-third false true c d answer f g h = absurd (false≢true (sym g))
by-third false false false d answer f g h = absurd (false≢true h)
by-third false false true d answer f g h = (refl, refl)

by-last : (a b c d : Bool) (answer : Criterion → Bool)
    → a ≡ false
    → b ≡ false
    → c ≡ false
    → (nested a b c d answer ≡ (if d then Some (answer ByPairs) else None))
    × (chosen a b c d ≡ (if d then Some ByPairs else None))
unfolding nested chosen
by-last true b c d answer f g h = absurd (false≢true (sym f))
by-last false true c d answer f g h = absurd (false≢true (sym g))
by-last false false true d answer f g h = absurd (false≢true (sym h))
by-last false false false true answer f g h = (refl, refl)
by-last false false false false answer f g h = (refl, refl)

-- ---- what the criteria answer

module _ (g : Game) (t : Score) (p : Position) where
  pub undecided-criterion : decided g t p ≡ None → first_criterion g t p ≡ None
  unfolding decided first_criterion nested chosen
  undecided-criterion h = none-chosen (is_over g p) (defends g.kind g t p) (attack_wins g p)
      (pairs_exist g p (defender g.kind t)) (answer_by g t p) h

  pub by-end : is_over g p ≡ true
      → (decided g t p ≡ Some (at_least t (outcome g p))) × (first_criterion g t p ≡ Some ByEnd)
  unfolding decided first_criterion nested chosen
  by-end h = by-first (is_over g p) (defends g.kind g t p) (attack_wins g p)
      (pairs_exist g p (defender g.kind t)) (answer_by g t p) h

  pub by-potential : is_over g p ≡ false
      → defends g.kind g t p ≡ true
      → (decided g t p ≡ Some (answer_for (defender g.kind t)))
      × (first_criterion g t p ≡ Some ByPotential)
  unfolding decided first_criterion nested chosen
  by-potential going h = by-second (is_over g p) (defends g.kind g t p) (attack_wins g p)
      (pairs_exist g p (defender g.kind t)) (answer_by g t p) going h

  pub by-threat : is_over g p ≡ false
      → defends g.kind g t p ≡ false
      → attack_wins g p ≡ true
      → (decided g t p ≡ Some (answer_for p.turn)) × (first_criterion g t p ≡ Some ByThreat)
  unfolding decided first_criterion nested chosen
  by-threat going weak h = by-third (is_over g p) (defends g.kind g t p) (attack_wins g p)
      (pairs_exist g p (defender g.kind t)) (answer_by g t p) going weak h

  by-rest : is_over g p ≡ false
      → defends g.kind g t p ≡ false
      → attack_wins g p ≡ false
      → (decided g t p ≡ (if pairs_exist g p (defender g.kind t)
      then Some (answer_for (defender g.kind t)) else None))
      × (first_criterion g t p
      ≡ (if pairs_exist g p (defender g.kind t) then Some ByPairs else None))
  unfolding decided first_criterion nested chosen
  by-rest going weak slow = by-last (is_over g p) (defends g.kind g t p) (attack_wins g p)
      (pairs_exist g p (defender g.kind t)) (answer_by g t p) going weak slow

  pub by-pairs : is_over g p ≡ false
      → defends g.kind g t p ≡ false
      → attack_wins g p ≡ false
      → pairs_exist g p (defender g.kind t) ≡ true
      → (decided g t p ≡ Some (answer_for (defender g.kind t)))
      × (first_criterion g t p ≡ Some ByPairs)
  by-pairs going weak slow h =
      let rest = by-rest going weak slow in
      (rest.0 ∙ cond-true _ _ _ h, rest.1 ∙ cond-true _ _ _ h)

  pub by-none : is_over g p ≡ false
      → defends g.kind g t p ≡ false
      → attack_wins g p ≡ false
      → pairs_exist g p (defender g.kind t) ≡ false
      → decided g t p ≡ None
  by-none going weak slow h = let rest = by-rest going weak slow in rest.0 ∙ cond-false _ _ _ h

-- ---- what a board says of the game and the position at which it stands

pub same-at : {X : Type 0} (f : Game → Position → X) {g h : Game} {p q : Position}
    → h ≡ g
    → q ≡ p
    → f h q ≡ f g p
same-at f games positions = λ i. f (games i) (positions i)

pub line-at : (points : List ℕ) (g h : Game) (p q : Position)
    → h ≡ g
    → q ≡ p
    → IsAttackLine h q points
    → IsAttackLine g p points
line-at points g h p q games positions line = subst (λ (x : Position). IsAttackLine g x points)
    positions (subst (λ (x : Game). IsAttackLine x q points) games line)

pub known-at : (n : Next) (g h : Game) (p q : Position)
    → h ≡ g
    → q ≡ p
    → IsKnownAt g p n
    → IsKnownAt h q n
known-at n g h p q games positions known = subst (λ (x : Game). IsKnownAt x q n) (sym games)
    (subst (λ (x : Position). IsKnownAt g x n) (sym positions) known)

-- ---- the end

claim-reached : (kind : Kind) (t : Score) (x y j : Bool)
    → IsQuestion kind t
    → reaches (claimer (at_least t (outcome_by kind x y j)))
    (claimed_goal kind t (at_least t (outcome_by kind x y j))) (outcome_by kind x y j) ≡ true
claim-reached MakerBreaker XWins true y j ask = refl
claim-reached MakerBreaker XWins false y j ask = refl
claim-reached MakerBreaker Draw x y j ask = absurd ask
claim-reached MakerBreaker YWins x y j ask = absurd ask
claim-reached MakerMaker XWins true y j ask = refl
claim-reached MakerMaker XWins false true j ask = refl
claim-reached MakerMaker XWins false false j ask = refl
claim-reached MakerMaker Draw true y j ask = refl
claim-reached MakerMaker Draw false true j ask = refl
claim-reached MakerMaker Draw false false j ask = refl
claim-reached MakerMaker YWins x y j ask = absurd ask
claim-reached AvoiderEnforcer XWins true y j ask = refl
claim-reached AvoiderEnforcer XWins false y j ask = refl
claim-reached AvoiderEnforcer Draw x y j ask = absurd ask
claim-reached AvoiderEnforcer YWins x y j ask = absurd ask
claim-reached Switching XWins x y true ask = refl
claim-reached Switching XWins x y false ask = refl
claim-reached Switching Draw x y j ask = absurd ask
claim-reached Switching YWins x y j ask = absurd ask

over-parts : (g : Game) (t : Score) (p : Position) (r : Option Bool) (b : Bool)
    → r ≡ by_end g t p
    → r ≡ Some b
    → (is_over g p ≡ true) × (b ≡ at_least t (outcome g p))
over-parts g t p r b is at = elim (cases_Bool (is_over g p)) [
  | inl on ↦ (on, same_some (sym at ∙ is ∙ cond-true _ _ _ on))
  | inr off ↦ absurd (some≢none (sym at ∙ is ∙ cond-false _ _ _ off))
]

pub not-over : (g : Game) (t : Score) (p : Position) (r : Option Bool)
    → r ≡ by_end g t p
    → r ≡ None
    → is_over g p ≡ false
not-over g t p r is at = elim (cases_Bool (is_over g p)) [
  | inl on ↦ absurd (some≢none (sym (cond-true _ _ _ on) ∙ sym is ∙ at))
  | inr off ↦ off
]

pub end-decides : (g : Game) (t : Score) (p : Position) (r : Option Bool) (b : Bool)
    → r ≡ by_end g t p
    → r ≡ Some b
    → Some b ≡ decided g t p
end-decides g t p r b is at =
    let o = over-parts g t p r b is at in
    ap Some o.1 ∙ sym (by-end g t p o.0).0

pub end-leaf : (g : Game) (t : Score) (p : Position) (r : Option Bool) (b : Bool)
    → r ≡ by_end g t p
    → r ≡ Some b
    → IsQuestion g.kind t
    → IsPosition g p
    → IsLeaf g t p b Over
unfolding outcome
end-leaf g t p r b is at ask position =
    let o = over-parts g t p r b is at in
    let reached =
    subst (λ c. reaches (claimer c) (claimed_goal g.kind t c) (outcome g p) ≡ true) (sym o.1)
    (claim-reached g.kind t (has_filled g p X) (has_filled g p Y) (short_joins g p) ask) in
    record {
      holds = λ nodes k. record {
        owes = record {
          position = position;
          allowed = refl;
          turn = tt;
          free = tt;
          end = (o.0, reached);
          pairs = tt;
          potential = tt;
          trees = tt;
          cuts = tt;
          threat = tt;
          version = refl;
        };
        range = tt;
        earlier = tt;
        follows = tt;
      };
      first = sym (by-end g t p o.0).1;
    }

-- ---- potentials

pub claimer-answer : (side : Side) → claimer (answer_for side) ≡ side
claimer-answer X = refl
claimer-answer Y = refl

defence-shown : (kind : Kind) (t : Score)
    → IsQuestion kind t
    → kind ≢ Switching
    → shows_defence kind (claimer (answer_for (defender kind t)))
    (claimed_goal kind t (answer_for (defender kind t))) ≡ true
defence-shown MakerBreaker XWins ask line = refl
defence-shown MakerBreaker Draw ask line = absurd ask
defence-shown MakerBreaker YWins ask line = absurd ask
defence-shown MakerMaker XWins ask line = refl
defence-shown MakerMaker Draw ask line = refl
defence-shown MakerMaker YWins ask line = absurd ask
defence-shown AvoiderEnforcer XWins ask line = refl
defence-shown AvoiderEnforcer Draw ask line = absurd ask
defence-shown AvoiderEnforcer YWins ask line = absurd ask
defence-shown Switching t ask line = absurd (line refl)

breaker-holds : (g : Game) (p : Position) (side : Side)
    → potential_holds g p side ≡ true
    → PotentialHolds g p side
unfolding potential_holds
breaker-holds g p side h = ltb-true _ _ h

avoider-holds : (g : Game) (p : Position) → avoider_holds g p ≡ true → AvoiderHolds g p
unfolding avoider_holds
avoider-holds g p h = ltb-true _ _ h

potential-fits : (g : Game) (p : Position) (kind : Kind) (t : Score)
    → defends kind g t p ≡ true
    → PotentialFits kind g p (claimer (answer_for (defender kind t)))
potential-fits g p MakerBreaker t h = breaker-holds g p Y h
potential-fits g p MakerMaker t h = subst (λ (s : Side). PotentialHolds g p s)
    (sym (claimer-answer (defender MakerMaker t))) (breaker-holds g p (defender MakerMaker t) h)
potential-fits g p AvoiderEnforcer t h = avoider-holds g p h
potential-fits g p Switching t h = absurd (false≢true h)

pub potential-leaf : (g : Game) (t : Score) (p : Position)
    → is_over g p ≡ false
    → defends g.kind g t p ≡ true
    → IsQuestion g.kind t
    → g.kind ≢ Switching
    → IsPosition g p
    → IsLeaf g t p (answer_for (defender g.kind t)) Potential
potential-leaf g t p going h ask line position = record {
  holds = λ nodes k. record {
    owes = record {
      position = position;
      allowed = defence-shown g.kind t ask line;
      turn = tt;
      free = tt;
      end = tt;
      pairs = tt;
      potential = potential-fits g p g.kind t h;
      trees = tt;
      cuts = tt;
      threat = tt;
      version = refl;
    };
    range = tt;
    earlier = tt;
    follows = tt;
  };
  first = sym (by-potential g t p going h).1;
}

-- ---- threat lines

-- the points of a list that leads to a line are points of the game, an odd number of them
leads-range : (g : Game) (p : Position) (side : Side) (points : List ℕ)
    → LeadsToLine g p side points
    → All (λ v. v < 1024) points × (length points % 2 ≡ 1)
leads-range g p side [] h = absurd h
leads-range g p side (v ∷ []) h =
    let r = h.attack.range in
    let most = point_count-le g in
    ((λ k d lt. one v k d lt (omega (arith, r, most))), refl)
  where
    one : (w k d : ℕ) → k < length (w ∷ []) → w < 1024 → get_or (w ∷ []) k d < 1024
    one w zero d lt below = below
    one w (suc k) d lt below = absurd (omega arith)
leads-range g p side (v ∷ (u ∷ others)) h =
    let rest = leads-range g (after g (after g p v) u) side others h.1 in
    let near = near-from g (after g p v) side u h.0.threat in
    let reply = near-range g near.line u near.listed near.on in
    let attack = h.0.attack.range in
    let most = point_count-le g in
    let odd = rest.1 in (
      (λ k d lt. two v u others k d lt (omega (arith, attack, most))
          (omega (arith, reply, most)) rest.0),
      omega (arith, odd),
    )
  where
    two : (w x : ℕ) (ys : List ℕ) (k d : ℕ)
        → k < length (w ∷ (x ∷ ys))
        → w < 1024
        → x < 1024
        → All (λ v. v < 1024) ys
        → get_or (w ∷ (x ∷ ys)) k d < 1024
    two w x ys zero d lt a b each = a
    two w x ys (suc zero) d lt a b each = b
    two w x ys (suc (suc k)) d lt a b each = each k d (omega arith)

pub attack-line : (g : Game) (p : Position) (points others : List ℕ)
    → IsThreatLine g p p.turn others
    → points ≡ others
    → IsAttackLine g p points
attack-line g p points others line same =
    let range = leads-range g p p.turn others line.leads in
    subst (λ (vs : List ℕ). IsAttackLine g p vs) (sym same) (record {
      line = line;
      range = range.0;
      odd = range.1;
    })

threat-allowed : (g : Game) (p : Position) (points : List ℕ)
    → attack_wins g p ≡ true
    → IsThreatLine g p p.turn points
    → (may_attack g.kind (claimer (answer_for p.turn)) && g.bias == 1) ≡ true
unfolding attack_wins
threat-allowed g p points h line = and_from _ _
    (ap (may_attack g.kind) (claimer-answer p.turn) ∙ (and_parts (may_attack g.kind p.turn) _ h).0)
    (eq-eqb g.bias 1 line.single)

pub threat-leaf : (g : Game) (t : Score) (p : Position) (points : List ℕ)
    → is_over g p ≡ false
    → defends g.kind g t p ≡ false
    → attack_wins g p ≡ true
    → IsAttackLine g p points
    → IsPosition g p
    → IsLeaf g t p (answer_for p.turn) (Threat points)
threat-leaf g t p points going weak h line position = record {
  holds = λ nodes k. record {
    owes = record {
      position = position;
      allowed = threat-allowed g p points h line.line;
      turn = sym (claimer-answer p.turn);
      free = tt;
      end = tt;
      pairs = tt;
      potential = tt;
      trees = tt;
      cuts = tt;
      threat =
          subst (λ (s : Side). IsThreatLine g p s points) (sym (claimer-answer p.turn)) line.line;
      version = refl;
    };
    range = (line.range, line.odd);
    earlier = tt;
    follows = tt;
  };
  first = sym (by-threat g t p going weak h).1;
}

-- ---- pairs

pairs-allowed : (g : Game) (kind : Kind)
    → g.kind ≡ kind
    → (t : Score) (p : Position) (pairs : List Pair) (side : Side) → PairsHold g p side pairs
    → pairs_fit kind g.bias ≡ true
pairs-allowed g MakerBreaker e t p pairs side h = refl
pairs-allowed g MakerMaker e t p pairs side h = refl
pairs-allowed g AvoiderEnforcer e t p pairs side h = eq-eqb g.bias 1 (h.avoider e).single
pairs-allowed g Switching e t p pairs side h = refl

pairs-within : (g : Game) (pairs : List Pair) (p : Position) (side : Side)
    → PairsHold g p side pairs
    → All IsPair pairs
pairs-within g pairs p side h k d lt =
    let r = h.apart.range k d lt in
    let most = point_count-le g in
    (omega (arith, r.0, most), omega (arith, r.1, most))

pub pairs-leaf : (g : Game) (t : Score) (p : Position) (pairs : List Pair)
    → is_over g p ≡ false
    → defends g.kind g t p ≡ false
    → attack_wins g p ≡ false
    → pairs_exist g p (defender g.kind t) ≡ true
    → PairsHold g p (defender g.kind t) pairs
    → IsQuestion g.kind t
    → g.kind ≢ Switching
    → IsPosition g p
    → IsLeaf g t p (answer_for (defender g.kind t)) (Pairs pairs)
pairs-leaf g t p pairs going weak slow h hold ask line position = record {
  holds = λ nodes k. record {
    owes = record {
      position = position;
      allowed = and_from _ _ (defence-shown g.kind t ask line)
          (pairs-allowed g g.kind refl t p pairs (defender g.kind t) hold);
      turn = tt;
      free = tt;
      end = tt;
      pairs = subst (λ (s : Side). PairsHold g p s pairs)
          (sym (claimer-answer (defender g.kind t))) hold;
      potential = tt;
      trees = tt;
      cuts = tt;
      threat = tt;
      version = refl;
    };
    range = pairs-within g pairs p (defender g.kind t) hold;
    earlier = tt;
    follows = tt;
  };
  first = sym (by-pairs g t p going weak slow h).1;
}
