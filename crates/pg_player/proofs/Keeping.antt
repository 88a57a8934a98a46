-- What an own move keeps, body by body.
use Rattle.std.proofs.Common.{◌≡◌, ◌≢◌, ◌∙◌, ℕ, ◌<◌, Bool, true, false, ◌&&◌, ◌==◌, ◌+◌, suc, List}
use Rattle.std.proofs.Common.{[], ◌∷◌, drop, get_or, length, arith, Option, Some, refl, sym}
use Rattle.std.proofs.Common.{ap, subst, subst₂, inl, inr, ◌⊎◌, eqb-true}
use Rattle.pg_player.proofs.Common.{cases_Bool, cases_lt, and_parts, false≢true, FinSet, nat_cmp}
use Rattle.pg_player.proofs.Common.{KeepsRest}
use Rattle.pg_player.proofs.Common.{other, Goal, Win, Kind, MakerBreaker, MakerMaker}
use Rattle.pg_player.proofs.Common.{AvoiderEnforcer, Switching, Pair, Side, X, Y, Field, Lines}
use Rattle.pg_player.proofs.Common.{Game, Position, is_free, point_count, is_over, outcome, after}
use Rattle.pg_player.proofs.Common.{IsPosition, reaches, Forces, pairs_answer, PotentialHolds}
use Rattle.pg_player.proofs.Common.{potential_answer, AvoiderHolds, avoider_answer, may_attack}
use Rattle.pg_player.proofs.Common.{LeadsToLine, IsAttack, IsAttacking, unfilled-going}
use Rattle.pg_player.proofs.Common.{over-filling, Forces-attacked, Answered, TreesHold, CutsHold}
use Rattle.pg_player.proofs.Common.{turn-after_x, IsPosition-after, Forces-over, Forces-all}
use Rattle.pg_player.proofs.Common.{Forces-any, rest, RestHolds, MayClaim}
use Rattle.pg_player.proofs.Common.{Forces-potential_breaker, Forces-potential_draw, Forces-avoider}
use Rattle.pg_player.proofs.Common.{IsSwitchingTurn, HeldUntil, LeavesHeld, IsTreesAnswer}
use Rattle.pg_player.proofs.Common.{IsCutsAnswer, Claim, Body, Move, Pairs, Potential, Trees, Cuts}
use Rattle.pg_player.proofs.Common.{Threat, Standing, own_move, arrives, stays, potential_point}
use Rattle.pg_player.proofs.Common.{trees_point, cuts_point, stays_with_trees, stays_with_cuts}
use Rattle.pg_player.proofs.Common.{is_allowed, shows_defence, shows_trees, shows_cuts, pairs_fit}
use Rattle.pg_player.proofs.Common.{PotentialFits, with_e_named, pairs_at}
use Rattle.std.proofs.lemmas.List.{drop_all}
use Rattle.std.proofs.Math.Seq.{drop-cons}
use Rattle.pg_base.specs.declared.goal.Goal.TheVariants.{Draw as AtLeastDraw}
use Rattle.pg_base.specs.declared.score.Score.TheVariants.{XWins}
use Rattle.pg_game.specs.declared.field.Field.TheVariants.{Graph as OnGraph}
use Rattle.pg_switch.proofs.SwitchLaws.{Forces-trees, Forces-cuts}
use Rattle.pg_player.specs.InPlay.{PotentialWaiting, MustReply, Waiting, InPlay, KeepsUp}
use Rattle.pg_player.proofs.Plays.{single, not-again}
use Rattle.pg_player.proofs.Arriving.{goes_on, arrived}

-- ---- goals

-- a forced win of one side serves any goal of the side that it is
any_goal-is : (g : Game) (p : Position) (side s : Side) (goal : Goal)
    → side ≡ s
    → Forces g p s Win
    → Forces g p side goal
any_goal-is g p side s goal e h =
    Forces-any g p side goal (subst (λ (t : Side). Forces g p t Win) (sym e) h)

-- ---- a node's own move

pub keeps-move : (g : Game) (c : Claim) (p : Position) (point child : ℕ) (last : Option ℕ)
    (next : Standing)
    → InPlay g c (record { body = Move point child; last = last; imagined = p })
    → is_over g p ≡ false
    → p.turn ≡ c.side
    → arrives c.nodes child ≡ Some next
    → KeepsUp g c (record { body = Move point child; last = last; imagined = p }) point next
unfolding own_move
keeps-move g c p point child last next h going mine comes =
    let may = h.stands.ready going mine in
    record {
      own = ap (λ (o : Option Standing). Some (record { point = point; next = o })) comes;
      within = may.within;
      free = may.free;
      on = arrived g c child (after g p point) next h.sound may.next comes;
    }

-- ---- pairs

defends : (kind : Kind) (bias : ℕ) (side : Side) (goal : Goal)
    → (shows_defence kind side goal && pairs_fit kind bias) ≡ true
    → kind ≡ AvoiderEnforcer
    → side ≡ X
defends MakerBreaker bias side goal ok e = cc
defends MakerMaker bias side goal ok e = cc
defends AvoiderEnforcer bias X goal ok e = refl
defends AvoiderEnforcer bias Y goal ok e = absurd (false≢true ok)
defends Switching bias side goal ok e = cc

-- where pairs are allowed, only Breaker may claim several points a turn
breaker_only : (g : Game) (kind : Kind) (side : Side) (goal : Goal)
    → g.kind ≡ kind
    → (shows_defence kind side goal && pairs_fit kind g.bias) ≡ true
    → (kind ≡ MakerBreaker) ⊎ (g.bias ≡ 1)
breaker_only g MakerBreaker side goal e ok = inl refl
breaker_only g MakerMaker side goal e ok = inr (single g MakerMaker e refl)
breaker_only g AvoiderEnforcer X goal e ok = inr (eqb-true g.bias 1 ok)
breaker_only g AvoiderEnforcer Y goal e ok = absurd (false≢true ok)
breaker_only g Switching side goal e ok = absurd (false≢true ok)

-- what the answer by pairs keeps
pub record PairsKept (g : Game) (p : Position) (pairs : List Pair) (last : Option ℕ)
    (v : ℕ) : Type 0 where
  pub rule : v ≡ pairs_answer g p pairs last
  pub within : v < point_count g
  pub free : is_free p v ≡ true
  pub keeps : KeepsRest g p pairs last v

pub keeps-pairs : (g : Game) (c : Claim) (p : Position) (pairs : List Pair) (last : Option ℕ)
    (v : ℕ)
    → InPlay g c (record { body = Pairs pairs; last = last; imagined = p })
    → is_over g p ≡ false
    → p.turn ≡ c.side
    → PairsKept g p pairs last v
    → KeepsUp g c (record { body = Pairs pairs; last = last; imagined = p }) v (record {
      body = Pairs pairs;
      last = last;
      imagined = after g p v;
    })
unfolding own_move
keeps-pairs g c p pairs last v h going mine k =
    let next = IsPosition-after g p v h.position k.within k.free in
    let may : MayClaim g.kind c.side = defends g.kind g.bias c.side c.goal h.stands.allowed in
    let due = h.stands.ready going mine in
    let holds : RestHolds g (after g p v) c.side pairs = elim due.state [
      | inl b ↦ k.keeps.replied c.side may mine b
      | inr other ↦ elim other [
        | inl none ↦ k.keeps.unreplied c.side may mine none.0 none.1
        | inr breaker ↦ k.keeps.in_turn c.side breaker.0 mine breaker.1
      ]
    ] in
    record {
      own = ap (λ (q : ℕ). stays g p q (Pairs pairs) last) (sym k.rule);
      within = k.within;
      free = k.free;
      on = goes_on g c (after g p v) (Pairs pairs) last h.sound next
          (pairs_at g.kind g.bias c.side c.goal g (after g p v)
          (rest (after g p v) pairs) refl h.stands.allowed next holds) (record {
            allowed = h.stands.allowed;
            ready = λ on again. record {
              are = due.are;
              state = inr (inr (elim (breaker_only g g.kind c.side c.goal refl h.stands.allowed) [
                | inl kind ↦ (kind, holds)
                | inr one ↦ absurd (not-again g p c.side v one h.position mine again)
              ]));
            };
            waiting = λ on theirs. record { are = due.are; holds = holds };
          });
    }

-- ---- threat lines

-- where threat lines are allowed, the side may attack and each side claims one point a turn
pub threat_kind : (kind : Kind) (side : Side) (bias : ℕ)
    → (may_attack kind side && bias == 1) ≡ true
    → (may_attack kind side ≡ true) × (bias ≡ 1)
threat_kind kind side bias ok =
    let parts = and_parts (may_attack kind side) _ ok in
    (parts.0, eqb-true bias 1 parts.1)

-- a player that is to attack
pub attacking : (g : Game) (c : Claim) (s : Standing)
    → may_attack g.kind c.side ≡ true
    → InPlay g c s
    → is_over g s.imagined ≡ false
    → s.imagined.turn ≡ c.side
    → IsAttacking g s.imagined c.side
attacking g c s may h going mine = record {
  position = h.position;
  turn = mine;
  unfilled = unfilled-going g c.side may s.imagined going;
}

-- what the other side must do after an attack while the game goes on
must-reply : (g : Game) (p : Position) (side : Side) (v : ℕ) (points : List ℕ)
    → g.bias ≡ 1
    → may_attack g.kind side ≡ true
    → IsAttacking g p side
    → LeadsToLine g p side (v ∷ points)
    → is_over g (after g p v) ≡ false
    → MustReply g (after g p v) side points
must-reply g p side v [] one may h leads on =
    absurd (false≢true (sym on ∙ over-filling g side one may p v h leads))
must-reply g p side v (u ∷ others) one may h leads on = (leads.0.threat, leads.0.safe, leads.1)

attack-at : (g : Game) (p : Position) (side : Side) (v : ℕ) (points : List ℕ)
    → LeadsToLine g p side (v ∷ points)
    → IsAttack g p v
attack-at g p side v [] leads = leads.attack
attack-at g p side v (u ∷ others) leads = leads.0.attack

-- the next attack
pub keeps-threat : (g : Game) (c : Claim) (p : Position) (v : ℕ) (points : List ℕ) (last : Option ℕ)
    → InPlay g c (record { body = Threat (v ∷ points); last = last; imagined = p })
    → is_over g p ≡ false
    → p.turn ≡ c.side
    → KeepsUp g c (record { body = Threat (v ∷ points); last = last; imagined = p }) v (record {
      body = Threat points;
      last = last;
      imagined = after g p v;
    })
unfolding own_move
keeps-threat g c p v points last h going mine =
    let ok = threat_kind g.kind c.side g.bias h.stands.allowed in
    let leads = h.stands.ready going mine in
    let at = attack-at g p c.side v points leads in
    let to_move = attacking g c (record {
      body = Threat (v ∷ points);
      last = last;
      imagined = p;
    }) ok.0 h going mine in
    record {
      own = refl;
      within = at.range;
      free = at.free;
      on = goes_on g c (after g p v) (Threat points) last h.sound
          (IsPosition-after g p v h.position at.range at.free)
          (Forces-any g (after g p v) c.side c.goal
          (Forces-attacked g c.side ok.1 ok.0 v points p to_move leads)) (record {
            allowed = h.stands.allowed;
            ready = λ on again. absurd (not-again g p c.side v ok.1 to_move.position mine again);
            waiting = λ on theirs. must-reply g p c.side v points ok.1 ok.0 to_move leads on;
          });
    }

-- ---- potentials

breaker_is_y : (side : Side) (goal : Goal) → shows_defence MakerBreaker side goal ≡ true → side ≡ Y
breaker_is_y X goal ok = absurd (false≢true ok)
breaker_is_y Y goal ok = refl

drawer : (side : Side) (goal : Goal)
    → shows_defence MakerMaker side goal ≡ true
    → goal ≡ AtLeastDraw
drawer side Win ok = absurd (false≢true ok)
drawer side AtLeastDraw ok = refl

avoider_is_x : (side : Side) (goal : Goal)
    → shows_defence AvoiderEnforcer side goal ≡ true
    → side ≡ X
avoider_is_x X goal ok = refl
avoider_is_x Y goal ok = absurd (false≢true ok)

-- a point by the potential that holds after it
weighed : (g : Game) (c : Claim) (p : Position) (last : Option ℕ) (v : ℕ) (kind : Kind)
    → g.kind ≡ kind
    → potential_point kind g p c.side ≡ v
    → PotentialFits kind g (after g p v) c.side
    → ((q : Position) → PotentialFits kind g q c.side → PotentialWaiting kind g q c.side)
    → v < point_count g
    → is_free p v ≡ true
    → InPlay g c (record { body = Potential; last = last; imagined = p })
    → Forces g (after g p v) c.side c.goal
    → KeepsUp g c (record { body = Potential; last = last; imagined = p }) v (record {
      body = Potential;
      last = last;
      imagined = after g p v;
    })
unfolding own_move
weighed g c p last v kind e rule holds waits within free h forced = record {
  own = ap (λ (k : Kind). stays g p (potential_point k g p c.side) Potential last) e
      ∙ ap (λ (q : ℕ). stays g p q Potential last) rule;
  within = within;
  free = free;
  on = goes_on g c (after g p v) Potential last h.sound
      (IsPosition-after g p v h.position within free) forced (record {
        allowed = h.stands.allowed;
        ready =
            λ on again. subst (λ (k : Kind). PotentialFits k g (after g p v) c.side) (sym e) holds;
        waiting = λ on theirs. subst (λ (k : Kind). PotentialWaiting k g (after g p v) c.side)
            (sym e) (waits (after g p v) holds);
      });
}

pub keeps-breaker : (g : Game) (c : Claim) (p : Position) (last : Option ℕ) (v : ℕ)
    → g.kind ≡ MakerBreaker
    → InPlay g c (record { body = Potential; last = last; imagined = p })
    → is_over g p ≡ false
    → p.turn ≡ c.side
    → v ≡ potential_answer g p c.side
    → v < point_count g
    → is_free p v ≡ true
    → (g.kind ≡ MakerBreaker
    → c.side ≡ Y
    → p.turn ≡ c.side
    → PotentialHolds g p c.side
    → PotentialHolds g (after g p v) c.side)
    → KeepsUp g c (record { body = Potential; last = last; imagined = p }) v (record {
      body = Potential;
      last = last;
      imagined = after g p v;
    })
keeps-breaker g c p last v kind h going mine rule within free keeps =
    let position = IsPosition-after g p v h.position within free in
    let ok : shows_defence MakerBreaker c.side c.goal ≡ true =
    subst (λ (k : Kind). shows_defence k c.side c.goal ≡ true) kind h.stands.allowed in
    let is_y = breaker_is_y c.side c.goal ok in
    let before : PotentialHolds g p c.side =
    subst (λ (k : Kind). PotentialFits k g p c.side) kind (h.stands.ready going mine) in
    let holds = keeps kind is_y mine before in
    weighed g c p last v MakerBreaker kind (sym rule) holds (λ q w. w) within free h
    (any_goal-is g (after g p v) c.side Y c.goal is_y
    (Forces-potential_breaker g (after g p v) kind position
    (subst (λ (s : Side). PotentialHolds g (after g p v) s) is_y holds)))

pub keeps-draw : (g : Game) (c : Claim) (p : Position) (last : Option ℕ) (v : ℕ)
    → g.kind ≡ MakerMaker
    → InPlay g c (record { body = Potential; last = last; imagined = p })
    → is_over g p ≡ false
    → p.turn ≡ c.side
    → v ≡ potential_answer g p c.side
    → v < point_count g
    → is_free p v ≡ true
    → (g.kind ≡ MakerMaker
    → p.turn ≡ c.side
    → PotentialHolds g p c.side
    → PotentialHolds g (after g p v) c.side)
    → KeepsUp g c (record { body = Potential; last = last; imagined = p }) v (record {
      body = Potential;
      last = last;
      imagined = after g p v;
    })
keeps-draw g c p last v kind h going mine rule within free keeps =
    let position = IsPosition-after g p v h.position within free in
    let ok : shows_defence MakerMaker c.side c.goal ≡ true =
    subst (λ (k : Kind). shows_defence k c.side c.goal ≡ true) kind h.stands.allowed in
    let before : PotentialHolds g p c.side =
    subst (λ (k : Kind). PotentialFits k g p c.side) kind (h.stands.ready going mine) in
    let holds = keeps kind mine before in
    weighed g c p last v MakerMaker kind (sym rule) holds (λ q w. w) within free h
    (subst (λ (goal : Goal). Forces g (after g p v) c.side goal) (sym (drawer c.side c.goal ok))
    (Forces-potential_draw g (after g p v) c.side kind position holds))

-- Avoider wins after its answer: at once, or because its potential holds after every point of
-- Enforcer
avoider_forces : (g : Game) (p : Position) (v : ℕ)
    → g.kind ≡ AvoiderEnforcer
    → IsPosition g p
    → p.turn ≡ X
    → v < point_count g
    → is_free p v ≡ true
    → (is_over g (after g p v) ≡ true → outcome g (after g p v) ≡ XWins)
    → ((u : ℕ) → u < point_count g
    → is_free (after g p v) u ≡ true
    → AvoiderHolds g (after g (after g p v) u))
    → (after g p v).turn ≡ Y
    → Forces g (after g p v) X Win
avoider_forces g p v kind position mine within free wins keeps yours =
    elim (cases_Bool (is_over g (after g p v))) [
      | inl over ↦ Forces-over g (after g p v) X Win over (ap (reaches X Win) (wins over))
      | inr going ↦ Forces-all g (after g p v) X Win going yours
          (λ u low on. Forces-avoider g (after g (after g p v) u) kind
          (IsPosition-after g (after g p v) u (IsPosition-after g p v position within free) low on)
          (keeps u low on))
    ]

pub keeps-avoider : (g : Game) (c : Claim) (p : Position) (last : Option ℕ) (v : ℕ)
    → g.kind ≡ AvoiderEnforcer
    → InPlay g c (record { body = Potential; last = last; imagined = p })
    → is_over g p ≡ false
    → p.turn ≡ c.side
    → v ≡ avoider_answer g p
    → v < point_count g
    → is_free p v ≡ true
    → (g.kind ≡ AvoiderEnforcer
    → p.turn ≡ X
    → AvoiderHolds g p
    → is_over g (after g p v) ≡ true
    → outcome g (after g p v) ≡ XWins)
    → (p.turn ≡ X
    → AvoiderHolds g p
    → (u : ℕ) → u < point_count g
    → is_free (after g p v) u ≡ true
    → AvoiderHolds g (after g (after g p v) u))
    → KeepsUp g c (record { body = Potential; last = last; imagined = p }) v (record {
      body = Potential;
      last = last;
      imagined = after g p v;
    })
unfolding own_move
keeps-avoider g c p last v kind h going mine rule within free wins keeps =
    let position = h.position in
    let ok : shows_defence AvoiderEnforcer c.side c.goal ≡ true =
    subst (λ (k : Kind). shows_defence k c.side c.goal ≡ true) kind h.stands.allowed in
    let is_x = avoider_is_x c.side c.goal ok in
    let turn : p.turn ≡ X = mine ∙ is_x in
    let before : AvoiderHolds g p =
    subst (λ (k : Kind). PotentialFits k g p c.side) kind (h.stands.ready going mine) in
    let yours : (after g p v).turn ≡ Y = turn-after_x g p v position turn in
    let next = keeps turn before in
    record {
      own = ap (λ (k : Kind). stays g p (potential_point k g p c.side) Potential last) kind
          ∙ ap (λ (q : ℕ). stays g p q Potential last) (sym rule);
      within = within;
      free = free;
      on = goes_on g c (after g p v) Potential last h.sound
          (IsPosition-after g p v position within free)
          (any_goal-is g (after g p v) c.side X c.goal is_x
          (avoider_forces g p v kind position turn within free (wins kind turn before) next yours))
          (record {
            allowed = h.stands.allowed;
            ready = λ on again. absurd (x≢y (sym is_x ∙ sym again ∙ yours));
            waiting = λ on theirs. subst (λ (k : Kind). PotentialWaiting k g (after g p v) c.side)
                (sym kind) (inr next);
          });
    }
  where
    x≢y : X ≢ Y
    x≢y e = cc

-- ---- trees and cuts

pub trees_kind : (kind : Kind) (side : Side)
    → shows_trees kind side ≡ true
    → (kind ≡ Switching) × (side ≡ X)
trees_kind MakerBreaker side ok = absurd (false≢true ok)
trees_kind MakerMaker side ok = absurd (false≢true ok)
trees_kind AvoiderEnforcer side ok = absurd (false≢true ok)
trees_kind Switching X ok = (refl, refl)
trees_kind Switching Y ok = absurd (false≢true ok)

pub cuts_kind : (kind : Kind) (side : Side)
    → shows_cuts kind side ≡ true
    → (kind ≡ Switching) × (side ≡ Y)
cuts_kind MakerBreaker side ok = absurd (false≢true ok)
cuts_kind MakerMaker side ok = absurd (false≢true ok)
cuts_kind AvoiderEnforcer side ok = absurd (false≢true ok)
cuts_kind Switching X ok = absurd (false≢true ok)
cuts_kind Switching Y ok = (refl, refl)

-- the side of trees, or of cuts, is to move
pub trees-turn : (g : Game) (c : Claim) (p : Position) (with_e : Bool)
    (first second : FinSet nat_cmp) (last : Option ℕ)
    → InPlay g c (record { body = Trees with_e first second; last = last; imagined = p })
    → is_over g p ≡ false
    → p.turn ≡ c.side
    → IsSwitchingTurn g p X
trees-turn g c p with_e first second last h going mine =
    let is = trees_kind g.kind c.side h.stands.allowed in
    record { switching = is.0; position = h.position; going = going; turn = mine ∙ is.1 }

pub cuts-turn : (g : Game) (c : Claim) (p : Position) (with_e : Bool)
    (first second : FinSet nat_cmp) (last : Option ℕ)
    → InPlay g c (record { body = Cuts with_e first second; last = last; imagined = p })
    → is_over g p ≡ false
    → p.turn ≡ c.side
    → IsSwitchingTurn g p Y
cuts-turn g c p with_e first second last h going mine =
    let is = cuts_kind g.kind c.side h.stands.allowed in
    record { switching = is.0; position = h.position; going = going; turn = mine ∙ is.1 }

-- an own move by a plan, after which the other side is to move
planned : (g : Game) (c : Claim) (p : Position) (body next : Body) (last : Option ℕ) (v : ℕ)
    (side : Side)
    → g.kind ≡ Switching
    → c.side ≡ side
    → InPlay g c (record { body = body; last = last; imagined = p })
    → p.turn ≡ c.side
    → is_allowed g.kind g.bias c.side c.goal next ≡ true
    → own_move g c.nodes c.side (record { body = body; last = last; imagined = p }) ≡ Some (record {
      point = v;
      next = Some (record { body = next; last = last; imagined = after g p v });
    })
    → v < point_count g
    → is_free p v ≡ true
    → Forces g (after g p v) side Win
    → Waiting g c (after g p v) next
    → KeepsUp g c (record { body = body; last = last; imagined = p }) v (record {
      body = next;
      last = last;
      imagined = after g p v;
    })
planned g c p body next last v side kind is h mine allowed own within free wins waits = record {
  own = own;
  within = within;
  free = free;
  on = goes_on g c (after g p v) next last h.sound (IsPosition-after g p v h.position within free)
      (any_goal-is g (after g p v) c.side side c.goal is wins) (record {
        allowed = allowed;
        ready = λ on again.
            absurd (not-again g p c.side v (single g Switching kind refl) h.position mine again);
        waiting = λ on theirs. waits;
      });
}

trees_answered : (g : Game) (field : Field) (p : Position) (first second : FinSet nat_cmp)
    (last : Option ℕ) (a : Answered)
    → IsTreesAnswer field p first second last a
    → stays_with_trees g p (trees_point field p first second last) last
    ≡ stays g p a.edge (Trees false a.first a.second) last
trees_answered g (Lines f) p first second last a rule = absurd rule
trees_answered g (OnGraph h) p first second last a rule =
    ap (λ (b : Answered). stays g p b.edge (Trees false b.first b.second) last) (sym rule)

cuts_answered : (g : Game) (field : Field) (p : Position) (first second : FinSet nat_cmp)
    (last : Option ℕ) (a : Answered)
    → IsCutsAnswer field p first second last a
    → stays_with_cuts g p (cuts_point field p first second last) last
    ≡ stays g p a.edge (Cuts false a.first a.second) last
cuts_answered g (Lines f) p first second last a rule = absurd rule
cuts_answered g (OnGraph h) p first second last a rule =
    ap (λ (b : Answered). stays g p b.edge (Cuts false b.first b.second) last) (sym rule)

pub keeps-trees : (g : Game) (c : Claim) (p : Position) (first second : FinSet nat_cmp)
    (last : Option ℕ) (v : ℕ) (f s : FinSet nat_cmp)
    → InPlay g c (record { body = Trees false first second; last = last; imagined = p })
    → is_over g p ≡ false
    → p.turn ≡ c.side
    → IsTreesAnswer g.field p first second last (record { edge = v; first = f; second = s })
    → LeavesHeld g p (λ q. TreesHold g q f s) v f
    → KeepsUp g c (record {
      body = Trees false first second;
      last = last;
      imagined = p;
    }) v (record { body = Trees false f s; last = last; imagined = after g p v })
unfolding own_move
keeps-trees g c p first second last v f s h going mine rule leaves =
    let position = h.position in
    let is = trees_kind g.kind c.side h.stands.allowed in
    planned g c p (Trees false first second) (Trees false f s) last v X is.0 is.1 h mine
    h.stands.allowed (trees_answered g g.field p first second last (record {
      edge = v;
      first = f;
      second = s;
    }) rule) leaves.within leaves.free
    (Forces-trees g (after g p v) f s (IsPosition-after g p v position leaves.within leaves.free)
    leaves.holds) leaves.holds

pub keeps-cuts : (g : Game) (c : Claim) (p : Position) (first second : FinSet nat_cmp)
    (last : Option ℕ) (v : ℕ) (f s : FinSet nat_cmp)
    → InPlay g c (record { body = Cuts false first second; last = last; imagined = p })
    → is_over g p ≡ false
    → p.turn ≡ c.side
    → IsCutsAnswer g.field p first second last (record { edge = v; first = f; second = s })
    → LeavesHeld g p (λ q. CutsHold g q f s) v f
    → KeepsUp g c (record { body = Cuts false first second; last = last; imagined = p }) v (record {
      body = Cuts false f s;
      last = last;
      imagined = after g p v;
    })
unfolding own_move
keeps-cuts g c p first second last v f s h going mine rule leaves =
    let position = h.position in
    let is = cuts_kind g.kind c.side h.stands.allowed in
    planned g c p (Cuts false first second) (Cuts false f s) last v Y is.0 is.1 h mine
    h.stands.allowed (cuts_answered g g.field p first second last (record {
      edge = v;
      first = f;
      second = s;
    }) rule) leaves.within leaves.free
    (Forces-cuts g (after g p v) f s (IsPosition-after g p v position leaves.within leaves.free)
    leaves.holds) leaves.holds

-- ---- a plan with e put into its first set stands for the node's body

module _ (g : Game) (c : Claim) (p : Position) (with_e : Bool) (first second : FinSet nat_cmp)
    (last : Option ℕ) where
  pub InPlay-trees : InPlay g c (record {
    body = Trees with_e first second;
    last = last;
    imagined = p;
  })
      → InPlay g c (record {
        body = Trees false (with_e_named g with_e first) second;
        last = last;
        imagined = p;
      })
  InPlay-trees h = record {
    sound = h.sound;
    position = h.position;
    forced = h.forced;
    stands = record {
      allowed = h.stands.allowed;
      ready = h.stands.ready;
      waiting = h.stands.waiting;
    };
  }

  pub InPlay-cuts : InPlay g c (record {
    body = Cuts with_e first second;
    last = last;
    imagined = p;
  })
      → InPlay g c (record {
        body = Cuts false (with_e_named g with_e first) second;
        last = last;
        imagined = p;
      })
  InPlay-cuts h = record {
    sound = h.sound;
    position = h.position;
    forced = h.forced;
    stands = record {
      allowed = h.stands.allowed;
      ready = h.stands.ready;
      waiting = h.stands.waiting;
    };
  }

  pub KeepsUp-trees : (v : ℕ) (next : Standing)
      → KeepsUp g c (record {
        body = Trees false (with_e_named g with_e first) second;
        last = last;
        imagined = p;
      }) v next
      → KeepsUp g c (record { body = Trees with_e first second; last = last; imagined = p }) v next
  unfolding own_move
  KeepsUp-trees v next k = record { own = k.own; within = k.within; free = k.free; on = k.on }

  pub KeepsUp-cuts : (v : ℕ) (next : Standing)
      → KeepsUp g c (record {
        body = Cuts false (with_e_named g with_e first) second;
        last = last;
        imagined = p;
      }) v next
      → KeepsUp g c (record { body = Cuts with_e first second; last = last; imagined = p }) v next
  unfolding own_move
  KeepsUp-cuts v next k = record { own = k.own; within = k.within; free = k.free; on = k.on }

-- ---- a node's whole body

module _ (g : Game) (c : Claim) (p : Position) (body : Body) (with_e : Bool)
    (first second : FinSet nat_cmp) (last : Option ℕ) (f s : FinSet nat_cmp)
    (is_f : f ≡ with_e_named g with_e first) (is_s : s ≡ second) where
  -- what held of the sets that are named held of the plan's
  held : (Holds : Position → FinSet nat_cmp → FinSet nat_cmp → Type 0)
      → HeldUntil g p (λ q. Holds q (with_e_named g with_e first) second) last
      → HeldUntil g p (λ q. Holds q f s) last
  held Holds h = subst₂ (λ (t u : FinSet nat_cmp). HeldUntil g p (λ q. Holds q t u) last) (sym is_f)
      (sym is_s) h

  pub trees-held : body ≡ Trees with_e first second
      → InPlay g c (record { body = body; last = last; imagined = p })
      → is_over g p ≡ false
      → p.turn ≡ c.side
      → HeldUntil g p (λ q. TreesHold g q f s) last
  trees-held is h going mine =
      let here = subst (λ (b : Body). InPlay g c (record {
        body = b;
        last = last;
        imagined = p;
      })) is h in
      held (λ q t u. TreesHold g q t u) (here.stands.ready going mine)

  pub cuts-held : body ≡ Cuts with_e first second
      → InPlay g c (record { body = body; last = last; imagined = p })
      → is_over g p ≡ false
      → p.turn ≡ c.side
      → HeldUntil g p (λ q. CutsHold g q f s) last
  cuts-held is h going mine =
      let here = subst (λ (b : Body). InPlay g c (record {
        body = b;
        last = last;
        imagined = p;
      })) is h in
      held (λ q t u. CutsHold g q t u) (here.stands.ready going mine)

  -- what keeps up by the plan keeps up by the body
  whole : (By : Bool → FinSet nat_cmp → FinSet nat_cmp → Body) (v : ℕ) (next : Standing)
      → body ≡ By with_e first second
      → InPlay g c (record { body = body; last = last; imagined = p })
      → (InPlay g c (record {
        body = By with_e first second;
        last = last;
        imagined = p;
      })
      → InPlay g c (record {
        body = By false (with_e_named g with_e first) second;
        last = last;
        imagined = p;
      }))
      → (KeepsUp g c (record {
        body = By false (with_e_named g with_e first) second;
        last = last;
        imagined = p;
      }) v next
      → KeepsUp g c (record { body = By with_e first second; last = last; imagined = p }) v next)
      → (InPlay g c (record {
        body = By false f s;
        last = last;
        imagined = p;
      })
      → KeepsUp g c (record { body = By false f s; last = last; imagined = p }) v next)
      → KeepsUp g c (record { body = body; last = last; imagined = p }) v next
  whole By v next is h to_plan to_body keeps =
      let named = to_plan (subst (λ (b : Body). InPlay g c (record {
        body = b;
        last = last;
        imagined = p;
      })) is h) in
      let kept = keeps (subst₂ (λ (t u : FinSet nat_cmp). InPlay g c (record {
        body = By false t u;
        last = last;
        imagined = p;
      })) (sym is_f) (sym is_s) named) in
      subst (λ (b : Body). KeepsUp g c (record {
        body = b;
        last = last;
        imagined = p;
      }) v next) (sym is) (to_body (subst₂ (λ (t u : FinSet nat_cmp). KeepsUp g c (record {
        body = By false t u;
        last = last;
        imagined = p;
      }) v next) is_f is_s kept))

  pub trees-whole : (v : ℕ) (next : Standing)
      → body ≡ Trees with_e first second
      → InPlay g c (record { body = body; last = last; imagined = p })
      → (InPlay g c (record {
        body = Trees false f s;
        last = last;
        imagined = p;
      })
      → KeepsUp g c (record { body = Trees false f s; last = last; imagined = p }) v next)
      → KeepsUp g c (record { body = body; last = last; imagined = p }) v next
  trees-whole v next is h keeps =
      whole Trees v next is h (InPlay-trees g c p with_e first second last)
      (KeepsUp-trees g c p with_e first second last v next) keeps

  pub cuts-whole : (v : ℕ) (next : Standing)
      → body ≡ Cuts with_e first second
      → InPlay g c (record { body = body; last = last; imagined = p })
      → (InPlay g c (record {
        body = Cuts false f s;
        last = last;
        imagined = p;
      })
      → KeepsUp g c (record { body = Cuts false f s; last = last; imagined = p }) v next)
      → KeepsUp g c (record { body = body; last = last; imagined = p }) v next
  cuts-whole v next is h keeps = whole Cuts v next is h (InPlay-cuts g c p with_e first second last)
      (KeepsUp-cuts g c p with_e first second last v next) keeps

-- ---- a threat line from a place on

pub keeps-line : (g : Game) (c : Claim) (p : Position) (points : List ℕ) (from v : ℕ)
    (last : Option ℕ)
    → v ≡ get_or points from 0
    → InPlay g c (record { body = Threat (drop from points); last = last; imagined = p })
    → is_over g p ≡ false
    → p.turn ≡ c.side
    → KeepsUp g c (record {
      body = Threat (drop from points);
      last = last;
      imagined = p;
    }) v (record { body = Threat (drop (from + 1) points); last = last; imagined = after g p v })
keeps-line g c p points from v last is h going mine = elim (cases_lt from (length points)) [
  | inl within ↦
      let next : suc from ≡ from + 1 = omega arith in
      let split : drop from points ≡ v ∷ drop (from + 1) points = drop-cons points from 0 within
      ∙ ap (λ n. get_or points from 0 ∷ drop n points) next
      ∙ ap (λ w. w ∷ drop (from + 1) points) (sym is) in
      subst (λ (xs : List ℕ). KeepsUp g c (record {
        body = Threat xs;
        last = last;
        imagined = p;
      }) v (record {
        body = Threat (drop (from + 1) points);
        last = last;
        imagined = after g p v;
      })) (sym split)
      (keeps-threat g c p v (drop (from + 1) points) last
      (subst (λ (xs : List ℕ). InPlay g c (record {
        body = Threat xs;
        last = last;
        imagined = p;
      })) split h) going mine)
  | inr past ↦ absurd (subst (λ (xs : List ℕ). LeadsToLine g p c.side xs)
      (drop_all from points past) (h.stands.ready going mine))
]
