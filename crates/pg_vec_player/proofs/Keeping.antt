-- The own move keeps the plan, and so the side goes on to its win.
use Rattle.std.proofs.Common.{◌≡◌, ℕ, ◌<◌, ◌≤◌, suc, Bool, true, false, not, Option, Some, None}
use Rattle.std.proofs.Common.{inl, inr, sym, subst, arith}
use Rattle.std.specs.Prelude.{length}
use Rattle.pg_vec_player.proofs.Common.{and_parts, false_from_ne_true, not-true, not_from_false}
use Rattle.pg_vec_player.proofs.Common.{FinSet, contains, nat_cmp, IsWithin}
use Rattle.pg_vec_player.proofs.Common.{Score, Side, X, Y, below_from, IsSpan, Position}
use Rattle.pg_vec_player.proofs.Common.{ending_by, Rules, moved, kept}
use Rattle.pg_vec_player.proofs.Common.{IsPlace, AreFree, AreFreeOrE, HeldUntilReply, VecGame}
use Rattle.pg_vec_player.proofs.Common.{VecPlan, VecMove, vec_move, answer_vector, lost_vector}
use Rattle.pg_vec_player.proofs.Common.{plan_without, with_target, vector_rules, vector_spans}
use Rattle.pg_gf2.proofs.LawLemmas.{more, sets_force}
use Rattle.pg_switch.proofs.LostElement.{IsFreeBelow, AreDue, StandBy, held_by, left-free, due-now}
use Rattle.pg_switch.proofs.LostElement.{due-after, stand-next}
use Rattle.pg_switch.proofs.Seats.{some_element, on-claimed}
use Rattle.pg_vec_player.specs.declared.judge.VecJudge.{VecJudge}
use Rattle.pg_gf2.specs.GroundLaws.{IsSpan-vectors}
use Rattle.pg_vec_player.specs.Judge.{IsVecJudgeOf}
use Rattle.pg_vec_player.specs.Player.{vec_start, VecPlanHolds, IsOnVecPlan, IsVecPlaying, IsVecDue}
use Rattle.pg_vec_player.proofs.VecSteps.{vec-kept}

module _ (g : VecGame) where
  abbrev r : Rules
  r = vector_rules g

  abbrev n : ℕ
  n = length g.vectors

  abbrev spans : (ℕ → Bool) → ℕ → Bool
  spans = vector_spans (with_target g)

  law : IsSpan (vector_spans (with_target g))
  law = IsSpan-vectors (with_target g)

  pub small : (v : ℕ) → v < n → v < Rattle.pg_base.specs.declared.limits.TheConstants.MAX_MEMBERS
  small v low = let few = g.fits.few_vectors in omega (arith, low, few)

  -- ---- what is due after a reply

  kept-from : (p : Position) (f : ℕ) → f ≤ n → contains p.y f ≡ false → kept (suc n) p f ≡ true
  kept-from p f low out =
      below_from (λ q. not (contains p.y q)) (suc n) f (not_from_false _ out) (omega arith)

  no_target : (p : Position) → IsPlace n p → contains p.y n ≡ false
  no_target p place =
      false_from_ne_true _ (λ k. let low = place.y_range n k in absurd (omega arith))

  left-in : (p : Position) (side : Side) (d : FinSet nat_cmp)
      → IsPlace n p
      → AreFreeOrE n p side d
      → IsWithin (contains d) (kept (suc n) p)
  left-in p side d place every f k = elim (every f k) [
    | inl i ↦ let low = i.0 in kept-from p f (omega arith) (not-true _ (and_parts _ _ i.1).1)
    | inr e ↦ kept-from p f (omega (arith, e.0))
        (subst (λ (w : ℕ). contains p.y w ≡ false) (sym e.0) (no_target p place))
  ]

  -- what holds of a plan's sets
  record AreHeld (side : Side) (p : Position) (plan : VecPlan) : Type 0 where
    pub first_free : AreFreeOrE n p side plan.first
    pub second_free : AreFree n p plan.second
    pub sets : StandBy spans n side (held_by n side p) (contains plan.first) (contains plan.second)

  are-held : (side : Side) (p : Position) (plan : VecPlan)
      → IsPlace n p
      → VecPlanHolds g side p plan
      → AreHeld side p plan
  are-held X p plan place t = record {
    first_free = t.first_free;
    second_free = t.second_free;
    sets = record {
      apart = t.apart;
      first = t.first;
      first_joins = t.first_joins;
      second = t.second;
      second_joins = t.second_joins;
    };
  }
  are-held Y p plan place t = record {
    first_free = t.first_free;
    second_free = t.second_free;
    sets = record {
      apart = t.apart;
      first = t.first;
      first_parts = t.first_parts;
      second = t.second;
      second_parts = λ _. t.second_parts;
      first_in = left-in p Y plan.first place t.first_free;
      second_in = left-in p Y plan.second place (λ f k. inl (t.second_free f k));
      joins_in = kept-from p n (omega arith) (no_target p place);
    };
  }

  due-held : (side : Side) (p : Position) (plan : VecPlan) (last : Option ℕ)
      → IsPlace n p
      → HeldUntilReply r (λ q. VecPlanHolds g side q plan) side p last
      → AreDue spans n side p plan.first plan.second (lost_vector n last)
  due-held side p plan None place h =
      let t = are-held side p plan place h in
      due-now spans n r side p plan.first plan.second t.first_free t.second_free t.sets
  due-held side p plan (Some v) place h =
      let t = are-held side h.before plan h.place h.held in
      subst (λ (q : Position). AreDue spans n side q plan.first plan.second v) (sym h.leads)
      (due-after spans n r side h.before plan.first plan.second v h.theirs h.within t.first_free
      t.second_free t.sets)

  pub lost-bound : (side : Side) (p : Position) (plan : VecPlan) (last : Option ℕ)
      → IsVecDue g side p plan last
      → lost_vector n last ≤ n
  lost-bound side p plan last d = (due-held side p plan last d.place d.held).left.bound

  -- ---- the own move

  -- it is a free vector, and the plan holds after it
  pub record IsKept (side : Side) (p : Position) (v : ℕ) (plan : VecPlan) : Type 0 where
    pub free : IsFreeBelow n p v
    pub holds : VecPlanHolds g side (moved r p v) plan

  plan-from : (side : Side) (p : Position) (plan : VecPlan)
      → StandBy spans n side (held_by n side p) (contains plan.first) (contains plan.second)
      → AreFree n p plan.first
      → AreFree n p plan.second
      → VecPlanHolds g side p plan
  plan-from X p plan t free1 free2 = record {
    first_free = λ f k. inl (free1 f k);
    second_free = free2;
    apart = t.apart;
    first = t.first;
    first_joins = t.first_joins;
    second = t.second;
    second_joins = t.second_joins;
  }
  plan-from Y p plan t free1 free2 = record {
    first_free = λ f k. inl (free1 f k);
    second_free = free2;
    apart = t.apart;
    first = t.first;
    first_parts = t.first_parts;
    second = t.second;
    second_parts = t.second_parts
        (false_from_ne_true _ (λ k. let low = (free2 n k).0 in absurd (omega arith)));
  }

  own-kept : (side : Side) (p : Position) (plan : VecPlan) (last : Option ℕ) (z : ℕ)
      → p.turn ≡ side
      → IsFreeBelow n p z
      → AreDue spans n side p plan.first plan.second (lost_vector n last)
      → IsKept side p (vec_move spans n side p plan last).vector
      (vec_move spans n side p plan last).plan
  unfolding vec_move
  own-kept side p plan last z turn fz d =
      let x = lost_vector n last in
      let v = answer_vector spans n side p plan x in
      let t = vec-kept spans law n p x z fz side plan d in
      record {
        free = t.free;
        holds = plan-from side (moved r p v) (plan_without plan x v)
            (stand-next spans n r side p plan.first plan.second x v turn t)
            (left-free r n p plan.first x v d.left.first)
            (left-free r n p plan.second x v d.left.second);
      }

  pub own_is_kept : (side : Side) (p : Position) (plan later : VecPlan) (last : Option ℕ) (v : ℕ)
      → IsVecDue g side p plan last
      → vec_move spans n side p plan last ≡ record { vector = v; plan = later }
      → IsKept side p v later
  own_is_kept side p plan later last v d own =
      let z = some_element n (λ set. spans set n) (more g) (vec_start g)
      (λ q. VecPlanHolds g side q plan) side p d.going in
      subst (λ (t : VecMove). IsKept side p t.vector t.plan) own
      (own-kept side p plan last z.0 d.turn z.1 (due-held side p plan last d.place d.held))

  -- so the side is on its plan after it
  pub on-own : (side : Side) (p : Position) (plan later : VecPlan) (last : Option ℕ) (v : ℕ)
      → IsVecDue g side p plan last
      → IsKept side p v later
      → IsOnVecPlan g side (moved r p v) later
  on-own side p plan later last v d k = on-claimed n (λ set. spans set n) (more g) (vec_start g)
      (λ q. VecPlanHolds g side q plan) side p last v (λ q. VecPlanHolds g side q later) d k.free
      k.holds (λ q place h. sets_force g side q later.first later.second place h)

  pub playing-next : (side : Side) (p next : Position) (plan : VecPlan) (ending : Option Score)
      (judge : VecJudge)
      → IsOnVecPlan g side p plan
      → next ≡ p
      → ending ≡ ending_by r next
      → IsVecJudgeOf judge g
      → IsVecPlaying g side next plan ending judge
  playing-next side p next plan ending judge o is_next known j = record {
    on = subst (λ (q : Position). IsOnVecPlan g side q plan) (sym is_next) o;
    known = known;
    judged = j;
  }
