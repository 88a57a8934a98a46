-- A side that plays by a plan: legal moves and replies, and what they keep.
use Rattle.std.proofs.Common.{◌≡◌, ◌⊎◌, ℕ, ◌<◌, Bool, true, false, List, [], ◌∷◌, ◌++◌, Option}
use Rattle.std.proofs.Common.{Some}
use Rattle.std.proofs.Common.{None, Result, Ok, Err, inl, inr, refl, sym, ap, ◌∙◌, subst}
use Rattle.std.specs.Prelude.{IfSome, is_some, nat_lt, if◌then◌else◌}
use Rattle.pg_switch.proofs.Common.{cases_Bool, both_ways, ltb-true, Score, Side, other}
use Rattle.pg_switch.proofs.Common.{other_other, below_from, Position, is_free, ending_by}
use Rattle.pg_switch.proofs.Common.{judged_by}
use Rattle.pg_switch.proofs.Common.{Rules, moved, reaches, IsEnding, IsPlayBy, played_by, ForcesBy}
use Rattle.pg_switch.proofs.Common.{AreBelow, some_free}
use Rattle.pg_base.specs.declared.goal.Goal.{Goal}
use Rattle.pg_base.specs.declared.goal.Goal.TheVariants.{Win}
use Rattle.pg_game.specs.declared.position.Illegal.{Illegal}
use Rattle.pg_game.specs.declared.position.Illegal.TheVariants.{Range, Taken, Over}
use Rattle.pg_game.proofs.RulesLaws.{value_by-over, ForcesBy-all-from}
use Rattle.pg_switch.specs.Claims.{claim_rules, IsMonotone, IsPlace}
use Rattle.pg_switch.specs.Seat.{IsReachedBy, IsOnPlan, IsDue}
use Rattle.pg_switch.proofs.ClaimLaws.{IsPlace-next, IsEnding-claims, turn-next}
use Rattle.pg_switch.proofs.LostElement.{IsFreeBelow}

-- ---- legal moves

module _ (r : Rules) where
  pub record IsLegal (p : Position) (v : ℕ) (next : Position) : Type 0 where
    pub within : v < r.points
    pub going : r.over p ≡ false
    pub free : is_free p v ≡ true
    pub leads : next ≡ moved r p v

  judge_by : (low over free : Bool) (q next : Position)
      → ◌≡◌ {A = Result Position Illegal}
      (if low then (if over then Err Over else (if free then Ok q else Err Taken)) else Err Range)
      (Ok next)
      → (low ≡ true) × (over ≡ false) × (free ≡ true) × (next ≡ q)
  judge_by true false true q next h = (refl, refl, refl, cc)
  judge_by true false false q next h = cc
  judge_by true true free q next h = cc
  judge_by false over free q next h = cc

  pub judged-legal : (p : Position) (v : ℕ) (next : Position)
      → judged_by r p v ≡ Ok next
      → IsLegal p v next
  judged-legal p v next h =
      let parts = judge_by (nat_lt v r.points) (r.over p) (is_free p v) (moved r p v) next h in
      record {
        within = ltb-true v r.points parts.0;
        going = parts.1;
        free = parts.2;
        leads = parts.3;
      }

  -- one more move
  play-more : (p : Position) (moves : List ℕ) (v : ℕ)
      → IsPlayBy r p moves
      → r.over (played_by r p moves) ≡ false
      → v < r.points
      → is_free (played_by r p moves) v ≡ true
      → IsPlayBy r p (moves ++ v ∷ [])
  play-more p [] v h going within free = (going, within, free, tt)
  play-more p (u ∷ moves) v h going within free =
      (h.0, h.1, h.2, play-more (moved r p u) moves v h.3 going within free)

  played-more : (p : Position) (moves : List ℕ) (v : ℕ)
      → played_by r p (moves ++ v ∷ []) ≡ moved r (played_by r p moves) v
  played-more p [] v = refl
  played-more p (u ∷ moves) v = played-more (moved r p u) moves v

  pub reached-next : (start p : Position) (v : ℕ)
      → IsReachedBy r start p
      → r.over p ≡ false
      → v < r.points
      → is_free p v ≡ true
      → IsReachedBy r start (moved r p v)
  reached-next start p v h going within free = record {
    moves = h.moves ++ v ∷ [];
    legal = play-more start h.moves v h.legal (ap r.over h.leads ∙ going) within
        (ap (λ (q : Position). is_free q v) h.leads ∙ free);
    leads = played-more start h.moves v ∙ ap (λ (q : Position). moved r q v) h.leads;
  }

  pub reached-start : (start : Position) → IsReachedBy r start start
  reached-start start = record { moves = []; legal = tt; leads = refl }

  -- ---- outcomes

  pub outcome-reached : (p : Position) (side : Side) (goal : Goal) (ending : Option Score)
      → ForcesBy r p side goal
      → ending ≡ ending_by r p
      → IfSome ending (λ score. reaches side goal score ≡ true)
  outcome-reached p side goal ending forced known = elim (cases_Bool (r.over p)) [
    | inl over ↦
        let is : ending ≡ Some (r.outcome p) =
        known ∙ ap (λ (b : Bool). if b then Some (r.outcome p) else None) over in
        let P : Option Score → Type 0 = λ o. IfSome o (λ score. reaches side goal score ≡ true) in
        subst P (sym is) (ap (reaches side goal) (sym (value_by-over r p over)) ∙ forced)
    | inr going ↦
        let is : ending ≡ None =
        known ∙ ap (λ (b : Bool). if b then Some (r.outcome p) else None) going in
        let P : Option Score → Type 0 = λ o. IfSome o (λ score. reaches side goal score ≡ true) in
        subst P (sym is) tt
  ]

  -- whether an outcome is known says whether the game is over
  pub over-known : (p : Position) (ending : Option Score) (b : Bool)
      → ending ≡ ending_by r p
      → b ≡ is_some ending
      → r.over p ≡ b
  over-known p ending b known is = elim (cases_Bool (r.over p)) [
    | inl over ↦ over
        ∙ sym
        (is ∙ ap is_some (known ∙ ap (λ (b : Bool). if b then Some (r.outcome p) else None) over))
    | inr going ↦ going
        ∙ sym
        (is ∙ ap is_some (known ∙ ap (λ (b : Bool). if b then Some (r.outcome p) else None) going))
  ]

  -- where the game goes on, a side that waits has the other side to move
  pub theirs : (p : Position) (side : Side)
      → (r.over p ≡ true) ⊎ (p.turn ≡ other side)
      → r.over p ≡ false
      → p.turn ≡ other side
  theirs p side waits going =
      elim waits [ inl over ↦ absurd (both_ways _ going over) | inr yours ↦ yours ]

-- ---- a plan, where X wants its points to pass a monotone test

place-next : (n : ℕ) (holds : (ℕ → Bool) → Bool) (p : Position) (v : ℕ)
    → IsPlace n p
    → IsFreeBelow n p v
    → IsPlace n (moved (claim_rules n holds) p v)
place-next n holds p v place f =
    IsPlace-next n holds p v place (below_from (is_free p) n v f.1 f.0)

pub range-next : (n : ℕ) (holds : (ℕ → Bool) → Bool) (p next : Position) (v : ℕ)
    → IsPlace n p
    → IsFreeBelow n p v
    → next ≡ moved (claim_rules n holds) p v
    → AreBelow next.x n
range-next n holds p next v place f is =
    subst (λ (q : Position). AreBelow q.x n) (sym is) (place-next n holds p v place f).x_range

module _ (n : ℕ) (holds : (ℕ → Bool) → Bool) (more : IsMonotone holds) (start : Position)
    (Holds : Position → Type 0) (side : Side) where
  abbrev r : Rules
  r = claim_rules n holds

  ends : IsEnding (claim_rules n holds)
  ends = IsEnding-claims n holds more

  pub some_element : (p : Position) → r.over p ≡ false → (z : ℕ) × IsFreeBelow n p z
  some_element p going = let z = some_free r ends p going in (z.0, (z.1, z.2))

  -- after its own move the side is on the plan that is left
  pub on-claimed : (p : Position) (last : Option ℕ) (v : ℕ) (Later : Position → Type 0)
      → IsDue r start Holds side p last
      → IsFreeBelow n p v
      → Later (moved r p v)
      → ((q : Position) → IsPlace n q → Later q → ForcesBy r q side Win)
      → IsOnPlan r start Later side (moved r p v)
  on-claimed p last v Later d f later forces =
      let place = place-next n holds p v d.place f in
      record {
        place = place;
        reached = reached-next r start p v d.reached d.going f.0 f.1;
        forced = forces (moved r p v) place later;
        holds = λ _. later;
      }

  -- at the start it is due
  pub due-first : (p : Position) (ending : Option Score)
      → IsOnPlan r start Holds side p
      → ending ≡ ending_by r p
      → false ≡ is_some ending
      → p.turn ≡ side
      → IsDue r start Holds side p None
  due-first p ending o known is mine =
      let going = over-known r p ending false known is in
      record {
        place = o.place;
        reached = o.reached;
        going = going;
        turn = mine;
        held = o.holds going;
      }

  module _ (p next : Position) (v : ℕ) (ending : Option Score) (o : IsOnPlan r start Holds side p)
      (waits : (r.over p ≡ true) ⊎ (p.turn ≡ other side)) (judged : judged_by r p v ≡ Ok next)
      (known : ending ≡ ending_by r next) where
    legal : IsLegal r p v next
    legal = judged-legal r p v next judged

    yours : p.turn ≡ other side
    yours = theirs r p side waits legal.going

    -- where it ends the game the side has won
    pub on-over : true ≡ is_some ending → IsOnPlan r start Holds side next
    on-over is =
        let over = over-known r next ending true known is in
        subst (λ (q : Position). IsOnPlan r start Holds side q) (sym legal.leads) (record {
          place = place-next n holds p v o.place (legal.within, legal.free);
          reached = reached-next r start p v o.reached legal.going legal.within legal.free;
          forced = ForcesBy-all-from r ends p side Win legal.going yours o.forced v legal.within
              legal.free;
          holds = λ goes. absurd (both_ways _ goes (ap r.over (sym legal.leads) ∙ over));
        })

    -- and else it is due
    pub due-reply : false ≡ is_some ending → IsDue r start Holds side next (Some v)
    due-reply is =
        let goes = over-known r next ending false known is in
        subst (λ (q : Position). IsDue r start Holds side q (Some v)) (sym legal.leads) (record {
          place = place-next n holds p v o.place (legal.within, legal.free);
          reached = reached-next r start p v o.reached legal.going legal.within legal.free;
          going = ap r.over (sym legal.leads) ∙ goes;
          turn = turn-next n holds p v o.place ∙ (ap other yours ∙ other_other side);
          held = record {
            before = p;
            place = o.place;
            theirs = yours;
            within = legal.within;
            free = legal.free;
            leads = refl;
            held = o.holds legal.going;
          };
        })
