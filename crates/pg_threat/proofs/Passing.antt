-- A position at which the other side has a point more: what leads to a line there does so without
-- the point.
use Rattle.std.proofs.Common.{◌≡◌, ◌≢◌, ℕ, ◌<◌, ◌≤◌, true, false, ◌||◌, ◌==◌, List, []}
use Rattle.std.proofs.Common.{◌∷◌, sym, ap, ◌∙◌, subst, inl, inr, ne_eqb, refl, arith}
use Rattle.pg_threat.proofs.Common.{cases_Bool, cases_eq, or_cases, or_left, or_right, or_parts}
use Rattle.pg_threat.proofs.Common.{false≢true, list_any, FinSet, contains, insert, nat_cmp}
use Rattle.pg_threat.proofs.Common.{in_insert, other, Side, X, Y, Game, Position}
use Rattle.pg_threat.proofs.Common.{is_free, points_of, lines_of, point_count, has_filled}
use Rattle.pg_threat.proofs.Common.{is_filled}
use Rattle.pg_threat.proofs.Common.{after, passed, has_threat, may_attack, Forcing, Filling}
use Rattle.pg_threat.proofs.Common.{LeadsToLine, IsAttacking, AreDeeper, IsPosition}
use Rattle.pg_threat.proofs.Common.{IsThreatLine}
use Rattle.pg_threat.proofs.Common.{IsPosition-after, list_any-one, other_other, free-of}
use Rattle.pg_threat.proofs.Common.{points_of-mover, points_of-waiter, Near, filled_but}
use Rattle.pg_threat.proofs.Common.{filled-with}
use Rattle.pg_threat.proofs.Common.{near-from, near-range, near-to, near-threat, forced-after}
use Rattle.pg_threat.proofs.Common.{attacking-after, turn-alternates, unfilled-going}
use Rattle.pg_game.specs.Game.{bias_of, free_points, is_over}
use Rattle.pg_threat.proofs.Attacks.{threat-near}
use Rattle.pg_threat.proofs.Idle.{all_weaker, free-both, insert-swap}

-- the other side has the point v more at the first position
pub record HasMore (side : Side) (v : ℕ) (q p : Position) : Type 0 where
  pub mine : points_of q side ≡ points_of p side
  pub theirs : points_of q (other side) ≡ insert (points_of p (other side)) v

module _ (g : Game) (side : Side) (v : ℕ) where
  -- a free point of the first is another one, and free at the second
  pub more-free : (q p : Position) (x : ℕ)
      → HasMore side v q p
      → is_free q x ≡ true
      → is_free p x ≡ true
  more-free q p x m free =
      let two = or_parts (x == v) _
      (sym (ap (λ (s : FinSet nat_cmp). contains s x) m.theirs
      ∙ in_insert (points_of p (other side)) v x)
      ∙ free-of q (other side) x free) in
      free-both p side x
      (sym (ap (λ (s : FinSet nat_cmp). contains s x) m.mine) ∙ free-of q side x free) two.1

  pub free-more : (q p : Position) (x : ℕ)
      → HasMore side v q p
      → is_free p x ≡ true
      → x ≢ v
      → is_free q x ≡ true
  free-more q p x m free apart = free-both q side x
      (ap (λ (s : FinSet nat_cmp). contains s x) m.mine ∙ free-of p side x free)
      (ap (λ (s : FinSet nat_cmp). contains s x) m.theirs
      ∙ in_insert (points_of p (other side)) v x
      ∙ ap (λ c. c || contains (points_of p (other side)) x) (ne_eqb x v apart)
      ∙ free-of p (other side) x free)

  more-near : (q p : Position) (u : ℕ)
      → HasMore side v q p
      → Near g q side u
      → Near g p side u
  more-near q p u m n = record {
    line = n.line;
    listed = n.listed;
    free = more-free q p u m n.free;
    on = n.on;
    rest = subst (λ (s : FinSet nat_cmp). filled_but s u n.line ≡ true) m.mine n.rest;
  }

  -- both go on by the same attack
  pub more-attack : (q p : Position) (a : ℕ)
      → q.turn ≡ side
      → p.turn ≡ side
      → HasMore side v q p
      → HasMore side v (after g q a) (after g p a)
  more-attack q p a turn_q turn_p m = record {
    mine = points_of-mover g q side a turn_q
        ∙ ap (λ (s : FinSet nat_cmp). insert s a) m.mine
        ∙ sym (points_of-mover g p side a turn_p);
    theirs = points_of-waiter g q (other side) a (turn_q ∙ sym (other_other side))
        ∙ m.theirs
        ∙ ap (λ (s : FinSet nat_cmp). insert s v)
        (sym (points_of-waiter g p (other side) a (turn_p ∙ sym (other_other side))));
  }

  -- and by the same reply
  pub more-reply : (q p : Position) (w : ℕ)
      → q.turn ≡ other side
      → p.turn ≡ other side
      → HasMore side v q p
      → HasMore side v (after g q w) (after g p w)
  more-reply q p w turn_q turn_p m = record {
    mine = points_of-waiter g q side w turn_q
        ∙ m.mine
        ∙ sym (points_of-waiter g p side w turn_p);
    theirs = points_of-mover g q (other side) w turn_q
        ∙ ap (λ (s : FinSet nat_cmp). insert s w) m.theirs
        ∙ insert-swap (points_of p (other side)) v w
        ∙ ap (λ (s : FinSet nat_cmp). insert s v) (sym (points_of-mover g p (other side) w turn_p));
  }

  -- the attacker has filled the same lines
  pub more-filled : (q p : Position)
      → HasMore side v q p
      → has_filled g q side ≡ has_filled g p side
  more-filled q p m = ap (λ (s : FinSet nat_cmp). list_any (is_filled s) (lines_of g)) m.mine

  -- where the other side has no threat and has filled no line, it has none without the point
  more-safe : (q p : Position)
      → HasMore side v q p
      → has_filled g q (other side) ≡ false
      → has_threat g q (other side) ≡ false
      → has_threat g p (other side) ≡ false
  unfolding filled_but
  more-safe q p m none safe = elim (cases_Bool (has_threat g p (other side))) [
    | inr off ↦ off
    | inl on ↦
        let found = threat-near g p (other side) on in
        let n = found.1 in
        elim (cases_eq found.0 v) [
          | inl e ↦ absurd (false≢true (sym none
              ∙ ap (λ (s : FinSet nat_cmp). list_any (is_filled s) (lines_of g)) m.theirs
              ∙ list_any-one (is_filled (insert (points_of p (other side)) v)) (lines_of g) n.line
              n.listed (filled-with (points_of p (other side)) v n.line
              (subst (λ (u : ℕ). filled_but (points_of p (other side)) u n.line ≡ true) e n.rest))))
          | inr ne ↦ absurd (false≢true (sym safe ∙ near-threat g q (other side) found.0 (record {
            line = n.line;
            listed = n.listed;
            free = free-more q p found.0 m n.free ne;
            on = n.on;
            rest = all_weaker (λ x. x == found.0 || contains (points_of p (other side)) x)
                (λ x. x == found.0 || contains (points_of q (other side)) x) n.line
                (λ x here. elim (or_cases (x == found.0) _ here) [
                  | inl last ↦ or_left (x == found.0) _ last
                  | inr own ↦ or_right (x == found.0) _
                      (ap (λ (s : FinSet nat_cmp). contains s x) m.theirs
                      ∙ in_insert (points_of p (other side)) v x
                      ∙ or_right (x == v) _ own)
                ]) n.rest;
          })))
        ]
  ]

module _ (g : Game) (side : Side) (v : ℕ) (one : g.bias ≡ 1) where
  module _ (q p : Position) (first : IsAttacking g q side) (second : IsAttacking g p side)
      (m : HasMore side v q p) where
    more-filling : (a : ℕ) → Filling g q side a → Filling g p side a
    more-filling a f = record {
      attack =
          record { range = f.attack.range; free = more-free g side v q p a m f.attack.free };
      fills = sym (more-filled g side v (after g q a) (after g p a)
          (more-attack g side v q p a first.turn second.turn m)) ∙ f.fills;
    }

    more-forcing : (a w : ℕ) → Forcing g q side a w → Forcing g p side a w
    more-forcing a w f =
        let on = more-attack g side v q p a first.turn second.turn m in
        let forced = forced-after g side one q a w first f in
        record {
          attack =
              record { range = f.attack.range; free = more-free g side v q p a m f.attack.free };
          fills_none =
              sym (more-filled g side v (after g q a) (after g p a) on) ∙ f.fills_none;
          threat = near-to g (after g p a) side w
              (more-near g side v (after g q a) (after g p a) w on
              (near-from g (after g q a) side w f.threat));
          safe = λ kind. more-safe g side v (after g q a) (after g p a) on
              (forced.unfilled.theirs kind) (f.safe kind);
        }

  -- what leads to a line with the point does so without it
  pub more-leads : (points : List ℕ) (q p : Position)
      → IsAttacking g q side
      → IsAttacking g p side
      → HasMore side v q p
      → LeadsToLine g q side points
      → LeadsToLine g p side points
  more-leads [] q p first second m leads = absurd leads
  more-leads (a ∷ []) q p first second m leads = more-filling q p first second m a leads
  more-leads (a ∷ (w ∷ others)) q p first second m leads =
      let forcing = more-forcing q p first second m a w leads.0 in
      let one_q = forced-after g side one q a w first leads.0 in
      let one_p = forced-after g side one p a w second forcing in (
        forcing,
        more-leads others (after g (after g q a) w) (after g (after g p a) w)
            (attacking-after g side one (after g q a) w w one_q
            (near-range g one_q.near.line w one_q.near.listed one_q.near.on) one_q.near.free)
            (attacking-after g side one (after g p a) w w one_p
            (near-range g one_p.near.line w one_p.near.listed one_p.near.on) one_p.near.free)
            (more-reply g side v (after g q a) (after g p a) w one_q.turn one_p.turn
            (more-attack g side v q p a first.turn second.turn m))
            leads.1,
      )

-- ---- a turn that passes

-- the points of a side don't depend on the turn
same-points : (p : Position) (s : Side) → points_of (passed p) s ≡ points_of p s
same-points p X = refl
same-points p Y = refl

-- a game that isn't over goes on then
pub passed-going : (g : Game) (p : Position) → is_over g p ≡ false → is_over g (passed p) ≡ false
unfolding is_over free_points
passed-going g p going = going

module _ (g : Game) (p : Position) (one : g.bias ≡ 1) (position : IsPosition g p) where
  -- whoever is to move, the other side may be to move with the same points
  pub passed-position : IsPosition g (passed p)
  passed-position = record {
    x_range = position.x_range;
    y_range = position.y_range;
    disjoint = position.disjoint;
    some_left = position.some_left;
    few_left = few p.turn position.few_left;
  }
    where
      few : (s : Side) → p.left ≤ bias_of g s → p.left ≤ bias_of g (other s)
      few X h = omega (arith, one)
      few Y h = omega (arith, one)

  module _ (v : ℕ) (range : v < point_count g) (free : is_free p v ≡ true) where
    next : (after g p v).turn ≡ other p.turn
    next = turn-alternates g p v position one

    pub more-after : HasMore (other p.turn) v (after g p v) (passed p)
    more-after = record {
      mine = points_of-waiter g p (other p.turn) v (sym (other_other p.turn))
          ∙ sym (same-points p (other p.turn));
      theirs = points_of-mover g p (other (other p.turn)) v (sym (other_other p.turn))
          ∙ ap (λ (s : FinSet nat_cmp). insert s v) (sym (same-points p (other (other p.turn))));
    }

    -- what leads to a line after a move does so where the turn passes instead
    pub line-passed : may_attack g.kind (other p.turn) ≡ true
        → is_over g p ≡ false
        → is_over g (after g p v) ≡ false
        → (points : List ℕ)
        → LeadsToLine g (after g p v) (other p.turn) points
        → IsThreatLine g (passed p) (other p.turn) points
    line-passed may going goes_on points leads = record {
      single = one;
      going = passed-going g p going;
      turn = refl;
      leads = more-leads g (other p.turn) v one points (after g p v) (passed p) (record {
        position = IsPosition-after g p v position range free;
        turn = next;
        unfilled = unfilled-going g (other p.turn) may (after g p v) goes_on;
      }) (record {
        position = passed-position;
        turn = refl;
        unfilled = unfilled-going g (other p.turn) may (passed p) (passed-going g p going);
      }) more-after leads;
    }

    -- Where the turn passes, and the side that is then to move has no threat line of a depth, it
    -- has none after a move of the other side: the move takes only a point from it.
    pub deeper-after : (depth : ℕ)
        → may_attack g.kind (other p.turn) ≡ true
        → is_over g p ≡ false
        → is_over g (after g p v) ≡ false
        → AreDeeper g (passed p) (other p.turn) depth
        → AreDeeper g (after g p v) (other p.turn) depth
    deeper-after depth may going goes_on deeper points line =
        deeper points (line-passed may going goes_on points line.leads)
