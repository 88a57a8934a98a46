-- Games in which X wants its points to pass a test: positions, and answers that force a win.
use Rattle.std.proofs.Common.{◌≡◌, ℕ, ◌<◌, Bool, true, false, not, ◌||◌, ◌⊎◌, cond, inl, inr, refl}
use Rattle.std.proofs.Common.{sym, ap, ◌∙◌, subst}
use Rattle.pg_switch.proofs.Common.{cases_Bool, both_ways, and_parts, and_from, false_from_ne_true}
use Rattle.pg_switch.proofs.Common.{true_from_ne_false, not-true, not_from_false, or_left, or_right}
use Rattle.pg_switch.proofs.Common.{eq-eqb, ne_eqb, FinSet, contains, insert, nat_cmp, plus, minus}
use Rattle.pg_switch.proofs.Common.{below, IsWithin, Win, XWins, YWins, Side, X, Y, other}
use Rattle.pg_switch.proofs.Common.{below_parts, below_from, same_sets, contains-insert_plus}
use Rattle.pg_switch.proofs.Common.{insert-cases, insert-old, insert-self, minus_parts, minus_from}
use Rattle.pg_switch.proofs.Common.{Position, is_free, claims_in_turn, moved, reaches, ForcesBy}
use Rattle.pg_switch.proofs.Common.{IsEnding, KeepsBy, is_free-moved, some_free}
use Rattle.pg_switch.proofs.Common.{ForcesBy-from_keeps, side≢other, side_cases, other_other}
use Rattle.pg_switch.specs.Claims.{kept, claim_rules, IsMonotone, IsPlace}

-- ---- positions after a move

module _ (n : ℕ) (holds : (ℕ → Bool) → Bool) where
  abbrev pub next : Position → ℕ → Position
  next p v = moved (claim_rules n holds) p v

  abbrev free : Position → ℕ → Bool
  free p = below (is_free p) n

  -- the turn passes with each move
  pub turn-next : (p : Position) (v : ℕ) → IsPlace n p → (next p v).turn ≡ other p.turn
  turn-next p v i = rw i.one_left refl

  left-next : (p : Position) (v : ℕ) → IsPlace n p → (next p v).left ≡ 1
  left-next p v i = rw i.one_left (one (other p.turn))
    where
      one : (s : Side) → claims_in_turn 1 s ≡ 1
      one X = refl
      one Y = refl

  pub x-next_x : (p : Position) (v : ℕ) → p.turn ≡ X → (next p v).x ≡ insert p.x v
  x-next_x p v e = rw e refl

  pub x-next_y : (p : Position) (v : ℕ) → p.turn ≡ Y → (next p v).x ≡ p.x
  x-next_y p v e = rw e refl

  pub y-next_y : (p : Position) (v : ℕ) → p.turn ≡ Y → (next p v).y ≡ insert p.y v
  y-next_y p v e = rw e refl

  pub y-next_x : (p : Position) (v : ℕ) → p.turn ≡ X → (next p v).y ≡ p.y
  y-next_x p v e = rw e refl

  free_parts : (p : Position) (v : ℕ)
      → free p v ≡ true
      → (v < n) × (contains p.x v ≡ false) × (contains p.y v ≡ false)
  free_parts p v h =
      let q = below_parts (is_free p) n v h in
      let r : (not (contains p.x v) ≡ true) × (not (contains p.y v) ≡ true) = and_parts _ _ q.0 in
      (q.1, not-true _ r.0, not-true _ r.1)

  inserted : (s : FinSet nat_cmp) (v q : ℕ)
      → contains (insert s v) q ≡ true
      → (q ≡ v) ⊎ (contains s q ≡ true)
  inserted s v q h = elim (insert-cases s v q h) [ inl e ↦ inl e | inr k ↦ inr k ]

  pub IsPlace-next : (p : Position) (v : ℕ) → IsPlace n p → free p v ≡ true → IsPlace n (next p v)
  IsPlace-next p v i h = by p.turn refl
    where
      by : (s : Side) → p.turn ≡ s → IsPlace n (next p v)
      by X e =
          let f = free_parts p v h in
          let x = x-next_x p v e in
          let y = y-next_x p v e in
          record {
            x_range = λ q k.
                elim (inserted p.x v q (subst (λ (s : FinSet nat_cmp). contains s q ≡ true) x k)) [
                  | inl d ↦ subst (λ (w : ℕ). w < n) (sym d) f.0
                  | inr old ↦ i.x_range q old
                ];
            y_range = λ q k. i.y_range q (subst (λ (s : FinSet nat_cmp). contains s q ≡ true) y k);
            disjoint = λ q k. ap (λ (s : FinSet nat_cmp). contains s q) y
                ∙ elim (inserted p.x v q
                (subst (λ (s : FinSet nat_cmp). contains s q ≡ true) x k)) [
                  | inl d ↦ ap (contains p.y) d ∙ f.2
                  | inr old ↦ i.disjoint q old
                ];
            one_left = left-next p v i;
          }
      by Y e =
          let f = free_parts p v h in
          let x = x-next_y p v e in
          let y = y-next_y p v e in
          record {
            x_range = λ q k. i.x_range q (subst (λ (s : FinSet nat_cmp). contains s q ≡ true) x k);
            y_range = λ q k.
                elim (inserted p.y v q (subst (λ (s : FinSet nat_cmp). contains s q ≡ true) y k)) [
                  | inl d ↦ subst (λ (w : ℕ). w < n) (sym d) f.0
                  | inr old ↦ i.y_range q old
                ];
            disjoint = λ q k. ap (λ (s : FinSet nat_cmp). contains s q) y
                ∙ false_from_ne_true _ (λ m.
                let old : contains p.x q ≡ true =
                subst (λ (s : FinSet nat_cmp). contains s q ≡ true) x k in
                elim (inserted p.y v q m) [
                  | inl d ↦ both_ways _ f.1 (subst (λ (w : ℕ). contains p.x w ≡ true) d old)
                  | inr was ↦ both_ways _ (i.disjoint q old) was
                ]);
            one_left = left-next p v i;
          }

  -- a move takes its point from the free ones
  pub free-next : (p : Position) (v : ℕ) → free (next p v) ≡ minus (free p) v
  free-next p v = same_sets _ _ (λ z k.
      let q = below_parts (is_free (next p v)) n z k in
      let r = and_parts _ _ (sym (is_free-moved (claim_rules n holds) p v z) ∙ q.0) in
      minus_from (free p) v z (below_from (is_free p) n z r.1 q.1)
      (λ e. both_ways _ (not-true _ r.0) (eq-eqb z v (sym e)))) (λ z k.
      let q = minus_parts (free p) v z k in
      let r = below_parts (is_free p) n z q.0 in
      below_from (is_free (next p v)) n z (is_free-moved (claim_rules n holds) p v z
      ∙ and_from _ _ (not_from_false _ (ne_eqb z v (λ e. q.1 (sym e)))) r.0) r.1)

  pub x-plus : (p : Position) (v : ℕ) → p.turn ≡ X → contains (next p v).x ≡ plus (contains p.x) v
  x-plus p v e =
      ap (λ (s : FinSet nat_cmp). contains s) (x-next_x p v e) ∙ contains-insert_plus p.x v

  pub x-same : (p : Position) (v : ℕ) → p.turn ≡ Y → contains (next p v).x ≡ contains p.x
  x-same p v e = ap (λ (s : FinSet nat_cmp). contains s) (x-next_y p v e)

  pub kept-same : (m : ℕ) (p : Position) (v : ℕ) → p.turn ≡ X → kept m (next p v) ≡ kept m p
  kept-same m p v e =
      ap (λ (s : FinSet nat_cmp). below (λ f. not (contains s f)) m) (y-next_x p v e)

  pub kept-minus : (m : ℕ) (p : Position) (v : ℕ)
      → p.turn ≡ Y
      → kept m (next p v) ≡ minus (kept m p) v
  kept-minus m p v e =
      ap (λ (s : FinSet nat_cmp). below (λ f. not (contains s f)) m) (y-next_y p v e)
      ∙ same_sets _ _ (λ z k.
      let q = below_parts (λ f. not (contains (insert p.y v) f)) m z k in
      let out = not-true _ q.0 in
      minus_from (kept m p) v z (below_from (λ f. not (contains p.y f)) m z
      (not_from_false _ (false_from_ne_true _ (λ i. both_ways _ out (insert-old p.y v z i)))) q.1)
      (λ d. both_ways _ out
      (subst (λ (w : ℕ). contains (insert p.y v) w ≡ true) d (insert-self p.y v)))) (λ z k.
      let q = minus_parts (kept m p) v z k in
      let r = below_parts (λ f. not (contains p.y f)) m z q.0 in
      below_from (λ f. not (contains (insert p.y v) f)) m z
      (not_from_false _ (false_from_ne_true _ (λ i. elim (inserted p.y v z i) [
        | inl d ↦ absurd (q.1 (sym d))
        | inr old ↦ both_ways _ (not-true _ r.0) old
      ]))) r.1)

  pub x-kept : (p : Position) → IsPlace n p → IsWithin (contains p.x) (kept n p)
  x-kept p i z k =
      below_from (λ f. not (contains p.y f)) n z (not_from_false _ (i.disjoint z k)) (i.x_range z k)

  pub free-kept : (p : Position) → IsWithin (free p) (kept n p)
  free-kept p z k =
      let f = free_parts p z k in
      below_from (λ q. not (contains p.y q)) n z (not_from_false _ f.2) f.0

  -- ---- the end

  -- where no point is free the points that aren't Y's are X's
  pub IsEnding-claims : IsMonotone holds → IsEnding (claim_rules n holds)
  IsEnding-claims more = record {
    full = λ p none. elim (cases_Bool (holds (kept n p))) [
      | inl on ↦ or_left (holds (contains p.x)) _ (more (kept n p) (contains p.x) (λ z k.
          let q = below_parts (λ f. not (contains p.y f)) n z k in
          taken p z (none z q.1) (not-true _ q.0)) on)
      | inr off ↦ or_right (holds (contains p.x)) _ (not_from_false _ off)
    ];
  } where
    taken : (p : Position) (z : ℕ)
        → is_free p z ≡ false
        → contains p.y z ≡ false
        → contains p.x z ≡ true
    taken p z no_free out = true_from_ne_false _
        (λ k. both_ways _ no_free (and_from _ _ (not_from_false _ k) (not_from_false _ out)))

  pub x_wins : (p : Position)
      → (claim_rules n holds).over p ≡ true
      → holds (kept n p) ≡ true
      → reaches X Win ((claim_rules n holds).outcome p) ≡ true
  x_wins p over on = by (holds (contains p.x)) (holds (kept n p)) over on
    where
      by : (j c : Bool) → (j || not c) ≡ true → c ≡ true → reaches X Win (cond j XWins YWins) ≡ true
      by true c over on = refl
      by false true over on = absurd (both_ways _ refl over)
      by false false over on = absurd (both_ways _ refl on)

  pub y_wins : (p : Position)
      → holds (contains p.x) ≡ false
      → reaches Y Win ((claim_rules n holds).outcome p) ≡ true
  y_wins p off = by (holds (contains p.x)) off
    where
      by : (j : Bool) → j ≡ false → reaches Y Win (cond j XWins YWins) ≡ true
      by true e = absurd (both_ways _ e refl)
      by false e = refl

  -- ---- either side: its state stands where the other side is to move, and it is owed an answer
  -- where the side itself is

  record IsReady (side : Side) (Stand Owed : Position → Type 0) (p : Position) : Type 0 where
    pub place : IsPlace n p
    pub state : ((p.turn ≡ side) × Owed p) ⊎ ((p.turn ≡ other side) × Stand p)

  -- what meets every reply: what stands counts as owed, either ends well, an answer makes it stand,
  -- and a reply leaves it owed
  pub record CanAnswer (side : Side) (Stand Owed : Position → Type 0) : Type 0 where
    pub owed : (p : Position) → Stand p → Owed p
    pub ends : (p : Position)
        → IsPlace n p
        → Owed p
        → (claim_rules n holds).over p ≡ true
        → reaches side Win ((claim_rules n holds).outcome p) ≡ true
    pub own : (p : Position)
        → IsPlace n p
        → Owed p
        → p.turn ≡ side
        → (z : ℕ) → free p z ≡ true
        → (v : ℕ) × (free p v ≡ true) × Stand (next p v)
    pub theirs : (p : Position)
        → IsPlace n p
        → Stand p
        → p.turn ≡ other side
        → (v : ℕ) → free p v ≡ true
        → Owed (next p v)

  module _ (more : IsMonotone holds) (side : Side) (Stand Owed : Position → Type 0)
      (answers : CanAnswer side Stand Owed) where
    owed_now : (p : Position) → IsReady side Stand Owed p → Owed p
    owed_now p i = elim i.state [ inl s ↦ s.1 | inr s ↦ answers.owed p s.1 ]

    ready_own : (p : Position)
        → IsReady side Stand Owed p
        → (claim_rules n holds).over p ≡ false
        → p.turn ≡ side
        → (v : ℕ) × (v < n) × (is_free p v ≡ true) × IsReady side Stand Owed (next p v)
    ready_own p i going mine =
        let z = some_free (claim_rules n holds) (IsEnding-claims more) p going in
        let a =
        answers.own p i.place (owed_now p i) mine z.0 (below_from (is_free p) n z.0 z.2 z.1) in
        let q = below_parts (is_free p) n a.0 a.1 in (
          a.0,
          q.1,
          q.0,
          record {
            place = IsPlace-next p a.0 i.place a.1;
            state = inr (turn-next p a.0 i.place ∙ ap other mine, a.2);
          },
        )

    ready_theirs : (p : Position)
        → IsReady side Stand Owed p
        → p.turn ≡ other side
        → (v : ℕ) → v < n
        → is_free p v ≡ true
        → IsReady side Stand Owed (next p v)
    ready_theirs p i yours v within free_v = elim i.state [
      | inl s ↦ absurd (side≢other side (sym s.0 ∙ yours))
      | inr s ↦
          let open_v = below_from (is_free p) n v free_v within in
          record {
            place = IsPlace-next p v i.place open_v;
            state = inl (
              turn-next p v i.place ∙ ap other yours ∙ other_other side,
              answers.theirs p i.place s.1 yours v open_v,
            );
          }
    ]

    keeps-ready : KeepsBy (claim_rules n holds) side Win (IsReady side Stand Owed)
    keeps-ready = record {
      ends = λ p i over. answers.ends p i.place (owed_now p i) over;
      own = ready_own;
      theirs = λ p i going yours v within free_v. ready_theirs p i yours v within free_v;
    }

    -- what stands, or is owed an answer, forces the side's win
    pub forces-ready : (p : Position)
        → IsPlace n p
        → (p.turn ≡ side → Owed p)
        → (p.turn ≡ other side → Stand p)
        → ForcesBy (claim_rules n holds) p side Win
    forces-ready p place owed stands = ForcesBy-from_keeps (claim_rules n holds)
        (IsEnding-claims more) side Win keeps-ready p (record {
          place = place;
          state = elim (side_cases p.turn side) [
            | inl mine ↦ inl (mine, owed mine)
            | inr yours ↦ inr (yours, stands yours)
          ];
        })
