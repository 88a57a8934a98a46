-- What a round changes, and the times at which points are taken.
use Rattle.std.proofs.Common.{◌≡◌, ◌≢◌, ◌⊎◌, ℕ, zero, suc, ◌+◌, ◌<◌, ◌≤◌, true, false, List, length}
use Rattle.std.proofs.Common.{get_or, set, sym, ap, ◌∙◌, subst, inl, inr, arith}
use Rattle.pg_check.proofs.Common.{cases_eq, cases_lt, and_from, not_from_false, false≢true}
use Rattle.pg_check.proofs.Common.{length-set, get_or-set_same, get_or-set_other, contains, other}
use Rattle.pg_check.proofs.Common.{Side, X, Y, Game, Position, is_free, points_of, after}
use Rattle.pg_check.proofs.Common.{has_filled, IsPosition, other_other, points_of-waiter}
use Rattle.pg_check.proofs.Common.{points-stay, points-from, turn-alternates, free-of, free-was}
use Rattle.pg_check.proofs.Common.{IsPosition-after, filled-waits, unfilled-safe}
use Rattle.std.proofs.Math.Numerals.{add-one}
use Rattle.pg_check.specs.Rounds.{attack_at, reply_at, before_round, attacked, IsRound, AreRounds}
use Rattle.pg_check.specs.Rounds.{AreTimes, IsSafe}

-- ---- tables

-- a point is one of two, or neither
one_of : (q a b : ℕ) → ((q ≡ a) ⊎ (q ≡ b)) ⊎ ((q ≢ a) × (q ≢ b))
one_of q a b = elim (cases_eq q a) [
  | inl e ↦ inl (inl e)
  | inr na ↦ elim (cases_eq q b) [ inl e ↦ inl (inr e) | inr nb ↦ inr (na, nb) ]
]

-- two entries are made
marked : (times : List ℕ) (a b x q : ℕ) → a < length times → b < length times → (q ≡ a) ⊎ (q ≡ b)
    → get_or (set (set times a x) b x) q 0 ≡ x
marked times a b x q a_in b_in here = elim (cases_eq q b) [
  | inl e ↦
      ap (λ (j : ℕ). get_or (set (set times a x) b x) j 0) e
      ∙ get_or-set_same (set times a x) b x 0 (subst (λ (n : ℕ). b < n) (sym (length-set times a x))
      b_in)
  | inr nb ↦
      get_or-set_other (set times a x) b q x 0 nb
      ∙ elim here [
        | inl e ↦ ap (λ (j : ℕ). get_or (set times a x) j 0) e ∙ get_or-set_same times a x 0 a_in
        | inr e ↦ absurd (nb e)
      ]
]

unmarked : (times : List ℕ) (a b x q : ℕ) → q ≢ a → q ≢ b
    → get_or (set (set times a x) b x) q 0 ≡ get_or times q 0
unmarked times a b x q na nb =
    get_or-set_other (set times a x) b q x 0 nb ∙ get_or-set_other times a q x 0 na

-- a point that neither side has is free
pub free-from : (p : Position) (side : Side) (v : ℕ) → contains (points_of p side) v ≡ false
    → contains (points_of p (other side)) v ≡ false → is_free p v ≡ true
free-from p X v own theirs = and_from _ _ (not_from_false _ own) (not_from_false _ theirs)
free-from p Y v own theirs = and_from _ _ (not_from_false _ theirs) (not_from_false _ own)

-- the side is to move
pub record IsTurn (g : Game) (side : Side) (q : Position) : Type 0 where
  pub position : IsPosition g q
  pub turn : q.turn ≡ side

module _ (g : Game) (p : Position) (points : List ℕ) where
  -- ---- points stay

  pub round-more : (i : ℕ) → before_round g p points (i + 1) ≡ after g (attacked g p points i)
      (reply_at points i)
  unfolding before_round
  round-more i = ap (before_round g p points) (add-one i)

  pub attack-stays : (s : Side) (i q : ℕ) → contains (points_of (before_round g p points i) s) q ≡
      true
      → contains (points_of (attacked g p points i) s) q ≡ true
  attack-stays s i q h = points-stay g (before_round g p points i) s (attack_at points i) q h

  pub reply-stays : (s : Side) (i q : ℕ) → contains (points_of (attacked g p points i) s) q ≡ true
      → contains (points_of (before_round g p points (i + 1)) s) q ≡ true
  reply-stays s i q h =
      ap (λ (r : Position). contains (points_of r s) q) (round-more i)
      ∙ points-stay g (attacked g p points i) s (reply_at points i) q h

  pub grows : (s : Side) (k n q : ℕ) → k ≤ n
      → contains (points_of (before_round g p points k) s) q ≡ true
      → contains (points_of (before_round g p points n) s) q ≡ true
  grows s k zero q le h =
      let e : k ≡ 0 = omega arith in
      subst (λ (j : ℕ). contains (points_of (before_round g p points j) s) q ≡ true) e h
  grows s k (suc n) q le h = elim (cases_eq k (suc n)) [
    | inl e ↦ subst (λ (j : ℕ). contains (points_of (before_round g p points j) s) q ≡ true) e h
    | inr ne ↦
        let before = grows s k n q (omega arith) h in
        subst (λ (j : ℕ). contains (points_of (before_round g p points j) s) q ≡ true) (add-one n)
        (reply-stays s n q (attack-stays s n q before))
  ]

  -- what a side has after a round it had before, or it is one of the two points
  from-round : (s : Side) (i q : ℕ) → contains (points_of (before_round g p points (i + 1)) s) q ≡
      true
      → (contains (points_of (before_round g p points i) s) q ≡ true) ⊎
      ((q ≡ attack_at points i) ⊎ (q ≡ reply_at points i))
  from-round s i q h =
      let here = sym (ap (λ (r : Position). contains (points_of r s) q) (round-more i)) ∙ h in
      elim (points-from g (attacked g p points i) s (reply_at points i) q here) [
        | inl old ↦ elim (points-from g (before_round g p points i) s (attack_at points i) q old) [
          | inl older ↦ inl older
          | inr new ↦ inr (inl new.1)
        ]
        | inr new ↦ inr (inr new.1)
      ]

  -- the points of a round weren't taken before it
  not_before : (s : Side) (i k q : ℕ) → IsRound g p points i → k ≤ i
      → (q ≡ attack_at points i) ⊎ (q ≡ reply_at points i)
      → contains (points_of (before_round g p points k) s) q ≡ true → ⊥
  not_before s i k q round le here h =
      let later = grows s k i q le h in
      elim here [
        | inl e ↦ false≢true (sym (free-of (before_round g p points i) s (attack_at points i)
            round.attack.free)
            ∙ sym (ap (contains (points_of (before_round g p points i) s)) e) ∙ later)
        | inr e ↦
            let free = (free-was g (before_round g p points i) (attack_at points i)
            (reply_at points i) round.reply.free).0 in
            false≢true (sym (free-of (before_round g p points i) s (reply_at points i) free)
            ∙ sym (ap (contains (points_of (before_round g p points i) s)) e) ∙ later)
      ]

  -- ---- times

  -- at first no point needs one
  pub times-none : (times : List ℕ) → ((q : ℕ) → get_or times q 0 ≡ 0) → AreTimes g p points 0 times
  times-none times zeros = record {
    late = λ side q k le h. omega (arith, zeros q);
    early = λ side q k le h small.
        let e : 0 ≡ k = omega arith in
        subst (λ (j : ℕ). contains (points_of (before_round g p points j) side) q ≡ true) e h;
  }

  module _ (i : ℕ) (times : List ℕ) (a b : ℕ) (is_a : a ≡ attack_at points i)
      (is_b : b ≡ reply_at points i)
      (a_in : a < length times) (b_in : b < length times) (round : IsRound g p points i)
      (h : AreTimes g p points i times) where
    here : (q : ℕ) → (q ≡ a) ⊎ (q ≡ b) → (q ≡ attack_at points i) ⊎ (q ≡ reply_at points i)
    here q e = elim e [ inl e ↦ inl (e ∙ is_a) | inr e ↦ inr (e ∙ is_b) ]

    old_one : (s : Side) (q : ℕ) → q ≢ a → q ≢ b
        → contains (points_of (before_round g p points (i + 1)) s) q ≡ true
        → contains (points_of (before_round g p points i) s) q ≡ true
    old_one s q na nb on = elim (from-round s i q on) [
      | inl old ↦ old
      | inr new ↦ elim new [
        | inl e ↦ absurd (na (e ∙ sym is_a))
        | inr e ↦ absurd (nb (e ∙ sym is_b))
      ]
    ]

    late-more : (s : Side) (q k : ℕ) → k ≤ i + 1
        → contains (points_of (before_round g p points k) s) q ≡ true
        → get_or (set (set times a (i + 1)) b (i + 1)) q 0 ≤ k
    late-more s q k le on = elim (one_of q a b) [
      | inl e ↦
          let time = marked times a b (i + 1) q a_in b_in e in
          elim (cases_lt k (i + 1)) [
            | inl lt ↦ absurd (not_before s i k q round (omega arith) (here q e) on)
            | inr ge ↦ omega (arith, time)
          ]
      | inr ne ↦
          let time = unmarked times a b (i + 1) q ne.0 ne.1 in
          elim (cases_lt k (i + 1)) [
            | inl lt ↦
                let old = h.late s q k (omega arith) on in
                omega (arith, time, old)
            | inr ge ↦
                let same : k ≡ i + 1 = omega arith in
                let later = old_one s q ne.0 ne.1 (subst (λ (j : ℕ). contains
                (points_of (before_round g p points j) s) q ≡ true) same on) in
                let old = h.late s q i (omega arith) later in
                omega (arith, time, old)
          ]
    ]

    early-more : (s : Side) (q k : ℕ) → k ≤ i + 1
        → contains (points_of (before_round g p points (i + 1)) s) q ≡ true
        → get_or (set (set times a (i + 1)) b (i + 1)) q 0 ≤ k
        → contains (points_of (before_round g p points k) s) q ≡ true
    early-more s q k le on small = elim (cases_lt k (i + 1)) [
      | inr ge ↦
          let same : i + 1 ≡ k = omega arith in
          subst (λ (j : ℕ). contains (points_of (before_round g p points j) s) q ≡ true) same on
      | inl lt ↦ elim (one_of q a b) [
        | inl e ↦
            let time = marked times a b (i + 1) q a_in b_in e in
            absurd (omega (arith, time, small))
        | inr ne ↦
            let time = unmarked times a b (i + 1) q ne.0 ne.1 in
            h.early s q k (omega arith) (old_one s q ne.0 ne.1 on) (omega (arith, time, small))
      ]
    ]

    pub times-more : AreTimes g p points (i + 1) (set (set times a (i + 1)) b (i + 1))
    times-more = record { late = late-more; early = early-more }

  -- one more round
  pub rounds-more : (i : ℕ) → IsRound g p points i → AreRounds g p points i
      → AreRounds g p points (i + 1)
  rounds-more i round before j lt = elim (cases_eq j i) [
    | inl e ↦ subst (λ (k : ℕ). IsRound g p points k) (sym e) round
    | inr ne ↦ before j (omega arith)
  ]

  -- ---- whose turn it is

  module _ (side : Side) (one : g.bias ≡ 1) (start : IsTurn g side p) where
    turn-attacked : (i : ℕ) → IsRound g p points i → IsTurn g side (before_round g p points i)
        → IsTurn g (other side) (attacked g p points i)
    turn-attacked i round h = record {
      position = IsPosition-after g (before_round g p points i) (attack_at points i) h.position
          round.attack.range round.attack.free;
      turn = turn-alternates g (before_round g p points i) (attack_at points i) h.position one
          ∙ ap other h.turn;
    }

    turn-replied : (i : ℕ) → IsRound g p points i → IsTurn g (other side) (attacked g p points i)
        → IsTurn g side (before_round g p points (i + 1))
    turn-replied i round h = subst (λ (q : Position). IsTurn g side q) (sym (round-more i))
        (record {
          position = IsPosition-after g (attacked g p points i) (reply_at points i) h.position
              round.reply.range round.reply.free;
          turn = turn-alternates g (attacked g p points i) (reply_at points i) h.position one
              ∙ ap other h.turn ∙ other_other side;
        })

    pub turn-before : (i : ℕ) → AreRounds g p points i → IsTurn g side (before_round g p points i)
    unfolding before_round
    turn-before zero rounds = start
    turn-before (suc i) rounds =
        let before = turn-before i (λ j lt. rounds j (omega arith)) in
        let round = rounds i (omega arith) in
        subst (λ (j : ℕ). IsTurn g side (before_round g p points j)) (add-one i)
        (turn-replied i round (turn-attacked i round before))

    module _ (count : ℕ) (rounds : AreRounds g p points count) where
      pub turn-in : (i : ℕ) → i ≤ count → IsTurn g side (before_round g p points i)
      turn-in i le = turn-before i (λ j lt. rounds j (omega arith))

      pub turn-of : (i : ℕ) → i < count → IsTurn g (other side) (attacked g p points i)
      turn-of i lt = turn-attacked i (rounds i lt) (turn-in i (omega arith))

      -- the attack leaves the other side's points, and the reply the attacker's
      pub theirs-attacked : (i : ℕ) → i < count
          → points_of (attacked g p points i) (other side) ≡ points_of (before_round g p points i)
          (other side)
      theirs-attacked i lt =
          points_of-waiter g (before_round g p points i) (other side) (attack_at points i)
          ((turn-in i (omega arith)).turn ∙ sym (other_other side))

      pub mine-replied : (i : ℕ) → i < count → points_of (before_round g p points (i + 1)) side ≡
          points_of (attacked g p points i) side
      mine-replied i lt =
          ap (λ (q : Position). points_of q side) (round-more i)
          ∙ points_of-waiter g (attacked g p points i) side (reply_at points i) (turn-of i lt).turn

      pub filled-replied : (i : ℕ) → i < count → has_filled g (before_round g p points (i + 1)) side
          ≡ has_filled g (attacked g p points i) side
      filled-replied i lt =
          ap (λ (q : Position). has_filled g q side) (round-more i)
          ∙ filled-waits g (attacked g p points i) side (reply_at points i) (turn-of i lt).turn

      -- who never has a threat fills no line
      pub theirs-unfilled : has_filled g p (other side) ≡ false → IsSafe g p points count side
          → (i : ℕ) → i ≤ count
          → has_filled g (before_round g p points i) (other side) ≡ false
      unfolding before_round
      theirs-unfilled none safe zero le = none
      theirs-unfilled none safe (suc i) le =
          let lt : i < count = omega arith in
          let still =
          filled-waits g (before_round g p points i) (other side) (attack_at points i)
          ((turn-in i (omega arith)).turn ∙ sym (other_other side))
          ∙ theirs-unfilled none safe i (omega arith) in
          let later = unfilled-safe g (attacked g p points i) (other side) (reply_at points i)
          (turn-of i lt).turn (rounds i lt).reply.free still (safe i lt) in
          ap (λ (j : ℕ). has_filled g (before_round g p points j) (other side)) (sym (add-one i))
          ∙ ap (λ (q : Position). has_filled g q (other side)) (round-more i) ∙ later
