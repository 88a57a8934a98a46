-- Threat lines by their rounds.
use Rattle.std.proofs.Common.{◌≡◌, ◌↔◌, ℕ, zero, suc, ◌+◌, ◌-◌, ◌*◌, ◌/◌, ◌%◌, ◌<◌, ◌≤◌, Bool, true}
use Rattle.std.proofs.Common.{false, ◌||◌, ◌==◌, nat_le, if◌then◌else◌, List, [], ◌∷◌, length}
use Rattle.std.proofs.Common.{get_or, replicate, refl, sym, ap, ◌∙◌, subst, subst₂, inl, inr, arith}
use Rattle.std.proofs.Common.{eqb-true}
use Rattle.std.specs.Prelude.{Option, Some, None}
use Rattle.pg_check.proofs.Common.{cases_Bool, cases_lt, and_parts, and_from, or_cases, or_left}
use Rattle.pg_check.proofs.Common.{or_right, le-leb, leb-true, false≢true, is_some, Contains}
use Rattle.pg_check.proofs.Common.{list_any, list_all, FinSet, contains, nat_cmp, other, Side, Kind}
use Rattle.pg_check.proofs.Common.{MakerMaker, Game, Position, is_free, points_of, after, lines_of}
use Rattle.pg_check.proofs.Common.{has_filled, is_filled, is_over, is_on, is_near, may_attack}
use Rattle.pg_check.proofs.Common.{Forcing, Filling, LeadsToLine, true-at, false-at, list_any-one}
use Rattle.pg_check.proofs.Common.{list_any-none, member-from_any, free-of, unfilled-going}
use Rattle.pg_base.specs.declared.score.Score.{Score}
use Rattle.pg_check.specs.Lacked.{filled_but}
use Rattle.pg_check.specs.Rounds.{attack_at, reply_at, before_round, attacked, AreRounds, taken_at}
use Rattle.pg_check.specs.Rounds.{AreTimes, WasNear, IsSafe, AreForced, LacksLate, IsClear}
use Rattle.pg_check.specs.Rounds.{IsAtMove}
use Rattle.pg_check.proofs.ThreatTests.{threatens-fills}
use Rattle.pg_check.proofs.RoundSteps.{IsTurn, free-from, attack-stays, reply-stays, grows}
use Rattle.pg_check.proofs.RoundSteps.{theirs-attacked, mine-replied, filled-replied}
use Rattle.pg_check.proofs.RoundSteps.{theirs-unfilled}

-- ---- a list without its first round

module _ (g : Game) (p : Position) (v u : ℕ) (others : List ℕ) where
  later-attack : (i : ℕ) → attack_at (v ∷ (u ∷ others)) (suc i) ≡ attack_at others i
  later-attack i =
      let e : 2 * suc i ≡ suc (suc (2 * i)) = omega arith in
      ap (λ (j : ℕ). get_or (v ∷ (u ∷ others)) j 0) e

  later-reply : (i : ℕ) → reply_at (v ∷ (u ∷ others)) (suc i) ≡ reply_at others i
  later-reply i =
      let e : 2 * suc i + 1 ≡ suc (suc (2 * i + 1)) = omega arith in
      ap (λ (j : ℕ). get_or (v ∷ (u ∷ others)) j 0) e

  later-before : (i : ℕ) → before_round g p (v ∷ (u ∷ others)) (suc i) ≡ before_round g
      (after g (after g p v) u) others i
  unfolding before_round
  later-before zero = refl
  later-before (suc i) =
      ap (λ (q : Position). after g (after g q (attack_at (v ∷ (u ∷ others)) (suc i)))
      (reply_at (v ∷ (u ∷ others)) (suc i))) (later-before i)
      ∙ ap (λ (x : ℕ). after g (after g (before_round g (after g (after g p v) u) others i) x)
      (reply_at (v ∷ (u ∷ others)) (suc i))) (later-attack i)
      ∙ ap (λ (x : ℕ). after g (after g (before_round g (after g (after g p v) u) others i)
      (attack_at others i)) x) (later-reply i)

-- ---- a list by its rounds

-- each reply of the first rounds is forced
abbrev pub Forces : Game → Position → List ℕ → ℕ → Side → Type 0
Forces g p points count side =
    (i : ℕ) → i < count → Forcing g (before_round g p points i) side (attack_at points i)
    (reply_at points i)

module _ (g : Game) (side : Side) where
  pub leads-to : (points : List ℕ) (p : Position) (count : ℕ) → length points ≡ 2 * count + 1
      → Forces g p points count side
      → Filling g (before_round g p points count) side (attack_at points count)
      → LeadsToLine g p side points
  unfolding before_round
  leads-to [] p count long forcing filling = absurd (omega arith)
  leads-to (v ∷ []) p zero long forcing filling = filling
  leads-to (v ∷ []) p (suc count) long forcing filling = absurd (omega arith)
  leads-to (v ∷ (u ∷ others)) p zero long forcing filling = absurd (omega arith)
  leads-to (v ∷ (u ∷ others)) p (suc count) long forcing filling = (
    forcing 0 (omega arith),
    leads-to others (after g (after g p v) u) count (omega arith)
        (λ i lt. subst (λ (q : Position). Forcing g q side (attack_at others i) (reply_at others i))
        (later-before g p v u others i)
        (subst₂ (λ (x y : ℕ). Forcing g (before_round g p (v ∷ (u ∷ others)) (suc i)) side x y)
        (later-attack g p v u others i) (later-reply g p v u others i)
        (forcing (suc i) (omega arith))))
        (subst₂ (λ (q : Position) (x : ℕ). Filling g q side x) (later-before g p v u others count)
        (later-attack g p v u others count) filling),
  )

  pub leads-odd : (points : List ℕ) (p : Position) → LeadsToLine g p side points
      → length points % 2 ≡ 1
  leads-odd [] p h = absurd h
  leads-odd (v ∷ []) p h = refl
  leads-odd (v ∷ (u ∷ others)) p h =
      let rest = leads-odd others (after g (after g p v) u) h.1 in
      omega (arith, rest)

  pub leads-filling : (points : List ℕ) (p : Position) (count : ℕ) → length points ≡ 2 * count + 1
      → LeadsToLine g p side points
      → Filling g (before_round g p points count) side (attack_at points count)
  unfolding before_round
  leads-filling [] p count long h = absurd h
  leads-filling (v ∷ []) p zero long h = h
  leads-filling (v ∷ []) p (suc count) long h = absurd (omega arith)
  leads-filling (v ∷ (u ∷ others)) p zero long h = absurd (omega arith)
  leads-filling (v ∷ (u ∷ others)) p (suc count) long h =
      subst₂ (λ (q : Position) (x : ℕ). Filling g q side x)
      (sym (later-before g p v u others count)) (sym (later-attack g p v u others count))
      (leads-filling others (after g (after g p v) u) count (omega arith) h.1)

  pub leads-forcing : (points : List ℕ) (p : Position) (count : ℕ) → length points ≡ 2 * count + 1
      → LeadsToLine g p side points → Forces g p points count side
  unfolding before_round
  leads-forcing [] p count long h i lt = absurd h
  leads-forcing (v ∷ []) p count long h i lt = absurd (omega arith)
  leads-forcing (v ∷ (u ∷ others)) p count long h zero lt = h.0
  leads-forcing (v ∷ (u ∷ others)) p zero long h (suc i) lt = absurd (omega arith)
  leads-forcing (v ∷ (u ∷ others)) p (suc count) long h (suc i) lt =
      subst (λ (q : Position). Forcing g q side (attack_at (v ∷ (u ∷ others)) (suc i))
      (reply_at (v ∷ (u ∷ others)) (suc i))) (sym (later-before g p v u others i))
      (subst₂ (λ (x y : ℕ). Forcing g (before_round g (after g (after g p v) u) others i) side x y)
      (sym (later-attack g p v u others i)) (sym (later-reply g p v u others i))
      (leads-forcing others (after g (after g p v) u) count (omega arith) h.1 i (omega arith)))

-- ---- tests of all points of a line

all-weaker : (t r : ℕ → Bool) (line : List ℕ) → ((q : ℕ) → t q ≡ true → r q ≡ true)
    → list_all t line ≡ true → list_all r line ≡ true
all-weaker t r [] each h = refl
all-weaker t r (q ∷ line) each h =
    let parts = and_parts (t q) _ h in
    and_from (r q) _ (each q parts.0) (all-weaker t r line each parts.1)

all-both : (t s r : ℕ → Bool) (line : List ℕ) → ((q : ℕ) → t q ≡ true → s q ≡ true → r q ≡ true)
    → list_all t line ≡ true → list_all s line ≡ true → list_all r line ≡ true
all-both t s r [] each h k = refl
all-both t s r (q ∷ line) each h k =
    let one = and_parts (t q) _ h in
    let two = and_parts (s q) _ k in
    and_from (r q) _ (each q one.0 two.0) (all-both t s r line each one.1 two.1)

-- a set within another fills no more
filled-within : (lines : List (List ℕ)) (s t : FinSet nat_cmp)
    → ((q : ℕ) → contains s q ≡ true → contains t q ≡ true)
    → list_any (is_filled t) lines ≡ false → list_any (is_filled s) lines ≡ false
filled-within lines s t within none = elim (cases_Bool (list_any (is_filled s) lines)) [
  | inl on ↦
      let found = member-from_any (is_filled s) lines on in
      absurd (false≢true (sym none ∙ list_any-one (is_filled t) lines found.0 found.1
      (all-weaker (contains s) (contains t) found.0 within found.2)))
  | inr off ↦ off
]

-- ---- what the rounds of a list owe

module _ (g : Game) (p : Position) (side : Side) (points : List ℕ) (count : ℕ)
    (rounds : AreRounds g p points count)
    (one : g.bias ≡ 1) (start : IsTurn g side p) where
  -- who hasn't filled a line at the end hasn't after any attack
  pub mine-unfilled : has_filled g (before_round g p points count) side ≡ false → (i : ℕ)
      → i < count → has_filled g (attacked g p points i) side ≡ false
  mine-unfilled none i lt =
      filled-within (lines_of g) (points_of (attacked g p points i) side)
      (points_of (before_round g p points count) side)
      (λ q on. grows g p points side (i + 1) count q (omega arith)
      (reply-stays g p points side i q on)) none

  pub rounds-lead : length points ≡ 2 * count + 1
      → has_filled g (before_round g p points count) side ≡ false
      → Filling g (before_round g p points count) side (attack_at points count)
      → (g.kind ≡ MakerMaker → IsSafe g p points count side)
      → AreForced g p points count side → LeadsToLine g p side points
  rounds-lead long none filling safe forced =
      leads-to g side points p count long
      (λ i lt. record {
        attack = (rounds i lt).attack;
        fills_none = mine-unfilled none i lt;
        threat
            = forced i lt;
        safe = λ e. safe e i lt;
      })
      filling

-- the rounds of a list that leads to a line
pub lead-rounds : (g : Game) (p : Position) (side : Side) (points : List ℕ) (count : ℕ)
    → length points ≡ 2 * count + 1 → LeadsToLine g p side points
    → AreRounds g p points count
lead-rounds g p side points count long h i lt =
    let forcing = leads-forcing g side points p count long h i lt in
    record {
      attack = forcing.attack;
      reply =
          (threatens-fills g (attacked g p points i) side (reply_at points i) forcing.threat).0;
    }

-- before the last attack no line is filled
pub lead-unfilled : (g : Game) (p : Position) (side : Side) (points : List ℕ) (count : ℕ)
    → g.bias ≡ 1 → IsTurn g side p → length points ≡ 2 * (count + 1) + 1
    → LeadsToLine g p side points → has_filled g (before_round g p points (count + 1)) side ≡ false
lead-unfilled g p side points count one start long h =
    filled-replied g p points side one start (count + 1)
    (lead-rounds g p side points (count + 1) long h) count (omega arith)
    ∙ (leads-forcing g side points p (count + 1) long h count (omega arith)).fills_none

-- ---- lines that the other side nearly fills

module _ (g : Game) (p : Position) (side : Side) (points : List ℕ) (count : ℕ) (times : List ℕ)
    (rounds : AreRounds g p points count)
    (one : g.bias ≡ 1) (start : IsTurn g side p) (timed : AreTimes g p points count times)
    (line : List ℕ) where
  -- the point that was lacked then
  record Lacks (w : ℕ) : Type 0 where
    round : ℕ
    before : round < count
    free : is_free (attacked g p points round) w ≡ true
    on : is_on w line ≡ true
    rest : list_all (λ q. q == w || contains (points_of (attacked g p points round) (other side)) q)
        line ≡ true

  lacks-from : WasNear g p points count side line → (w : ℕ) × Lacks w
  lacks-from h =
      let found = member-from_any (is_near (attacked g p points h.round) (other side) line) line
      h.near in
      let free = and_parts (is_free (attacked g p points h.round) found.0) _ found.2 in
      let parts = and_parts (is_on found.0 line) _ free.1 in (
        found.0,
        record {
          round = h.round;
          before = h.before;
          free = free.0;
          on = parts.0;
          rest =
              parts.1;
        },
      )

  -- the other side's points after an attack are its points at the end, and have their times
  theirs-kept : (i q : ℕ) → i < count → contains (points_of (attacked g p points i) (other side)) q
      ≡ true
      → contains (points_of (before_round g p points count) (other side)) q ≡ true
  theirs-kept i q lt on = grows g p points (other side) (i + 1) count q (omega arith)
      (reply-stays g p points (other side) i q on)

  theirs-early : (i q : ℕ) → i < count → contains (points_of (attacked g p points i) (other side)) q
      ≡ true → get_or times q 0 ≤ i
  theirs-early i q lt on =
      timed.late (other side) q i (omega arith)
      (sym (ap (λ (s : FinSet nat_cmp). contains s q)
      (theirs-attacked g p points side one start count rounds i lt)) ∙ on)

  -- at the end it lacks that point still, unless it has filled the line
  still-lacked : (w : ℕ) → Lacks w → is_filled
      (points_of (before_round g p points count) (other side)) line ≡ false
      → contains (points_of (before_round g p points count) (other side)) w ≡ false
  still-lacked w h none = elim (cases_Bool (contains
      (points_of (before_round g p points count) (other side)) w)) [
        | inr off ↦ off
        | inl on ↦
            absurd (false≢true (sym none ∙ all-weaker
            (λ q. q == w || contains (points_of (attacked g p points h.round) (other side)) q)
            (contains (points_of (before_round g p points count) (other side))) line
            (λ q here. elim (or_cases (q == w) _ here) [
              | inl e ↦ ap (contains (points_of (before_round g p points count) (other side)))
                  (eqb-true q w e) ∙ on
              | inr own ↦ theirs-kept h.round q h.before own
            ]) h.rest))
      ]

  still-filled : (w : ℕ) → Lacks w → filled_but
      (points_of (before_round g p points count) (other side)) w line ≡ true
  still-filled w h =
      all-weaker (λ q. q == w || contains (points_of (attacked g p points h.round) (other side)) q)
      (λ q. q == w || contains (points_of (before_round g p points count) (other side)) q) line
      (λ q here. elim (or_cases (q == w) _ here) [
        | inl e ↦ or_left (q == w) _ e
        | inr own ↦ or_right (q == w) _ (theirs-kept h.round q h.before own)
      ]) h.rest

  module _ (w taken : ℕ) (on : is_on w line ≡ true)
      (lacked : contains (points_of (before_round g p points count) (other side)) w ≡ false)
      (rest : filled_but (points_of (before_round g p points count) (other side)) w line ≡ true)
      (is_taken : taken ≡ taken_at (points_of (before_round g p points count) side) times
      (count + 1) w) where
    taken-own : contains (points_of (before_round g p points count) side) w ≡ true
        → taken ≡ get_or times w 0
    taken-own own = is_taken ∙ rw own refl

    taken-off : contains (points_of (before_round g p points count) side) w ≡ false
        → taken ≡ count + 1
    taken-off off = is_taken ∙ rw off refl

    -- it was free after the attack, so the attacker took it in a later round
    later-taken : (i : ℕ) → i < count → is_free (attacked g p points i) w ≡ true → i + 2 ≤ taken
    later-taken i lt free = elim (cases_Bool (contains
        (points_of (before_round g p points count) side) w)) [
          | inr off ↦
              let is = taken-off off in
              omega (arith, is)
          | inl own ↦
              let is = taken-own own in
              elim (cases_lt (i + 1) (get_or times w 0)) [
                | inl lt ↦ omega (arith, is)
                | inr ge ↦
                    let before = timed.early side w (i + 1) (omega arith) own ge in
                    let early = sym (ap (λ (s : FinSet nat_cmp). contains s w)
                    (mine-replied g p points side one start count rounds i lt)) ∙ before in
                    absurd (false≢true (sym (free-of (attacked g p points i) side w free) ∙ early))
              ]
        ]

    -- and where it is late enough the other side lacked it alone
    late-before : 2 ≤ taken → taken - 2 < count
    late-before some = elim (cases_Bool (contains (points_of (before_round g p points count) side)
        w)) [
          | inr off ↦
              let is = taken-off off in
              omega (arith, is)
          | inl own ↦
              let is = taken-own own in
              let late = timed.late side w count (omega arith) own in
              omega (arith, is, late)
        ]

    late-free : 2 ≤ taken → is_free (attacked g p points (taken - 2)) w ≡ true
    late-free some =
        free-from (attacked g p points (taken - 2)) side w mine_off theirs_off
      where
        lt : taken - 2 < count
        lt = late-before some

        mine_off : contains (points_of (attacked g p points (taken - 2)) side) w ≡ false
        mine_off = elim (cases_Bool
            (contains (points_of (attacked g p points (taken - 2)) side) w)) [
              | inr off ↦ off
              | inl own ↦
                  let before = late-before some in
                  let now = reply-stays g p points side (taken - 2) w own in
                  let end = grows g p points side (taken - 2 + 1) count w (omega arith) now in
                  let late = timed.late side w (taken - 2 + 1) (omega arith) now in
                  let is = taken-own end in
                  absurd (omega (arith, late, is, some))
            ]

        theirs_off : contains (points_of (attacked g p points (taken - 2)) (other side)) w ≡ false
        theirs_off = elim
            (cases_Bool (contains (points_of (attacked g p points (taken - 2)) (other side)) w)) [
              | inr off ↦ off
              | inl own ↦ absurd (false≢true (sym lacked
                  ∙ theirs-kept (taken - 2) w (late-before some) own))
            ]

    late-both : 2 ≤ taken → (q : ℕ) → (q == w || nat_le (get_or times q 0) (taken - 2)) ≡ true
        → (q == w || contains (points_of (before_round g p points count) (other side)) q) ≡ true
        → (q == w || contains (points_of (attacked g p points (taken - 2)) (other side)) q) ≡ true
    late-both some q early own = elim (or_cases (q == w) _ early) [
      | inl e ↦ or_left (q == w) _ e
      | inr le ↦ elim (or_cases (q == w) _ own) [
        | inl e ↦ or_left (q == w) _ e
        | inr theirs_q ↦
            let before = late-before some in
            let small = leb-true (get_or times q 0) (taken - 2) le in
            or_right (q == w) _ (attack-stays g p points (other side) (taken - 2) q
            (timed.early (other side) q (taken - 2) (omega arith) theirs_q small))
      ]
    ]

    late-near-at : 2 ≤ taken → list_all (λ q. q == w || nat_le (get_or times q 0) (taken - 2)) line
        ≡ true → WasNear g p points count side line
    late-near-at some early =
        let found = member-from_any (λ q. q == w) line on in
        record {
          round = taken - 2;
          before = late-before some;
          near =
              list_any-one (is_near (attacked g p points (taken - 2)) (other side) line) line w
              (subst (λ (x : ℕ). Contains line x) (eqb-true found.0 w found.2) found.1)
              (and_from (is_free (attacked g p points (taken - 2)) w) _ (late-free some)
              (and_from (is_on w line) _ on
              (all-both (λ q. q == w || nat_le (get_or times q 0) (taken - 2))
              (λ q. q == w || contains (points_of (before_round g p points count) (other side)) q)
              (λ q. q == w || contains (points_of (attacked g p points (taken - 2)) (other side)) q)
              line (late-both some) early rest)));
        }

  pub late-near : LacksLate (points_of (before_round g p points count) side)
      (points_of (before_round g p points count) (other side)) times (count + 1) line
      → WasNear g p points count side line
  late-near h = late-near-at h.point (taken_at (points_of (before_round g p points count) side)
      times (count + 1) h.point) h.on h.lacked h.rest refl h.some h.early

  pub near-late : is_filled (points_of (before_round g p points count) (other side)) line ≡ false
      → WasNear g p points count side line
      → LacksLate (points_of (before_round g p points count) side)
      (points_of (before_round g p points count) (other side)) times (count + 1) line
  near-late unfilled near =
      let found = lacks-from near in
      let w = found.0 in
      let h = found.1 in
      let lacked = still-lacked w h unfilled in
      let rest = still-filled w h in
      let later = later-taken w (taken_at (points_of (before_round g p points count) side) times
      (count + 1) w) h.on lacked rest refl h.round h.before h.free in
      record {
        point = w;
        on = h.on;
        lacked = lacked;
        rest = rest;
        some = omega (arith, later);
        early =
            all-weaker (λ q. q == w || contains (points_of (attacked g p points h.round)
            (other side)) q)
            (λ q. q == w || nat_le (get_or times q 0)
            (taken_at (points_of (before_round g p points count) side) times (count + 1) w - 2))
            line
            (near-early w (taken_at (points_of (before_round g p points count) side) times
            (count + 1) w) h later) h.rest;
      }
    where
      near-early : (w taken : ℕ) → (h : Lacks w) → h.round + 2 ≤ taken → (q : ℕ)
          → (q == w || contains (points_of (attacked g p points h.round) (other side)) q) ≡ true
          → (q == w || nat_le (get_or times q 0) (taken - 2)) ≡ true
      near-early w taken h later q here = elim (or_cases (q == w) _ here) [
        | inl e ↦ or_left (q == w) _ e
        | inr own ↦
            let early = theirs-early h.round q h.before own in
            or_right (q == w) _ (le-leb (get_or times q 0) (taken - 2)
            (omega (arith, later, early)))
      ]

-- ---- all lines

module _ (g : Game) (p : Position) (side : Side) (points : List ℕ) (count : ℕ) where
  pub safe-none : ((line : List ℕ) → Contains (lines_of g) line → WasNear g p points count side line
      → ⊥) → IsSafe g p points count side
  safe-none none i lt = list_any-none (λ line. list_any
      (is_near (attacked g p points i) (other side) line) line) (lines_of g)
      (λ line listed. elim (cases_Bool (list_any (is_near (attacked g p points i) (other side) line)
      line)) [
        | inl on ↦ absurd (none line listed (record { round = i; before = lt; near = on }))
        | inr off ↦ off
      ])

  pub safe-never : (line : List ℕ) → Contains (lines_of g) line → IsSafe g p points count side
      → WasNear g p points count side line → ⊥
  safe-never line listed safe h =
      false≢true (sym (safe h.round h.before)
      ∙ list_any-one (λ line. list_any (is_near (attacked g p points h.round) (other side) line)
      line) (lines_of g) line listed h.near)

-- ---- what the code finds

-- two points that a set lacks of a line, of which one is the only one
pub sole-lacked : (s : FinSet nat_cmp) (line : List ℕ) (x w : ℕ) → is_on x line ≡ true
    → contains s x ≡ false → filled_but s w line ≡ true → x ≡ w
sole-lacked s line x w on out rest =
    let found = member-from_any (λ q. q == x) line on in
    let same = eqb-true found.0 x found.2 in
    let pass = true-at (λ q. q == w || contains s q) line found.0 rest found.1 in
    elim (or_cases (found.0 == w) _ pass) [
      | inl here ↦ sym same ∙ eqb-true found.0 w here
      | inr own ↦ absurd (false≢true (sym out ∙ sym (ap (contains s) same) ∙ own))
    ]

module _ (g : Game) (p : Position) (side : Side) (points : List ℕ) (times : List ℕ)
    (ready : IsAtMove g p side)
    (rounds : AreRounds g p points (length points / 2)) where
  start : IsTurn g side p
  start = record { position = ready.position; turn = ready.turn }

  pub clear-safe : AreTimes g p points (length points / 2) times
      → IsClear g side (before_round g p points (length points / 2)) times (length points / 2 + 1)
      → IsSafe g p points (length points / 2) side
  clear-safe timed clear = safe-none g p side points (length points / 2) (λ line listed near.
      clear.none line listed (near-late g p side points (length points / 2) times rounds
      ready.single start timed line
      (false-at (is_filled (points_of (before_round g p points (length points / 2)) (other side)))
      (lines_of g) line clear.unfilled listed) near))

  pub safe-clear : AreTimes g p points (length points / 2) times → g.kind ≡ MakerMaker
      → IsSafe g p points (length points / 2) side
      → IsClear g side (before_round g p points (length points / 2)) times (length points / 2 + 1)
  safe-clear timed kind safe = record {
    unfilled = theirs-unfilled g p points side ready.single start (length points / 2) rounds
        (ready.theirs kind) safe (length points / 2) (omega arith);
    none = λ line listed late. safe-never g p side points (length points / 2) line listed safe
        (late-near g p side points (length points / 2) times rounds ready.single start timed line
        late);
  }

  pub all-lead : length points % 2 ≡ 1 → AreTimes g p points (length points / 2) times
      → has_filled g (before_round g p points (length points / 2)) side ≡ false
      → Filling g (before_round g p points (length points / 2)) side
      (attack_at points (length points / 2))
      → (g.kind ≡ MakerMaker → IsClear g side (before_round g p points (length points / 2)) times
      (length points / 2 + 1))
      → AreForced g p points (length points / 2) side → LeadsToLine g p side points
  all-lead odd timed none filling clear forced =
      rounds-lead g p side points (length points / 2) rounds ready.single start (omega (arith, odd))
      none filling (λ kind. clear-safe timed (clear kind)) forced

-- and what a list that leads to a line has
module _ (g : Game) (p : Position) (side : Side) (points : List ℕ) (ready : IsAtMove g p side)
    (leads : LeadsToLine g p side points) where
  pub lead-long : length points ≡ 2 * (length points / 2) + 1
  lead-long = let odd = leads-odd g side points p leads in omega (arith, odd)

  pub lead-all : AreRounds g p points (length points / 2)
  lead-all = lead-rounds g p side points (length points / 2) lead-long leads

  pub lead-none : 2 ≤ length points → has_filled g (before_round g p points (length points / 2))
      side ≡ false
  lead-none long = by (length points / 2 - 1) (omega (arith, lead-long))
    where
      by : (n : ℕ) → length points / 2 ≡ n + 1 → has_filled g
          (before_round g p points (length points / 2)) side ≡ false
      by n e = subst (λ (k : ℕ). has_filled g (before_round g p points k) side ≡ false) (sym e)
          (lead-unfilled g p side points n ready.single
          (record { position = ready.position; turn = ready.turn })
          (lead-long ∙ ap (λ (k : ℕ). 2 * k + 1) e) leads)

  pub lead-filling : Filling g (before_round g p points (length points / 2)) side
      (attack_at points (length points / 2))
  lead-filling = leads-filling g side points p (length points / 2) lead-long leads

  pub lead-safe : g.kind ≡ MakerMaker → IsSafe g p points (length points / 2) side
  lead-safe kind i lt = (leads-forcing g side points p (length points / 2) lead-long leads i
      lt).safe kind

  pub lead-forced : AreForced g p points (length points / 2) side
  lead-forced i lt = (leads-forcing g side points p (length points / 2) lead-long leads i lt).threat

-- a list of three points
pub leads-three : (g : Game) (p : Position) (side : Side) (points : List ℕ) → length points ≡ 3
    → LeadsToLine g p side points
    ↔ (Forcing g p side (get_or points 0 0) (get_or points 1 0) × Filling g
    (after g (after g p (get_or points 0 0)) (get_or points 1 0)) side (get_or points 2 0))
leads-three g p side [] long = absurd (omega arith)
leads-three g p side (v ∷ []) long = absurd (omega arith)
leads-three g p side (v ∷ (u ∷ [])) long = absurd (omega arith)
leads-three g p side (v ∷ (u ∷ (w ∷ []))) long = (λ h. h, λ h. h)
leads-three g p side (v ∷ (u ∷ (w ∷ (x ∷ others)))) long = absurd (omega arith)

-- a table of zeros
pub zeros : (n q : ℕ) → ◌≡◌ {A = ℕ} (get_or (replicate n 0) q 0) 0
zeros zero q = refl
zeros (suc n) zero = refl
zeros (suc n) (suc q) = zeros n q

-- ---- a game that isn't over

pub not_over : (over : Bool) (score : Score) (found : Option Score)
    → found ≡ (if over then Some score else None) → is_some found ≡ false
    → over ≡ false
not_over true score found e none = absurd (false≢true (sym none ∙ ap is_some e))
not_over false score found e none = refl

pub theirs-going : (g : Game) (p : Position) (side : Side) → is_over g p ≡ false
    → g.kind ≡ MakerMaker → has_filled g p (other side) ≡ false
theirs-going g p side going kind = (unfilled-going g side
    (ap (λ (k : Kind). may_attack k side) kind) p going).theirs kind
