-- The steps of the tests of pairs.
use Rattle.std.proofs.Common.{All, eqb-true, ◌≡◌, ◌≢◌, ℕ, ◌+◌, ◌<◌, Bool, true, false, cond}
use Rattle.std.proofs.Common.{not, ◌&&◌, ◌||◌, List, [], ◌∷◌, ◌++◌, length, get_or, take, eqb}
use Rattle.std.proofs.Common.{nat_lt, refl, sym, ap, ◌∙◌, subst, inl, inr, arith, eq-eqb, ne_eqb}
use Rattle.std.proofs.Common.{ltb-true, lt-ltb, IsTrue, if◌then◌else◌, length-take-le}
use Rattle.std.proofs.Common.{get_or-take}
use Rattle.pg_pairing.proofs.Common.{cases_eq, and_parts, and_from, or_parts, or_from, not-true}
use Rattle.pg_pairing.proofs.Common.{not_from_false, false≢true, FinSet, contains, insert, nat_cmp}
use Rattle.pg_pairing.proofs.Common.{Position, is_free, in_insert, Pair, Game, has_point, is_open}
use Rattle.pg_pairing.proofs.Common.{AreOpenPairs, SharesNone, IsInGame, HoldLines}
use Rattle.pg_pairing.proofs.Common.{PairsHold, PairsLeaveNone, point_count}
use Rattle.pg_pairing.proofs.Common.{AvoiderEnforcer, point_count-le}
use Rattle.pg_pairing.proofs.Common.{All-weaker, All-contains, false-at, list_any-none}
use Rattle.pg_pairing.proofs.Common.{list_any-one, or_cases}
use Rattle.pg_pairing.proofs.Common.{member-from_any, Side, list_any, Contains, take_more}
use Rattle.pg_pairing.proofs.Common.{get_or_default, All-nil, All-push, All-get_or, Contains-get_or}
use Rattle.pg_pairing.specs.Taking.{CanTake}
use Rattle.std.proofs.lemmas.List.Folds.{list_any_more}
use Rattle.std.proofs.lemmas.List.Quantifiers.{all_pairs_push}

swap_or : (a b c : Bool) → (b || (a || c)) ≡ ((a || b) || c)
swap_or true true c = refl
swap_or true false c = refl
swap_or false b c = refl

same_eq : (a b : ℕ) → eqb a b ≡ eqb b a
same_eq a b = elim (cases_eq a b) [
  | inl e ↦ eq-eqb a b e ∙ sym (eq-eqb b a (sym e))
  | inr ne ↦ ne_eqb a b ne ∙ sym (ne_eqb b a (λ e. ne (sym e)))
]

-- one point after the other
pub CanTake-iff : (points : ℕ) (taken middle : FinSet nat_cmp) (s : Pair) (first second : Bool)
    → first ≡ (nat_lt s.a points && not (contains taken s.a))
    → middle ≡ (if first then insert taken s.a else taken)
    → first ≡ true
    → second ≡ (nat_lt s.b points && not (contains middle s.b))
    → (IsTrue second → CanTake points taken s) × (CanTake points taken s → IsTrue second)
CanTake-iff points taken middle s first second is_first is_middle on is_second =
    let middle_is : middle ≡ insert taken s.a =
    is_middle ∙ ap (λ b. cond b (insert taken s.a) taken) on in
    let a_parts =
    and_parts (nat_lt s.a points) (not (contains taken s.a)) (sym is_first ∙ on) in
    let in_middle : contains middle s.b ≡ (eqb s.b s.a || contains taken s.b) =
    ap (λ t. contains t s.b) middle_is ∙ in_insert taken s.a s.b in (
      λ yes_second.
          let b_parts = and_parts (nat_lt s.b points) (not (contains middle s.b))
          (sym is_second ∙ yes_second) in
          let off =
          or_parts (eqb s.b s.a) (contains taken s.b) (sym in_middle ∙ not-true _ b_parts.1) in
          record {
            a_range = ltb-true s.a points a_parts.0;
            b_range = ltb-true s.b points b_parts.0;
            different = λ e. false≢true (sym off.0 ∙ eq-eqb s.b s.a (sym e));
            a_fresh = not-true _ a_parts.1;
            b_fresh = off.1;
          },
      λ can. is_second
          ∙ and_from _ _ (lt-ltb s.b points can.b_range) (not_from_false _
          (in_middle ∙ or_from _ _ (ne_eqb s.b s.a (λ e. can.different (sym e))) can.b_fresh)),
    )

pub taken-both : (taken middle last : FinSet nat_cmp) (s : Pair) (first second : Bool)
    → middle ≡ (if first then insert taken s.a else taken) → first ≡ true
    → last ≡ (if second then insert middle s.b else middle)
    → IsTrue second → (q : ℕ) → contains last q ≡ (has_point q s || contains taken q)
taken-both taken middle last s first second is_middle on is_last on_second q =
    ap (λ t. contains t q) (is_last ∙ ap (λ b. cond b (insert middle s.b) middle) on_second)
    ∙ in_insert middle s.b q
    ∙ ap (λ t. eqb q s.b || contains t q) (is_middle ∙ ap (λ b. cond b (insert taken s.a) taken) on)
    ∙ ap (λ b. eqb q s.b || b) (in_insert taken s.a q)
    ∙ swap_or (eqb q s.a) (eqb q s.b) (contains taken q)
    ∙ ap (λ b. (b || eqb q s.b) || contains taken q) (same_eq q s.a)
    ∙ ap (λ b. (eqb s.a q || b) || contains taken q) (same_eq q s.b)

-- ---- the loop over the pairs

pub AreOpenPairs-none : (g : Game) (p : Position) → AreOpenPairs g p []
AreOpenPairs-none g p = record {
  range = All-nil (IsInGame g);
  free = All-nil (λ s. is_open p s ≡ true);
  different = All-nil (λ s. s.a ≢ s.b);
  disjoint = λ i j d h k. absurd (omega arith);
}

-- the marks of both sides and the points of the pairs
abbrev pub AreTaken : Position → List Pair → FinSet nat_cmp → Type 0
AreTaken p xs taken = (q : ℕ)
    → contains taken q ≡ ((contains p.x q || contains p.y q) || list_any (has_point q) xs)

pub AreTaken-none : (p : Position) (taken : FinSet nat_cmp)
    → ((q : ℕ) → contains taken q ≡ (contains p.x q || contains p.y q))
    → AreTaken p [] taken
AreTaken-none p taken marks q = marks q ∙ sym (or_false (contains p.x q || contains p.y q))
  where
    or_false : (b : Bool) → (b || false) ≡ b
    or_false true = refl
    or_false false = refl

-- a point that isn't taken is free
fresh-free : (p : Position) (xs : List Pair) (taken : FinSet nat_cmp) (v : ℕ)
    → AreTaken p xs taken
    → contains taken v ≡ false
    → is_free p v ≡ true
fresh-free p xs taken v is fresh =
    let off = or_parts (contains p.x v || contains p.y v) (list_any (has_point v) xs)
    (sym (is v) ∙ fresh) in
    let marks = or_parts (contains p.x v) (contains p.y v) off.0 in
    and_from _ _ (not_from_false _ marks.0) (not_from_false _ marks.1)

-- a free point has no mark
free-unmarked : (p : Position) (v : ℕ)
    → is_free p v ≡ true
    → (contains p.x v || contains p.y v) ≡ false
free-unmarked p v free =
    let both = and_parts (not (contains p.x v)) (not (contains p.y v)) free in
    or_from _ _ (not-true _ both.0) (not-true _ both.1)

-- a point that isn't taken is in no pair before
fresh-apart : (p : Position) (xs : List Pair) (taken : FinSet nat_cmp) (v : ℕ)
    → AreTaken p xs taken
    → contains taken v ≡ false
    → (t : Pair) → Contains xs t
    → (t.a ≢ v) × (t.b ≢ v)
fresh-apart p xs taken v is fresh t c =
    let none = or_parts (contains p.x v || contains p.y v) (list_any (has_point v) xs)
    (sym (is v) ∙ fresh) in
    let off = or_parts (eqb t.a v) (eqb t.b v) (false-at (has_point v) xs t none.1 c) in
    (λ e. false≢true (sym off.0 ∙ eq-eqb t.a v e), λ e. false≢true (sym off.1 ∙ eq-eqb t.b v e))

take-next : (xs : List Pair) (i : ℕ) (d : Pair)
    → i < length xs
    → take (i + 1) xs ≡ take i xs ++ get_or xs i d ∷ []
take-next xs i d h = take_more xs i d h

pub AreOpenPairs-more : (g : Game) (p : Position) (xs : List Pair) (i : ℕ) (d : Pair) (points : ℕ)
    (taken : FinSet nat_cmp)
    → i < length xs
    → AreOpenPairs g p (take i xs)
    → points ≡ point_count g
    → AreTaken p (take i xs) taken
    → CanTake points taken (get_or xs i d)
    → AreOpenPairs g p (take (i + 1) xs)
AreOpenPairs-more g p xs i d points taken h before count is can =
    let s = get_or xs i d in
    subst (λ (ys : List Pair). AreOpenPairs g p ys) (sym (take-next xs i d h)) (record {
      range = All-push (IsInGame g) (take i xs) s before.range (
        subst (λ (n : ℕ). s.a < n) count can.a_range,
        subst (λ (n : ℕ). s.b < n) count can.b_range,
      );
      free = All-push (λ s. is_open p s ≡ true) (take i xs) s before.free (and_from _ _
          (fresh-free p (take i xs) taken s.a is can.a_fresh)
          (fresh-free p (take i xs) taken s.b is can.b_fresh));
      different = All-push (λ s. s.a ≢ s.b) (take i xs) s before.different can.different;
      disjoint = all_pairs_push SharesNone (take i xs) s before.disjoint (λ k e lt.
          let member = Contains-get_or (take i xs) k e lt in
          let a =
          fresh-apart p (take i xs) taken s.a is can.a_fresh (get_or (take i xs) k e) member in
          let b =
          fresh-apart p (take i xs) taken s.b is can.b_fresh (get_or (take i xs) k e) member in
          record { aa = a.0; ab = b.0; ba = a.1; bb = b.1 });
    })

pub taken-more : (p : Position) (xs : List Pair) (i : ℕ) (d : Pair) (taken next : FinSet nat_cmp)
    → i < length xs
    → AreTaken p (take i xs) taken
    → ((q : ℕ) → contains next q ≡ (has_point q (get_or xs i d) || contains taken q))
    → AreTaken p (take (i + 1) xs) next
taken-more p xs i d taken next h is more q = more q
    ∙ ap (λ b. has_point q (get_or xs i d) || b) (is q)
    ∙ or_last (has_point q (get_or xs i d)) (contains p.x q || contains p.y q)
    (list_any (has_point q) (take i xs))
    ∙ ap (λ b. (contains p.x q || contains p.y q) || b) (sym (list_any_more (has_point q) xs i d h))
  where
    or_last : (a b c : Bool) → (a || (b || c)) ≡ (b || (c || a))
    or_last true true c = refl
    or_last true false true = refl
    or_last true false false = refl
    or_last false b c = or_end b c
      where
        or_end : (m n : Bool) → (m || n) ≡ (m || (n || false))
        or_end true n = refl
        or_end false true = refl
        or_end false false = refl

-- what isn't marked of what is taken are the points of the pairs, which are free
pub paired-is : (g : Game) (p : Position) (xs : List Pair) (taken : FinSet nat_cmp) (q : ℕ)
    (marked : Bool)
    → AreOpenPairs g p xs
    → AreTaken p xs taken
    → marked ≡ (contains p.x q || contains p.y q)
    → (contains taken q && not marked) ≡ list_any (has_point q) xs
paired-is g p xs taken q marked pairs is same = rw (is q, same)
    (unmarked (contains p.x q || contains p.y q) (list_any (has_point q) xs) (λ on.
    let found = member-from_any (has_point q) xs on in
    let free = All-contains (λ s. is_open p s ≡ true) xs found.0 pairs.free found.1 in
    let both = and_parts (is_free p found.0.a) (is_free p found.0.b) free in
    free-unmarked p q (elim (or_cases (eqb found.0.a q) (eqb found.0.b q) found.2) [
      | inl a ↦ subst (λ (n : ℕ). is_free p n ≡ true) (eqb-true found.0.a q a) both.0
      | inr b ↦ subst (λ (n : ℕ). is_free p n ≡ true) (eqb-true found.0.b q b) both.1
    ])))
  where
    unmarked : (m a : Bool) → (a ≡ true → m ≡ false) → ((m || a) && not m) ≡ a
    unmarked true true off = absurd (false≢true (sym (off refl)))
    unmarked true false off = refl
    unmarked false true off = refl
    unmarked false false off = refl

pub CanTake-at : (g : Game) (p : Position) (xs : List Pair) (i : ℕ) (d : Pair) (points : ℕ)
    (taken : FinSet nat_cmp)
    → i < length xs
    → AreOpenPairs g p xs
    → points ≡ point_count g
    → AreTaken p (take i xs) taken
    → CanTake points taken (get_or xs i d)
CanTake-at g p xs i d points taken h pairs count is =
    let s = get_or xs i d in
    let range = All-get_or (IsInGame g) xs i d h pairs.range in
    let free = and_parts _ _ (All-get_or (λ s. is_open p s ≡ true) xs i d h pairs.free) in
    record {
      a_range = subst (λ (n : ℕ). s.a < n) (sym count) range.0;
      b_range = subst (λ (n : ℕ). s.b < n) (sym count) range.1;
      different = All-get_or (λ s. s.a ≢ s.b) xs i d h pairs.different;
      a_fresh = is s.a
          ∙ or_from _ _ (free-unmarked p s.a free.0)
          (list_any-none (has_point s.a) (take i xs) (λ t c. let out = earlier t c in or_from _ _
          (ne_eqb t.a s.a out.aa) (ne_eqb t.b s.a out.ba)));
      b_fresh = is s.b
          ∙ or_from _ _ (free-unmarked p s.b free.1)
          (list_any-none (has_point s.b) (take i xs) (λ t c. let out = earlier t c in or_from _ _
          (ne_eqb t.a s.b out.ab) (ne_eqb t.b s.b out.bb)));
    }
  where
    earlier : (t : Pair) → Contains (take i xs) t → SharesNone t (get_or xs i d)
    earlier t c =
        let len = length-take-le i xs (omega arith) in
        let below : c.0 < i = omega (arith, c.1, len) in
        let at : get_or xs c.0 d ≡ t =
        get_or_default xs c.0 d t (omega arith) ∙ sym (get_or-take i xs c.0 t below) ∙ c.2 in
        subst (λ (u : Pair). SharesNone u (get_or xs i d)) at (pairs.disjoint c.0 i d below h)

-- all the facts of the condition
pub PairsHold-from : (g : Game) (p : Position) (side : Side) (pairs : List Pair)
    → AreOpenPairs g p pairs
    → HoldLines g p side pairs
    → (g.kind ≡ AvoiderEnforcer → PairsLeaveNone g p pairs)
    → PairsHold g p side pairs
PairsHold-from g p side pairs open_pairs lines leaves = record {
  apart = open_pairs;
  held = lines;
  avoider = leaves;
}

-- ---- the points of open pairs

-- after both points of an open pair are put into a set
pub opened-more : (p : Position) (before middle last : FinSet nat_cmp) (s : Pair)
    → middle ≡ insert before s.a
    → last ≡ insert middle s.b
    → is_open p s ≡ true
    → (q : ℕ) → contains last q ≡ (contains before q || (is_open p s && has_point q s))
opened-more p before middle last s is_middle is_last on q =
    taken-both before middle last s true true is_middle refl is_last refl q
    ∙ or_turned (has_point q s) (contains before q)
    ∙ ap (λ b. contains before q || (b && has_point q s)) (sym on)
  where
    or_turned : (a b : Bool) → (a || b) ≡ (b || a)
    or_turned true true = refl
    or_turned true false = refl
    or_turned false true = refl
    or_turned false false = refl

-- ---- lines that hold a pair

-- a number is a member where some member equals it
pub Contains-any : (line : List ℕ) (q : ℕ) → list_any (λ v. eqb v q) line ≡ true → Contains line q
Contains-any line q on =
    let found = member-from_any (λ v. eqb v q) line on in
    subst (λ (n : ℕ). Contains line n) (eqb-true found.0 q found.2) found.1

pub any-Contains : (line : List ℕ) (q : ℕ) → Contains line q → list_any (λ v. eqb v q) line ≡ true
any-Contains line q c = list_any-one (λ v. eqb v q) line q c (eq-eqb q q refl)

-- the points of pairs of the game are below 1,024
pub pairs-few : (g : Game) (pairs : List Pair)
    → All (IsInGame g) pairs
    → All (λ s. (s.a < 1024) × (s.b < 1024)) pairs
pairs-few g pairs range =
    let few = point_count-le g in
    All-weaker (IsInGame g) (λ s. (s.a < 1024) × (s.b < 1024))
    (λ s here. (omega (arith, few, here.0), omega (arith, few, here.1))) pairs range
