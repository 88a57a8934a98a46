-- Pairs whose points are free, and that those which are left go on holding after moves.
use Rattle.std.proofs.Common.{◌≡◌, ◌≢◌, ℕ, true, false, List, eqb, refl, sym, ap, ◌∙◌, subst, inl}
use Rattle.std.proofs.Common.{inr, ◌⊎◌, eq-eqb, ne_eqb, eqb-true}
use Rattle.pg_pairing.proofs.Common.{cases_Bool, cases_eq, and_parts, and_from, or_parts, or_from}
use Rattle.pg_pairing.proofs.Common.{or_cases, or_left, or_right, false≢true, All-filter}
use Rattle.pg_pairing.proofs.Common.{filter_passes, All-contains, filter, Contains, Any, AllPairs}
use Rattle.pg_pairing.proofs.Common.{FinSet, contains, nat_cmp, ShareNone, Kind, MakerBreaker}
use Rattle.pg_pairing.proofs.Common.{MakerMaker, AvoiderEnforcer, Switching, Pair, Side, Y, other}
use Rattle.pg_pairing.proofs.Common.{Game, Position, is_free, points_of, is_touched, is_filled}
use Rattle.pg_pairing.proofs.Common.{has_filled, lines_of, after, is_open, has_point, is_paired}
use Rattle.pg_pairing.proofs.Common.{IsInGame, SharesNone, HoldsPair, PairsHold, PairsLeaveNone}
use Rattle.pg_pairing.proofs.Common.{breaker_of, true-at, false-at, list_any-none, Contains-filter}
use Rattle.pg_pairing.proofs.Common.{All-from_members, apart-or_same, points_of-waiter, points-stay}
use Rattle.pg_pairing.proofs.Common.{own-point, free-of, free-stays, free-was, apart}
use Rattle.std.proofs.lemmas.List.Kept.{AllPairs-filter}
use Rattle.pg_pairing.specs.Rest.{ArePairsOf, rest, RestHolds}
use Rattle.pg_pairing.proofs.Filters.{filter_all, filter_narrower}

-- ---- pairs

-- the two points are those of the pair, in either order
abbrev pub Joins : Pair → ℕ → ℕ → Type 0
Joins s v b = ((s.a ≡ v) × (s.b ≡ b)) ⊎ ((s.a ≡ b) × (s.b ≡ v))

-- a pair that has a point joins it to another
pub joins : (s : Pair) (v : ℕ) → has_point v s ≡ true → (b : ℕ) × Joins s v b
joins s v on = elim (or_cases (eqb s.a v) (eqb s.b v) on) [
  | inl a ↦ (s.b, inl (eqb-true s.a v a, refl))
  | inr b ↦ (s.a, inr (refl, eqb-true s.b v b))
]

pub has_joined : (s : Pair) (v b : ℕ) → Joins s v b → has_point v s ≡ true
has_joined s v b is = elim is [
  | inl ab ↦ or_left (eqb s.a v) (eqb s.b v) (eq-eqb s.a v ab.0)
  | inr ba ↦ or_right (eqb s.a v) (eqb s.b v) (eq-eqb s.b v ba.1)
]

pub joined_turned : (s : Pair) (v b : ℕ) → Joins s v b → Joins s b v
joined_turned s v b is = elim is [ inl ab ↦ inr ab | inr ba ↦ inl ba ]

-- a point of the pair is one of the two
pub one_of_joined : (s : Pair) (v b w : ℕ) → Joins s v b → has_point w s ≡ true → (w ≡ v) ⊎ (w ≡ b)
one_of_joined s v b w is on = elim (or_cases (eqb s.a w) (eqb s.b w) on) [
  | inl a ↦ elim is [
    | inl ab ↦ inl (sym (eqb-true s.a w a) ∙ ab.0)
    | inr ba ↦ inr (sym (eqb-true s.a w a) ∙ ba.0)
  ]
  | inr b ↦ elim is [
    | inl ab ↦ inr (sym (eqb-true s.b w b) ∙ ab.1)
    | inr ba ↦ inl (sym (eqb-true s.b w b) ∙ ba.1)
  ]
]

-- the points of an open pair are free
pub joined_free : (p : Position) (s : Pair) (v b : ℕ)
    → Joins s v b
    → is_open p s ≡ true
    → (is_free p v ≡ true) × (is_free p b ≡ true)
joined_free p s v b is open_pair =
    let both = and_parts (is_free p s.a) (is_free p s.b) open_pair in
    elim is [
      | inl ab ↦ (ap (is_free p) (sym ab.0) ∙ both.0, ap (is_free p) (sym ab.1) ∙ both.1)
      | inr ba ↦ (ap (is_free p) (sym ba.1) ∙ both.1, ap (is_free p) (sym ba.0) ∙ both.0)
    ]

pub open_joined : (p : Position) (s : Pair) (v b : ℕ)
    → Joins s v b
    → is_free p v ≡ true
    → is_free p b ≡ true
    → is_open p s ≡ true
open_joined p s v b is fv fb = elim is [
  | inl ab ↦ and_from _ _ (ap (is_free p) ab.0 ∙ fv) (ap (is_free p) ab.1 ∙ fb)
  | inr ba ↦ and_from _ _ (ap (is_free p) ba.0 ∙ fb) (ap (is_free p) ba.1 ∙ fv)
]

pub joined_apart : (s : Pair) (v b : ℕ) → Joins s v b → s.a ≢ s.b → v ≢ b
joined_apart s v b is ne e = elim is [
  | inl ab ↦ ne (ab.0 ∙ e ∙ sym ab.1)
  | inr ba ↦ ne (ba.0 ∙ sym e ∙ sym ba.1)
]

-- a point of a pair has one partner
pub joined_same : (s : Pair) (v b c : ℕ) → s.a ≢ s.b → Joins s v b → Joins s v c → b ≡ c
joined_same s v b c ne is_b is_c = elim is_b [
  | inl ab ↦ elim is_c [ inl ac ↦ sym ab.1 ∙ ac.1 | inr ca ↦ absurd (ne (ab.0 ∙ sym ca.1)) ]
  | inr ba ↦ elim is_c [ inl ac ↦ absurd (ne (ac.0 ∙ sym ba.1)) | inr ca ↦ sym ba.0 ∙ ca.0 ]
]

-- a point that the pair hasn't is neither of its two
pub outside_pair : (s : Pair) (v : ℕ) → has_point v s ≡ false → (v ≢ s.a) × (v ≢ s.b)
outside_pair s v off =
    let none = or_parts (eqb s.a v) (eqb s.b v) off in (
      λ e. false≢true (sym none.0 ∙ eq-eqb s.a v (sym e)),
      λ e. false≢true (sym none.1 ∙ eq-eqb s.b v (sym e)),
    )

-- pairs that share no point share none when they are one
pub same_pair : (pairs : List Pair) (s t : Pair) (v : ℕ)
    → AllPairs SharesNone pairs
    → Contains pairs s
    → Contains pairs t
    → has_point v s ≡ true
    → has_point v t ≡ true
    → s ≡ t
same_pair pairs s t v disjoint cs ct on_s on_t =
    elim (apart-or_same SharesNone pairs s t disjoint cs ct) [
      | inl same ↦ same
      | inr shares ↦ elim shares [
        | inl st ↦ absurd (clash s t st on_s on_t)
        | inr ts ↦ absurd (clash t s ts on_t on_s)
      ]
    ]
  where
    clash : (s t : Pair) → SharesNone s t → has_point v s ≡ true → has_point v t ≡ true → ⊥
    clash s t none on_s on_t = elim (or_cases (eqb s.a v) (eqb s.b v) on_s) [
      | inl sa ↦ elim (or_cases (eqb t.a v) (eqb t.b v) on_t) [
        | inl ta ↦ none.aa (eqb-true s.a v sa ∙ sym (eqb-true t.a v ta))
        | inr tb ↦ none.ab (eqb-true s.a v sa ∙ sym (eqb-true t.b v tb))
      ]
      | inr sb ↦ elim (or_cases (eqb t.a v) (eqb t.b v) on_t) [
        | inl ta ↦ none.ba (eqb-true s.b v sb ∙ sym (eqb-true t.a v ta))
        | inr tb ↦ none.bb (eqb-true s.b v sb ∙ sym (eqb-true t.b v tb))
      ]
    ]

-- an open pair stays open where its points aren't taken
pub open_stays : (g : Game) (p : Position) (v : ℕ) (s : Pair)
    → v ≢ s.a
    → v ≢ s.b
    → is_open p s ≡ true
    → is_open (after g p v) s ≡ true
open_stays g p v s na nb h =
    let both = and_parts (is_free p s.a) (is_free p s.b) h in
    and_from _ _ (free-stays g p v s.a na both.0) (free-stays g p v s.b nb both.1)

-- a pair that is open after a move was so before
pub open_was : (g : Game) (p : Position) (v : ℕ) (s : Pair)
    → is_open (after g p v) s ≡ true
    → is_open p s ≡ true
open_was g p v s h =
    let both = and_parts (is_free (after g p v) s.a) (is_free (after g p v) s.b) h in
    and_from _ _ (free-was g p v s.a both.0).0 (free-was g p v s.b both.1).0

-- the rest after a move is the same of all pairs and of those that were open before
pub rest-after : (g : Game) (p : Position) (v : ℕ) (pairs : List Pair)
    → rest (after g p v) (rest p pairs) ≡ rest (after g p v) pairs
rest-after g p v pairs = filter_narrower (is_open (after g p v)) (is_open p) (open_was g p v) pairs

-- where all pairs are open the rest is all of them
pub rest_all : (g : Game) (p : Position) (side : Side) (pairs : List Pair)
    → PairsHold g p side pairs
    → rest p pairs ≡ pairs
rest_all g p side pairs h = filter_all (is_open p) pairs h.apart.free

pub RestHolds-from : (g : Game) (p : Position) (side : Side) (pairs : List Pair)
    → PairsHold g p side pairs
    → RestHolds g p side pairs
RestHolds-from g p side pairs h =
    subst (λ (ss : List Pair). PairsHold g p side ss) (sym (rest_all g p side pairs h)) h

pub ArePairsOf-from : (g : Game) (p : Position) (side : Side) (pairs : List Pair)
    → PairsHold g p side pairs
    → ArePairsOf g pairs
ArePairsOf-from g p side pairs h = record {
  range = h.apart.range;
  different = h.apart.different;
  disjoint = h.apart.disjoint;
}

-- ---- who makes lines harmless

-- the claimer itself, but in Avoider-Enforcer
pub breaker_of-same : (kind : Kind) (side : Side)
    → kind ≢ AvoiderEnforcer
    → breaker_of kind side ≡ side
breaker_of-same MakerBreaker side ne = refl
breaker_of-same MakerMaker side ne = refl
breaker_of-same AvoiderEnforcer side ne = absurd (ne refl)
breaker_of-same Switching side ne = refl

pub breaker_of-avoider : (kind : Kind) (side : Side)
    → kind ≡ AvoiderEnforcer
    → breaker_of kind side ≡ Y
breaker_of-avoider kind side e = ap (λ (k : Kind). breaker_of k side) e

module _ (g : Game) (side : Side) where
  -- the side whose points make lines harmless
  abbrev guard : Side
  guard = breaker_of g.kind side

  -- ---- the pairs that are left still hold

  -- a line that is untouched later was so before
  untouched-before : (q p : Position)
      → ((v : ℕ) → contains (points_of q guard) v ≡ true → contains (points_of p guard) v ≡ true)
      → (line : List ℕ) → is_touched (points_of p guard) line ≡ false
      → is_touched (points_of q guard) line ≡ false
  untouched-before q p grows line h =
      list_any-none _ line (λ v c. elim (cases_Bool (contains (points_of q guard) v)) [
        | inl on ↦ absurd (false≢true (sym (false-at _ line v h c) ∙ grows v on))
        | inr off ↦ off
      ])

  pub PairsHold-kept : (q p : Position) (pairs : List Pair)
      → PairsHold g q side pairs
      → ((v : ℕ) → contains (points_of q guard) v ≡ true → contains (points_of p guard) v ≡ true)
      → ((line : List ℕ) (s : Pair) → is_touched (points_of p guard) line ≡ false
      → Contains pairs s
      → HoldsPair line s
      → is_open p s ≡ true)
      → (g.kind ≡ AvoiderEnforcer → PairsLeaveNone g p (rest p pairs))
      → RestHolds g p side pairs
  PairsHold-kept q p pairs h grows still leaves = record {
    apart = record {
      range = All-filter (is_open p) (IsInGame g) pairs h.apart.range;
      free = filter_passes (is_open p) pairs;
      different = All-filter (is_open p) (λ s. s.a ≢ s.b) pairs h.apart.different;
      disjoint = AllPairs-filter SharesNone (is_open p) pairs h.apart.disjoint;
    };
    held = All-from_members (λ l. is_touched (points_of p guard) l ≡ false
        → Any (HoldsPair l) (filter (is_open p) pairs)) (lines_of g) (λ line c untouched.
        let found =
        All-contains (λ l. is_touched (points_of q guard) l ≡ false → Any (HoldsPair l) pairs)
        (lines_of g) line h.held c (untouched-before q p grows line untouched) in
        let s = found.1 in
        let member : Contains pairs s = (found.0, found.2, found.3) in
        let kept =
        Contains-filter (is_open p) pairs s member (still line s untouched member found.4) in
        (kept.0, s, kept.1, kept.2, found.4));
    avoider = leaves;
  }

  -- a point of an untouched line isn't the guard's
  not-own : (p : Position) (line : List ℕ) (v q : ℕ)
      → is_touched (points_of p guard) line ≡ false
      → contains (points_of p guard) v ≡ true
      → Contains line q
      → v ≢ q
  not-own p line v q untouched own c e = false≢true
      (sym (false-at _ line q untouched c) ∙ ap (contains (points_of p guard)) (sym e) ∙ own)

  pub open-of : (p : Position) (pairs : List Pair) (s : Pair)
      → PairsHold g p side pairs
      → Contains pairs s
      → is_open p s ≡ true
  open-of p pairs s h c = All-contains (λ t. is_open p t ≡ true) pairs s h.apart.free c

  -- after any move of the guard
  pub PairsHold-guard : (p : Position) (pairs : List Pair) (w : ℕ)
      → PairsHold g p side pairs
      → p.turn ≡ guard
      → (g.kind ≡ AvoiderEnforcer → PairsLeaveNone g (after g p w) (rest (after g p w) pairs))
      → RestHolds g (after g p w) side pairs
  PairsHold-guard p pairs w h mine =
      PairsHold-kept p (after g p w) pairs h (points-stay g p guard w) (λ line s untouched c holds.
      let own = own-point g p guard w mine in
      open_stays g p w s (not-own (after g p w) line w s.a untouched own holds.0)
      (not-own (after g p w) line w s.b untouched own holds.1) (open-of p pairs s h c))

  -- after a move of either side into no pair
  pub PairsHold-outside : (p : Position) (pairs : List Pair) (v : ℕ)
      → PairsHold g p side pairs
      → is_paired pairs v ≡ false
      → (g.kind ≡ AvoiderEnforcer → PairsLeaveNone g (after g p v) (rest (after g p v) pairs))
      → RestHolds g (after g p v) side pairs
  PairsHold-outside p pairs v h outside =
      PairsHold-kept p (after g p v) pairs h (points-stay g p guard v) (λ line s untouched c holds.
      let out = outside_pair s v (false-at (has_point v) pairs s outside c) in
      open_stays g p v s out.0 out.1 (open-of p pairs s h c))

  -- after a move into a pair and the guard's answer by the partner b
  pub PairsHold-answered : (p : Position) (pairs : List Pair) (v b : ℕ) (s : Pair)
      → PairsHold g p side pairs
      → (after g p v).turn ≡ guard
      → Contains pairs s
      → Joins s v b
      → g.kind ≢ AvoiderEnforcer
      → RestHolds g (after g (after g p v) b) side pairs
  PairsHold-answered p pairs v b s h turn c is not_avoider =
      PairsHold-kept p (after g (after g p v) b) pairs h
      (λ q on. points-stay g (after g p v) guard b q (points-stay g p guard v q on))
      (λ line t untouched ct holds.
      let own = own-point g (after g p v) guard b turn in
      let na = not-own (after g (after g p v) b) line b t.a untouched own holds.0 in
      let nb = not-own (after g (after g p v) b) line b t.b untouched own holds.1 in
      let off : has_point b t ≡ false = or_from (eqb t.a b) (eqb t.b b)
      (ne_eqb t.a b (λ e. na (sym e))) (ne_eqb t.b b (λ e. nb (sym e))) in
      let v_off : has_point v t ≡ false = elim (cases_Bool (has_point v t)) [
        | inl on ↦
            let same = same_pair pairs s t v h.apart.disjoint c ct (has_joined s v b is) on in
            absurd (false≢true (sym off
            ∙ subst (λ (u : Pair). has_point b u ≡ true) same
            (has_joined s b v (joined_turned s v b is))))
        | inr out ↦ out
      ] in
      let out = outside_pair t v v_off in
      open_stays g (after g p v) b t na nb
      (open_stays g p v t out.0 out.1 (open-of p pairs t h ct)))
      (λ avoider. absurd (not_avoider avoider))

  -- ---- the side that may not fill a line fills none

  -- a line of which the guard's opponent has every point has none of the guard's
  filled-untouched : (p : Position)
      → ShareNone p.x p.y
      → (line : List ℕ) → is_filled (points_of p (other guard)) line ≡ true
      → is_touched (points_of p guard) line ≡ false
  filled-untouched p d line filled = list_any-none (contains (points_of p guard)) line
      (λ v c. apart p guard v d (true-at (contains (points_of p (other guard))) line v filled c))

  -- a free point is on no line that is filled
  filled-no_free : (p : Position) (line : List ℕ) (v : ℕ)
      → is_filled (points_of p (other guard)) line ≡ true
      → Contains line v
      → is_free p v ≡ true
      → ⊥
  filled-no_free p line v filled c free = false≢true (sym (free-of p (other guard) v free)
      ∙ true-at (contains (points_of p (other guard))) line v filled c)

  held-at : (p : Position) (pairs : List Pair)
      → PairsHold g p side pairs
      → (line : List ℕ) → Contains (lines_of g) line
      → is_touched (points_of p guard) line ≡ false
      → (s : Pair) × Contains pairs s × HoldsPair line s
  held-at p pairs h line c untouched =
      let found =
      All-contains (λ l. is_touched (points_of p guard) l ≡ false → Any (HoldsPair l) pairs)
      (lines_of g) line h.held c untouched in
      (found.1, (found.0, found.2, found.3), found.4)

  pub unfilled-held : (p : Position)
      → ShareNone p.x p.y
      → (pairs : List Pair) → PairsHold g p side pairs
      → has_filled g p (other guard) ≡ false
  unfilled-held p d pairs h = list_any-none (is_filled (points_of p (other guard))) (lines_of g)
      (λ line c. elim (cases_Bool (is_filled (points_of p (other guard)) line)) [
        | inl filled ↦
            let found = held-at p pairs h line c (filled-untouched p d line filled) in
            absurd
            (filled-no_free p line found.0.a filled found.2.0
            (and_parts _ _ (open-of p pairs found.0 h found.1)).0)
        | inr off ↦ off
      ])

  -- nor by one move from a position where pairs hold
  pub unfilled-replied : (q : Position) (v : ℕ) (pairs : List Pair)
      → q.turn ≡ other guard
      → ShareNone (after g q v).x (after g q v).y
      → PairsHold g q side pairs
      → has_filled g (after g q v) (other guard) ≡ false
  unfilled-replied q v pairs turn d h =
      list_any-none (is_filled (points_of (after g q v) (other guard))) (lines_of g)
      (λ line c. elim (cases_Bool (is_filled (points_of (after g q v) (other guard)) line)) [
        | inl filled ↦
            let untouched = filled-untouched (after g q v) d line filled in
            let found = held-at q pairs h line c
            (subst (λ (s : FinSet nat_cmp). is_touched s line ≡ false)
            (points_of-waiter g q guard v turn) untouched) in
            let both = and_parts _ _ (open-of q pairs found.0 h found.1) in
            -- both points are the one that was taken
            let at = λ (b : ℕ) (on : Contains line b) (still : is_free q b ≡ true).
            elim (cases_eq v b) as (λ _. v ≡ b) [
              | inl e ↦ e
              | inr ne ↦ absurd
                  (filled-no_free (after g q v) line b filled on (free-stays g q v b ne still))
            ] in
            absurd
            (All-contains (λ s. s.a ≢ s.b) pairs found.0 h.apart.different found.1
            (sym (at found.0.a found.2.0 both.0) ∙ at found.0.b found.2.1 both.1))
        | inr off ↦ off
      ])
