-- The answer by pairs is a free point, and the rest of the pairs holds after it.
use Rattle.std.proofs.Common.{◌≡◌, ◌≢◌, ℕ, ◌<◌, Bool, true, false, not, List, [], ◌∷◌, Option, Some}
use Rattle.std.proofs.Common.{None, unwrap_or, eqb, eqb-true, refl, sym, ap, ◌∙◌, subst, inl, inr}
use Rattle.std.proofs.Common.{◌⊎◌, arith}
use Rattle.pg_pairing.proofs.Common.{cases_Bool, and_parts, and_from, or_from, not-true}
use Rattle.pg_pairing.proofs.Common.{not_from_false, false≢true, All-contains, same_Some, none-some}
use Rattle.pg_pairing.proofs.Common.{find, Contains, All, Kind, MakerBreaker, MakerMaker}
use Rattle.pg_pairing.proofs.Common.{AvoiderEnforcer, Switching, Pair, Side, X, Y, other, Game}
use Rattle.pg_pairing.proofs.Common.{Position, is_free, point_count, free_points, is_full, after}
use Rattle.pg_pairing.proofs.Common.{IsPosition, lowest_free, is_open, has_point, is_paired}
use Rattle.pg_pairing.proofs.Common.{is_loose, IsInGame, PairsHold, unpaired_due, partner, if_free}
use Rattle.pg_pairing.proofs.Common.{free_partner, pairs_answer, Contains-head, Contains-tail}
use Rattle.pg_pairing.proofs.Common.{list_any-none, list_any-one, Contains-filter, free-stays}
use Rattle.pg_pairing.proofs.Common.{free-was, turn-after_x, any-free_points, first_free}
use Rattle.std.specs.Option.{option_or}
use Rattle.pg_pairing.specs.Rest.{ArePairsOf, rest, RestHolds, MayClaim, HeldBefore}
use Rattle.pg_pairing.proofs.Filters.{filter_narrower, filter_member, find_member, find_none}
use Rattle.pg_pairing.proofs.OpenPairs.{Joins, joins, has_joined, joined_turned, joined_free}
use Rattle.pg_pairing.proofs.OpenPairs.{open_joined, joined_apart, joined_same, same_pair, open_was}
use Rattle.pg_pairing.proofs.OpenPairs.{rest-after, breaker_of-same, breaker_of-avoider}
use Rattle.pg_pairing.proofs.OpenPairs.{PairsHold-guard, PairsHold-outside, PairsHold-answered}
use Rattle.pg_pairing.proofs.LeftOut.{is_left_out, free_member, some_left_out, is_loose-rest}
use Rattle.pg_pairing.proofs.LeftOut.{leaves-taken, leaves-replied}

-- ---- the partner

pub partner-some : (pairs : List Pair) (v b : ℕ)
    → partner pairs v ≡ Some b
    → (s : Pair) × Contains pairs s × Joins s v b
partner-some [] v b e = absurd (none-some b e)
partner-some (s ∷ pairs) v b e = elim (cases_Bool (eqb s.a v)) [
  | inl a ↦ (s, Contains-head s pairs, inl (eqb-true s.a v a, same_Some s.b b (rw a at e)))
  | inr not_a ↦ elim (cases_Bool (eqb s.b v)) [
    | inl on ↦ (
      s,
      Contains-head s pairs,
      inr (same_Some s.a b (rw on at (rw not_a at e)), eqb-true s.b v on),
    )
    | inr off ↦
        let found = partner-some pairs v b (rw off at (rw not_a at e)) in
        (found.0, Contains-tail s found.0 pairs found.1, found.2)
  ]
]

pub partner-none : (pairs : List Pair) (v : ℕ) → partner pairs v ≡ None → is_paired pairs v ≡ false
partner-none [] v e = refl
partner-none (s ∷ pairs) v e = elim (cases_Bool (eqb s.a v)) [
  | inl a ↦ absurd (none-some s.b (sym (rw a at e)))
  | inr not_a ↦ elim (cases_Bool (eqb s.b v)) [
    | inl on ↦ absurd (none-some s.a (sym (rw on at (rw not_a at e))))
    | inr off ↦
        or_from _ _ (or_from _ _ not_a off) (partner-none pairs v (rw off at (rw not_a at e)))
  ]
]

-- a partner is as low as the points of the pairs
pub partner_below : (pairs : List Pair) (v b : ℕ)
    → All (λ s. (s.a < 1024) × (s.b < 1024)) pairs
    → partner pairs v ≡ Some b
    → b < 1024
partner_below pairs v b below e =
    let found = partner-some pairs v b e in
    let here = All-contains (λ s. (s.a < 1024) × (s.b < 1024)) pairs found.0 below found.1 in
    elim found.2 [
      | inl ab ↦ subst (λ (n : ℕ). n < 1024) ab.1 here.1
      | inr ba ↦ subst (λ (n : ℕ). n < 1024) ba.0 here.0
    ]

if_free-some : (p : Position) (r : Option ℕ) (b : ℕ)
    → if_free p r ≡ Some b
    → (r ≡ Some b) × (is_free p b ≡ true)
if_free-some p None b e = absurd (none-some b e)
if_free-some p (Some c) b e = elim (cases_Bool (is_free p c)) [
  | inl free ↦
      let same = same_Some c b (rw free at e) in
      (ap Some same, ap (is_free p) (sym same) ∙ free)
  | inr taken ↦ absurd (none-some b (rw taken at e))
]

if_free-none : (p : Position) (r : Option ℕ) (b : ℕ)
    → if_free p r ≡ None
    → r ≡ Some b
    → is_free p b ≡ false
if_free-none p None b e is = absurd (none-some b is)
if_free-none p (Some c) b e is = elim (cases_Bool (is_free p c)) [
  | inl free ↦ absurd (none-some c (sym (rw free at e)))
  | inr taken ↦ ap (is_free p) (sym (same_Some c b is)) ∙ taken
]

-- a free partner is the other point of a pair
pub free_partner-some : (p : Position) (pairs : List Pair) (last : Option ℕ) (b : ℕ)
    → free_partner p pairs last ≡ Some b
    → (v : ℕ) × (last ≡ Some v) × (is_free p b ≡ true) × (s : Pair) × Contains pairs s × Joins s v b
free_partner-some p pairs None b e = absurd (none-some b e)
free_partner-some p pairs (Some v) b e =
    let both = if_free-some p (partner pairs v) b e in
    let found = partner-some pairs v b both.0 in
    (v, refl, both.1, found.0, found.1, found.2)

some_or_none : (o : Option ℕ) → ((x : ℕ) × (o ≡ Some x)) ⊎ (o ≡ None)
some_or_none (Some x) = inl (x, refl)
some_or_none None = inr refl

pub avoider_or_not : (kind : Kind) → (kind ≡ AvoiderEnforcer) ⊎ (kind ≢ AvoiderEnforcer)
avoider_or_not AvoiderEnforcer = inl refl
avoider_or_not MakerBreaker = inr (λ e. cc)
avoider_or_not MakerMaker = inr (λ e. cc)
avoider_or_not Switching = inr (λ e. cc)

-- ---- where the answer comes from

-- the first of three that is there
picked : (a b c : Option ℕ)
    → ((x : ℕ) × (a ≡ Some x) × (unwrap_or (option_or a (option_or b c)) 0 ≡ x))
    ⊎ ((a ≡ None)
    × (((x : ℕ) × (b ≡ Some x) × (unwrap_or (option_or a (option_or b c)) 0 ≡ x))
    ⊎ ((b ≡ None)
    × (((x : ℕ) × (c ≡ Some x) × (unwrap_or (option_or a (option_or b c)) 0 ≡ x)) ⊎ (c ≡ None)))))
picked (Some x) b c = inl (x, refl, refl)
picked None (Some x) c = inr (refl, inl (x, refl, refl))
picked None None (Some x) = inr (refl, inr (refl, inl (x, refl, refl)))
picked None None None = inr (refl, inr (refl, inr refl))

module _ (g : Game) where
  -- a free point of the game
  abbrev IsFreeHere : Position → ℕ → Type 0
  IsFreeHere p w = (w < point_count g) × (is_free p w ≡ true)

  first-here : (p : Position) (t : ℕ → Bool) (w : ℕ)
      → find t (free_points g p) ≡ Some w
      → IsFreeHere p w × (t w ≡ true)
  first-here p t w e =
      let found = find_member t (free_points g p) w e in
      (free_member g p w found.0, found.1)

  partner-here : (p : Position) (pairs : List Pair) (last : Option ℕ) (b : ℕ)
      → ArePairsOf g pairs
      → free_partner p pairs last ≡ Some b
      → IsFreeHere p b
  partner-here p pairs last b are e =
      let found = free_partner-some p pairs last b e in
      let s = found.3 in
      let range = All-contains (IsInGame g) pairs s are.range found.4 in
      let within : b < point_count g = elim found.5 [
        | inl ab ↦ subst (λ (n : ℕ). n < point_count g) ab.1 range.1
        | inr ba ↦ subst (λ (n : ℕ). n < point_count g) ba.0 range.0
      ] in
      (within, found.2)

  -- the answer is a free point where there is one
  pub answer-free : (p : Position) (pairs : List Pair) (last : Option ℕ)
      → ArePairsOf g pairs
      → is_full g p ≡ false
      → IsFreeHere p (pairs_answer g p pairs last)
  unfolding pairs_answer
  answer-free p pairs last are some =
      let move = λ (x : ℕ) (h : IsFreeHere p x) (is : pairs_answer g p pairs last ≡ x).
      subst (λ (w : ℕ). IsFreeHere p w) (sym is) h in
      elim (picked (free_partner p pairs last) (find (is_loose p pairs) (free_points g p))
      (lowest_free g p)) [
        | inl a ↦ move a.0 (partner-here p pairs last a.0 are a.1) a.2
        | inr rest_b ↦ elim rest_b.1 [
          | inl b ↦ move b.0 (first-here p (is_loose p pairs) b.0 b.1).0 b.2
          | inr rest_c ↦ elim rest_c.1 [
            | inl c ↦ move c.0 (first-here p (λ v. true) c.0 c.1).0 c.2
            | inr none ↦
                let point = first_free g p some in
                absurd (false≢true (sym (find_none (λ v. true) (free_points g p) none)
                ∙ any-free_points g p (λ v. true) point.0 point.1 point.2 refl))
          ]
        ]
      ]

  -- where the free partner is left out by the rest, and the rest leaves out some point, so is the
  -- answer
  pub answer-left_out : (p : Position) (pairs : List Pair) (last : Option ℕ)
      → ((b : ℕ) → free_partner p pairs last ≡ Some b → is_paired (rest p pairs) b ≡ false)
      → ArePairsOf g pairs
      → (w : ℕ) → w < point_count g
      → is_left_out p (rest p pairs) w ≡ true
      → (pairs_answer g p pairs last < point_count g)
      × (is_left_out p (rest p pairs) (pairs_answer g p pairs last) ≡ true)
  unfolding pairs_answer
  answer-left_out p pairs last partner_out are w within out =
      let move = λ (x : ℕ) (h : (x < point_count g) × (is_left_out p (rest p pairs) x ≡ true))
      (is : pairs_answer g p pairs last ≡ x).
      subst (λ (y : ℕ). (y < point_count g) × (is_left_out p (rest p pairs) y ≡ true)) (sym is) h in
      elim (picked (free_partner p pairs last) (find (is_loose p pairs) (free_points g p))
      (lowest_free g p)) [
        | inl a ↦
            let here = partner-here p pairs last a.0 are a.1 in
            move a.0 (here.0, and_from _ _ here.1 (not_from_false _ (partner_out a.0 a.1))) a.2
        | inr rest_b ↦ elim rest_b.1 [
          | inl b ↦
              let found = first-here p (is_loose p pairs) b.0 b.1 in
              move b.0
              (found.0.0, and_from _ _ found.0.1 (sym (is_loose-rest p pairs b.0) ∙ found.1)) b.2
          | inr rest_c ↦
              let parts = and_parts (is_free p w) (not (is_paired (rest p pairs) w)) out in
              absurd (false≢true (sym (find_none (is_loose p pairs) (free_points g p) rest_c.0)
              ∙ any-free_points g p (is_loose p pairs) w within parts.0
              (is_loose-rest p pairs w ∙ parts.1)))
        ]
      ]

  -- the three cases of the answer
  pub answer-partner : (p : Position) (pairs : List Pair) (last : Option ℕ) (b : ℕ)
      → free_partner p pairs last ≡ Some b
      → pairs_answer g p pairs last ≡ b
  unfolding pairs_answer
  answer-partner p pairs last b e = ap (λ o. unwrap_or
      (option_or o (option_or (find (is_loose p pairs) (free_points g p)) (lowest_free g p))) 0) e

  pub answer-loose : (p : Position) (pairs : List Pair) (last : Option ℕ) (v : ℕ)
      → free_partner p pairs last ≡ None
      → find (is_loose p pairs) (free_points g p) ≡ Some v
      → pairs_answer g p pairs last ≡ v
  unfolding pairs_answer
  answer-loose p pairs last v none e =
      λ i. unwrap_or (option_or (none i) (option_or (e i) (lowest_free g p))) 0

  pub answer-lowest : (p : Position) (pairs : List Pair) (last : Option ℕ)
      → free_partner p pairs last ≡ None
      → find (is_loose p pairs) (free_points g p) ≡ None
      → pairs_answer g p pairs last ≡ unwrap_or (lowest_free g p) 0
  unfolding pairs_answer
  answer-lowest p pairs last none no_loose =
      λ i. unwrap_or (option_or (none i) (option_or (no_loose i) (lowest_free g p))) 0

  -- without a free partner the reply is in no pair that was open before it
  unpaired-reply : (q : Position) (v : ℕ) (pairs : List Pair)
      → ArePairsOf g pairs
      → is_free q v ≡ true
      → free_partner (after g q v) pairs (Some v) ≡ None
      → is_paired (rest q pairs) v ≡ false
  unpaired-reply q v pairs are free none =
      list_any-none (has_point v) (rest q pairs) (λ s c. elim (cases_Bool (has_point v s)) [
        | inl on ↦
            let both = filter_member (is_open q) pairs s c in
            let joined = joins s v on in
            let different = All-contains (λ t. t.a ≢ t.b) pairs s are.different both.0 in
            let b_free = free-stays g q v joined.0 (joined_apart s v joined.0 joined.1 different)
            (joined_free q s v joined.0 joined.1 both.1).1 in
            elim (some_or_none (partner pairs v)) [
              | inl other_is ↦
                  let found = partner-some pairs v other_is.0 other_is.1 in
                  let same = same_pair pairs s found.0 v are.disjoint both.0 found.1 on
                  (has_joined found.0 v other_is.0 found.2) in
                  let there : Joins s v other_is.0 =
                  subst (λ (t : Pair). Joins t v other_is.0) (sym same) found.2 in
                  let is_b : other_is.0 ≡ joined.0 =
                  joined_same s v other_is.0 joined.0 different there joined.1 in
                  absurd
                  (false≢true
                  (sym (if_free-none (after g q v) (partner pairs v) other_is.0 none other_is.1)
                  ∙ ap (is_free (after g q v)) is_b
                  ∙ b_free))
              | inr none_is ↦ absurd (false≢true (sym (partner-none pairs v none_is)
                  ∙ list_any-one (has_point v) pairs s both.0 on))
            ]
        | inr off ↦ off
      ])

  -- the partner of a point that was taken is in no open pair
  unpaired-partner : (q : Position) (v b : ℕ) (pairs : List Pair) (s : Pair)
      → ArePairsOf g pairs
      → Contains pairs s
      → Joins s v b
      → is_paired (rest (after g q v) pairs) b ≡ false
  unpaired-partner q v b pairs s are c is = list_any-none (has_point b) (rest (after g q v) pairs)
      (λ t ct. elim (cases_Bool (has_point b t)) [
        | inl on ↦
            let both = filter_member (is_open (after g q v)) pairs t ct in
            let same = same_pair pairs s t b are.disjoint c both.0
            (has_joined s b v (joined_turned s v b is)) on in
            let s_open : is_open (after g q v) s ≡ true =
            ap (is_open (after g q v)) same ∙ both.1 in
            absurd ((free-was g q v v (joined_free (after g q v) s v b is s_open).0).1 refl)
        | inr off ↦ off
      ])

  module _ (side : Side) where
    -- ---- in the kinds where the claimer makes lines harmless by its own points

    -- after any move of the claimer
    pub RestHolds-own : (p : Position) (pairs : List Pair) (w : ℕ)
        → g.kind ≢ AvoiderEnforcer
        → p.turn ≡ side
        → RestHolds g p side pairs
        → RestHolds g (after g p w) side pairs
    RestHolds-own p pairs w kind mine h =
        subst (λ (ss : List Pair). PairsHold g (after g p w) side ss) (rest-after g p w pairs)
        (PairsHold-guard g side p (rest p pairs) w h (mine ∙ sym (breaker_of-same g.kind side kind))
        (λ e. absurd (kind e)))

    -- after the other side's reply v at q and the answer
    pub RestHolds-answered : (q : Position) (v : ℕ) (pairs : List Pair)
        → g.kind ≢ AvoiderEnforcer
        → (after g q v).turn ≡ side
        → is_free q v ≡ true
        → ArePairsOf g pairs
        → RestHolds g q side pairs
        → RestHolds g
        (after g (after g q v) (pairs_answer g (after g q v) pairs (Some v))) side pairs
    RestHolds-answered q v pairs kind mine free are h =
        elim (some_or_none (free_partner p pairs (Some v))) [
          | inl partner_is ↦
              let b = partner_is.0 in
              let found = free_partner-some p pairs (Some v) b partner_is.1 in
              let s = found.3 in
              let is : Joins s v b =
              subst (λ (u : ℕ). Joins s u b) (sym (same_Some v found.0 found.1)) found.5 in
              let open_before = open_joined q s v b is free (free-was g q v b found.2).0 in
              let member = Contains-filter (is_open q) pairs s found.4 open_before in
              let held = PairsHold-answered g side q (rest q pairs) v b s h
              (mine ∙ sym (breaker_of-same g.kind side kind)) member is kind in
              let same : rest (after g p b) (rest q pairs) ≡ rest (after g p b) pairs =
              filter_narrower (is_open (after g p b)) (is_open q)
              (λ t on. open_was g q v t (open_was g p b t on)) pairs in
              subst (λ (w : ℕ). RestHolds g (after g p w) side pairs)
              (sym (answer-partner p pairs (Some v) b partner_is.1))
              (subst (λ (ss : List Pair). PairsHold g (after g p b) side ss) same held)
          | inr none ↦
              let still = PairsHold-outside g side q (rest q pairs) v h
              (unpaired-reply q v pairs are free none) (λ e. absurd (kind e)) in
              RestHolds-own p pairs (pairs_answer g p pairs (Some v)) kind mine
              (subst (λ (ss : List Pair). PairsHold g p side ss) (rest-after g q v pairs) still)
        ]
      where
        p : Position
        p = after g q v

    -- ---- in Avoider-Enforcer

    -- after Avoider's point that the rest leaves out
    pub RestHolds-left_out : (p : Position) (pairs : List Pair) (w : ℕ)
        → g.kind ≡ AvoiderEnforcer
        → IsPosition g p
        → p.turn ≡ X
        → RestHolds g p side pairs
        → w < point_count g
        → is_left_out p (rest p pairs) w ≡ true
        → RestHolds g (after g p w) side pairs
    RestHolds-left_out p pairs w kind position mine h within out =
        let parts = and_parts (is_free p w) (not (is_paired (rest p pairs) w)) out in
        subst (λ (ss : List Pair). PairsHold g (after g p w) side ss) (rest-after g p w pairs)
        (PairsHold-outside g side p (rest p pairs) w h (not-true _ parts.1) (λ e. leaves-taken g
        side p (rest p pairs) w h (h.avoider e) mine (turn-after_x g p w position mine) within out))

    -- after Enforcer's point
    pub RestHolds-enforcer : (q : Position) (pairs : List Pair) (v : ℕ)
        → g.kind ≡ AvoiderEnforcer
        → q.turn ≡ Y
        → (after g q v).turn ≡ X
        → RestHolds g q side pairs
        → v < point_count g
        → is_free q v ≡ true
        → RestHolds g (after g q v) side pairs
    RestHolds-enforcer q pairs v kind turn passes h within free =
        subst (λ (ss : List Pair). PairsHold g (after g q v) side ss) (rest-after g q v pairs)
        (PairsHold-guard g side q (rest q pairs) v h
        (turn ∙ sym (breaker_of-avoider g.kind side kind))
        (λ e. leaves-replied g side q (rest q pairs) v h (h.avoider e) turn passes within free))

    -- after Avoider's answer, where the free partner is left out
    pub RestHolds-avoider : (p : Position) (pairs : List Pair) (last : Option ℕ)
        → g.kind ≡ AvoiderEnforcer
        → IsPosition g p
        → p.turn ≡ X
        → ArePairsOf g pairs
        → RestHolds g p side pairs
        → ((b : ℕ) → free_partner p pairs last ≡ Some b → is_paired (rest p pairs) b ≡ false)
        → RestHolds g (after g p (pairs_answer g p pairs last)) side pairs
    RestHolds-avoider p pairs last kind position mine are h partner_out =
        let count = (h.avoider kind).left_out ∙ ap unpaired_due mine in
        let point = some_left_out g p (rest p pairs) (omega (arith, count)) in
        let out = answer-left_out p pairs last partner_out are point.0 point.1 point.2 in
        RestHolds-left_out p pairs (pairs_answer g p pairs last) kind position mine h out.0 out.1

    -- ---- in every kind

    -- where the rest held before the last reply, it holds after the answer
    pub keeps_replied : (p : Position) (pairs : List Pair) (last : Option ℕ)
        → MayClaim g.kind side
        → IsPosition g p
        → ArePairsOf g pairs
        → p.turn ≡ side
        → HeldBefore g p side pairs last
        → RestHolds g (after g p (pairs_answer g p pairs last)) side pairs
    keeps_replied p pairs last claims position are mine b =
        let q = b.before in
        let v = b.reply in
        let P : Position → Type 0 = λ r. r.turn ≡ side
        → IsPosition g r
        → RestHolds g (after g r (pairs_answer g r pairs last)) side pairs in
        elim (avoider_or_not g.kind) [
          | inl kind ↦
              let is_x = claims kind in
              let turn : q.turn ≡ Y = b.theirs ∙ ap other is_x in
              subst P (sym b.leads) (λ r_mine r_position.
              let h =
              RestHolds-enforcer q pairs v kind turn (r_mine ∙ is_x) b.held b.within b.free in
              RestHolds-avoider (after g q v) pairs last kind r_position (r_mine ∙ is_x) are h
              (λ c e.
              let found = free_partner-some (after g q v) pairs last c e in
              let is : Joins found.3 v c = subst (λ (u : ℕ). Joins found.3 u c)
              (same_Some found.0 v (sym found.1 ∙ b.last_is)) found.5 in
              unpaired-partner q v c pairs found.3 are found.4 is)) mine position
          | inr kind ↦ subst P (sym b.leads) (λ r_mine r_position. subst (λ (r : Option ℕ).
              RestHolds g (after g (after g q v) (pairs_answer g (after g q v) pairs r)) side pairs)
              (sym b.last_is) (RestHolds-answered q v pairs kind r_mine b.free are b.held)) mine
              position
        ]

    -- where no reply has come and the rest holds, it holds after the answer
    pub keeps_unreplied : (p : Position) (pairs : List Pair)
        → MayClaim g.kind side
        → IsPosition g p
        → ArePairsOf g pairs
        → p.turn ≡ side
        → RestHolds g p side pairs
        → RestHolds g (after g p (pairs_answer g p pairs None)) side pairs
    keeps_unreplied p pairs claims position are mine h = elim (avoider_or_not g.kind) [
      | inl kind ↦ RestHolds-avoider p pairs None kind position (mine ∙ claims kind) are h
          (λ c e. absurd (none-some c e))
      | inr kind ↦ RestHolds-own p pairs (pairs_answer g p pairs None) kind mine h
    ]

    -- in Maker-Breaker, where the rest holds, it holds after any point of the claimer
    pub keeps_in_turn : (p : Position) (pairs : List Pair) (w : ℕ)
        → g.kind ≡ MakerBreaker
        → p.turn ≡ side
        → RestHolds g p side pairs
        → RestHolds g (after g p w) side pairs
    keeps_in_turn p pairs w kind mine h =
        RestHolds-own p pairs w (λ e. breaker≢avoider (sym kind ∙ e)) mine h
      where
        breaker≢avoider : MakerBreaker ≢ AvoiderEnforcer
        breaker≢avoider e = cc
