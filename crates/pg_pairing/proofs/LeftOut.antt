-- The free points that are in no pair, before and after a move.
use Rattle.std.proofs.Common.{◌≡◌, ◌≢◌, ℕ, ◌+◌, ◌<◌, ◌≤◌, Bool, true, false, not, ◌&&◌, List, []}
use Rattle.std.proofs.Common.{◌∷◌, length, eqb, refl, sym, ap, ◌∙◌, subst, inl, inr, arith, eq-eqb}
use Rattle.std.proofs.Common.{ne_eqb}
use Rattle.pg_pairing.proofs.Common.{cases_Bool, cases_eq, and_parts, and_from, not-true}
use Rattle.pg_pairing.proofs.Common.{not_from_false, false≢true, All-contains, filter, Contains}
use Rattle.pg_pairing.proofs.Common.{range_with_len, Pair, Side, X, Y, Game, Position, is_free}
use Rattle.pg_pairing.proofs.Common.{point_count, free_points, after, is_open, has_point, is_paired}
use Rattle.pg_pairing.proofs.Common.{is_loose, IsInGame, PairsHold, PairsLeaveNone, unpaired}
use Rattle.pg_pairing.proofs.Common.{unpaired_due, filter_both, Contains-head, list_any-none}
use Rattle.pg_pairing.proofs.Common.{list_any-one, member-from_any, Contains-filter}
use Rattle.pg_pairing.proofs.Common.{All-from_members, false-at, free-stays, free-was}
use Rattle.pg_pairing.proofs.Common.{is_free-after, any_both}
use Rattle.pg_pairing.specs.Rest.{rest}
use Rattle.pg_pairing.proofs.Filters.{filter_all, filter_member, filter_agree-range, in_range}
use Rattle.pg_pairing.proofs.Filters.{below_range, one_equal, one_without, some_length}
use Rattle.pg_pairing.proofs.OpenPairs.{Joins, joins, has_joined, joined_turned, one_of_joined}
use Rattle.pg_pairing.proofs.OpenPairs.{joined_free, joined_apart, outside_pair, same_pair}
use Rattle.pg_pairing.proofs.OpenPairs.{open_stays, open-of}

-- whether the point is free and in no pair
abbrev pub is_left_out : Position → List Pair → ℕ → Bool
is_left_out p pairs v = is_free p v && not (is_paired pairs v)

pub unpaired-filter : (g : Game) (p : Position) (pairs : List Pair)
    → unpaired g p pairs ≡ filter (is_left_out p pairs) (range_with_len 0 (point_count g))
unfolding free_points
unpaired-filter g p pairs =
    filter_both (λ v. not (is_paired pairs v)) (is_free p) (range_with_len 0 (point_count g))

pub free_member : (g : Game) (p : Position) (v : ℕ)
    → Contains (free_points g p) v
    → (v < point_count g) × (is_free p v ≡ true)
unfolding free_points
free_member g p v c =
    let both = filter_member (is_free p) (range_with_len 0 (point_count g)) v c in
    (below_range (point_count g) v both.0, both.1)

-- where none is left out, each free point is in a pair
pub none_left_out : (g : Game) (p : Position) (pairs : List Pair) (v : ℕ)
    → length (unpaired g p pairs) ≡ 0
    → v < point_count g
    → is_left_out p pairs v ≡ false
none_left_out g p pairs v none within = elim (cases_Bool (is_left_out p pairs v)) [
  | inl out ↦
      let member = Contains-filter (is_left_out p pairs) (range_with_len 0 (point_count g)) v
      (in_range (point_count g) v within) out in
      let some =
      some_length (filter (is_left_out p pairs) (range_with_len 0 (point_count g))) v member in
      let same : length (unpaired g p pairs)
      ≡ length (filter (is_left_out p pairs) (range_with_len 0 (point_count g))) =
      ap length (unpaired-filter g p pairs) in
      absurd (omega (arith, some, same, none))
  | inr off ↦ off
]

pub paired-free : (g : Game) (p : Position) (pairs : List Pair) (v : ℕ)
    → length (unpaired g p pairs) ≡ 0
    → v < point_count g
    → is_free p v ≡ true
    → is_paired pairs v ≡ true
paired-free g p pairs v none within free = elim (cases_Bool (is_paired pairs v)) [
  | inl on ↦ on
  | inr off ↦ absurd (false≢true
      (sym (none_left_out g p pairs v none within) ∙ and_from _ _ free (not_from_false _ off)))
]

first_member : (xs : List ℕ) → 1 ≤ length xs → (x : ℕ) × Contains xs x
first_member [] h = absurd (omega arith)
first_member (x ∷ xs) h = (x, Contains-head x xs)

-- where some are left out, one is
pub some_left_out : (g : Game) (p : Position) (pairs : List Pair)
    → 1 ≤ length (unpaired g p pairs)
    → (v : ℕ) × (v < point_count g) × (is_left_out p pairs v ≡ true)
some_left_out g p pairs some =
    let found = first_member (filter (is_left_out p pairs) (range_with_len 0 (point_count g)))
    (subst (λ (xs : List ℕ). 1 ≤ length xs) (unpaired-filter g p pairs) some) in
    let both =
    filter_member (is_left_out p pairs) (range_with_len 0 (point_count g)) found.0 found.1 in
    (found.0, below_range (point_count g) found.0 both.0, both.1)

-- a point is loose where the rest of the pairs leaves it out
pub is_loose-rest : (p : Position) (pairs : List Pair) (v : ℕ)
    → is_loose p pairs v ≡ not (is_paired (rest p pairs) v)
is_loose-rest p pairs v = ap not (sym (any_both (has_point v) (is_open p) pairs))

module _ (g : Game) (side : Side) where
  -- ---- after a point that was left out

  and_assoc : (a b c : Bool) → ((a && b) && c) ≡ (a && (b && c))
  and_assoc true b c = refl
  and_assoc false b c = refl

  -- the pairs stay open after a move into none of them
  pub rest-outside : (p : Position) (pairs : List Pair) (v : ℕ)
      → PairsHold g p side pairs
      → is_paired pairs v ≡ false
      → rest (after g p v) pairs ≡ pairs
  rest-outside p pairs v h outside = filter_all (is_open (after g p v)) pairs
      (All-from_members (λ s. is_open (after g p v) s ≡ true) pairs (λ s c.
      let out = outside_pair s v (false-at (has_point v) pairs s outside c) in
      open_stays g p v s out.0 out.1 (open-of g side p pairs s h c)))

  pub leaves-taken : (p : Position) (pairs : List Pair) (v : ℕ)
      → PairsHold g p side pairs
      → PairsLeaveNone g p pairs
      → p.turn ≡ X
      → (after g p v).turn ≡ Y
      → v < point_count g
      → is_left_out p pairs v ≡ true
      → PairsLeaveNone g (after g p v) (rest (after g p v) pairs)
  leaves-taken p pairs v h leaves turn passes within out =
      let both = and_parts (is_free p v) (not (is_paired pairs v)) out in
      let same = rest-outside p pairs v h (not-true _ both.1) in
      let before : length (filter (is_left_out p pairs) (range_with_len 0 (point_count g))) ≡ 1 =
      sym (ap length (unpaired-filter g p pairs)) ∙ leaves.left_out ∙ ap unpaired_due turn in
      let agree = λ (u : ℕ) (_ : 0 ≤ u) (_ : u < 0 + point_count g).
      ap (λ b. b && not (is_paired pairs u)) (is_free-after g p v u)
      ∙ and_assoc (not (eqb u v)) (is_free p u) (not (is_paired pairs u)) in
      let now : length (unpaired g (after g p v) pairs) ≡ length
      (filter (λ u. not (eqb u v) && is_left_out p pairs u) (range_with_len 0 (point_count g))) =
      ap length (unpaired-filter g (after g p v) pairs
      ∙ filter_agree-range (is_left_out (after g p v) pairs)
      (λ u. not (eqb u v) && is_left_out p pairs u) 0 (point_count g) agree) in
      let fewer =
      one_without (is_left_out p pairs) v 0 (point_count g) out (omega arith) (omega arith) in
      record {
        single = leaves.single;
        left_out = ap (λ (ss : List Pair). length (unpaired g (after g p v) ss)) same
            ∙ now
            ∙ omega (arith, fewer, before)
            ∙ sym (ap unpaired_due passes);
      }

  -- ---- after a point of a pair

  pub leaves-replied : (p : Position) (pairs : List Pair) (v : ℕ)
      → PairsHold g p side pairs
      → PairsLeaveNone g p pairs
      → p.turn ≡ Y
      → (after g p v).turn ≡ X
      → v < point_count g
      → is_free p v ≡ true
      → PairsLeaveNone g (after g p v) (rest (after g p v) pairs)
  leaves-replied p pairs v h leaves turn passes within free = record {
    single = leaves.single;
    left_out = ap length (unpaired-filter g q (rest q pairs)
        ∙ filter_agree-range (is_left_out q (rest q pairs)) (λ w. eqb w b) 0 (point_count g) agree)
        ∙ one_equal b 0 (point_count g) (omega arith) (omega (arith, b_within))
        ∙ sym (ap unpaired_due passes);
  }
    where
      q : Position
      q = after g p v

      none : length (unpaired g p pairs) ≡ 0
      none = leaves.left_out ∙ ap unpaired_due turn

      found : (s : Pair) × Contains pairs s × (has_point v s ≡ true)
      found = member-from_any (has_point v) pairs (paired-free g p pairs v none within free)

      joined : (b : ℕ) × Joins found.0 v b
      joined = joins found.0 v found.2

      b : ℕ
      b = joined.0

      open_before : is_open p found.0 ≡ true
      open_before = open-of g side p pairs found.0 h found.1

      b_free : is_free p b ≡ true
      b_free = (joined_free p found.0 v b joined.1 open_before).1

      apart : v ≢ b
      apart = joined_apart found.0 v b joined.1
          (All-contains (λ s. s.a ≢ s.b) pairs found.0 h.apart.different found.1)

      b_within : b < point_count g
      b_within =
          let range = All-contains (IsInGame g) pairs found.0 h.apart.range found.1 in
          elim joined.1 [
            | inl ab ↦ subst (λ (n : ℕ). n < point_count g) ab.1 range.1
            | inr ba ↦ subst (λ (n : ℕ). n < point_count g) ba.0 range.0
          ]

      -- the pair of the point is no longer open
      closed : is_open q found.0 ≡ false
      closed = elim (cases_Bool (is_open q found.0)) [
        | inl on ↦ absurd ((free-was g p v v (joined_free q found.0 v b joined.1 on).0).1 refl)
        | inr off ↦ off
      ]

      b_unpaired : is_paired (rest q pairs) b ≡ false
      b_unpaired =
          list_any-none (has_point b) (rest q pairs) (λ t c. elim (cases_Bool (has_point b t)) [
            | inl on ↦
                let both = filter_member (is_open q) pairs t c in
                let same = same_pair pairs found.0 t b h.apart.disjoint found.1 both.0
                (has_joined found.0 b v (joined_turned found.0 v b joined.1)) on in
                absurd (false≢true (sym closed ∙ ap (is_open q) same ∙ both.1))
            | inr off ↦ off
          ])

      -- any other free point has its pair still
      still_paired : (w : ℕ)
          → w < point_count g
          → w ≢ b
          → is_free q w ≡ true
          → is_paired (rest q pairs) w ≡ true
      still_paired w w_within ne w_free =
          let was = free-was g p v w w_free in
          let at =
          member-from_any (has_point w) pairs (paired-free g p pairs w none w_within was.0) in
          let t = at.0 in
          let off : has_point v t ≡ false = elim (cases_Bool (has_point v t)) [
            | inl on ↦
                let same = same_pair pairs t found.0 v h.apart.disjoint at.1 found.1 on found.2 in
                absurd
                (elim (one_of_joined found.0 v b w joined.1 (ap (has_point w) (sym same) ∙ at.2)) [
                  | inl is_v ↦ was.1 is_v
                  | inr is_b ↦ ne is_b
                ])
            | inr off ↦ off
          ] in
          let out = outside_pair t v off in
          list_any-one (has_point w) (rest q pairs) t
          (Contains-filter (is_open q) pairs t at.1
          (open_stays g p v t out.0 out.1 (open-of g side p pairs t h at.1))) at.2

      agree : (w : ℕ) → 0 ≤ w → w < 0 + point_count g → is_left_out q (rest q pairs) w ≡ eqb w b
      agree w low high = elim (cases_eq w b) [
        | inl e ↦ ap (is_left_out q (rest q pairs)) e
            ∙ and_from _ _ (free-stays g p v b apart b_free) (not_from_false _ b_unpaired)
            ∙ sym (eq-eqb w b e)
        | inr ne ↦ elim (cases_Bool (is_free q w)) [
          | inl w_free ↦ ap (λ c. is_free q w && not c) (still_paired w (omega arith) ne w_free)
              ∙ ap (λ c. c && false) w_free
              ∙ sym (ne_eqb w b ne)
          | inr taken ↦ ap (λ c. c && not (is_paired (rest q pairs) w)) taken ∙ sym (ne_eqb w b ne)
        ]
      ]
