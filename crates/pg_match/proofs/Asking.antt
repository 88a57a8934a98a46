-- The lines meant one after the other, and the points left over.
use Rattle.std.proofs.Common.{◌≡◌, ◌≢◌, ℕ, ◌+◌, ◌<◌, ◌≤◌, Bool, true, false, not, ◌&&◌, ◌||◌, eqb}
use Rattle.std.proofs.Common.{cond, Option, Some, None, List, [], ◌∷◌, ◌++◌, length, map, get_or}
use Rattle.std.proofs.Common.{take, ltb, refl, sym, ap, ◌∙◌, subst, subst₂, inl, inr, arith}
use Rattle.std.proofs.Common.{append_assoc, append-nil}
use Rattle.std.specs.Prelude.{option_to_list}
use Rattle.pg_match.proofs.Common.{cases_eq, lt-ltb, ltb-true, and_parts, nat_tests, take_all}
use Rattle.pg_match.proofs.Common.{map_push, map-id, All-push, All-weaker, All-nil, filter_more}
use Rattle.pg_match.proofs.Common.{filter_agree, filter_of_map_range_with_len_more, All, AllPairs}
use Rattle.pg_match.proofs.Common.{filter, flat_map, range_with_len, FinSet, contains, insert}
use Rattle.pg_match.proofs.Common.{empty, contains-empty, len, count_same, nat_cmp, Pair}
use Rattle.pg_match.proofs.Common.{insert-self, insert-other, contains-insert_plus, len-count, plus}
use Rattle.pg_match.proofs.Common.{Game, Position, is_free, free_points, point_count, unpaired}
use Rattle.pg_match.proofs.Common.{is_paired, has_point, filter_both}
use Rattle.std.proofs.lemmas.List.Quantifiers.{all_pairs_push}
use Rattle.std.proofs.lemmas.List.Concat.{flat_map-append}
use Rattle.pg_base.specs.Points.{AreBelow}
use Rattle.pg_match.proofs.LeafLaws.{length-passed}
use Rattle.std.proofs.lemmas.List.Folds.{list_any_more}
use Rattle.pg_match.specs.Private.{line_at, CanMatch}
use Rattle.pg_match.specs.Meant.{AreFree, PairUp, PairsOn, both_points}

-- ---- the numbers of the lines that pass

-- so far the numbers are those of the lines that pass, ascending
pub record AreNumbers (test : List ℕ → Bool) (lines : List (List ℕ)) (j : ℕ)
    (wanted : List ℕ) : Type 0 where
  pub passing : map (line_at lines) wanted ≡ filter test (take j lines)
  pub below : All (λ i. i < j) wanted
  pub ascending : AllPairs (λ i k. i < k) wanted

kept-one : (test : List ℕ → Bool) (lines : List (List ℕ)) (j : ℕ) → List (List ℕ)
kept-one test lines j = cond (test (line_at lines j)) (line_at lines j ∷ []) []

pub numbers-with : (test : List ℕ → Bool) (lines : List (List ℕ)) (j : ℕ) (wanted new : List ℕ)
    → j < length lines
    → test (line_at lines j) ≡ true
    → new ≡ wanted ++ j ∷ []
    → AreNumbers test lines j wanted
    → AreNumbers test lines (j + 1) new
unfolding kept-one
numbers-with test lines j wanted new within on pushed h =
    subst (AreNumbers test lines (j + 1)) (sym pushed) (record {
      passing = map_push (line_at lines) wanted j
          ∙ ap (λ (ls : List (List ℕ)). ls ++ line_at lines j ∷ []) h.passing
          ∙ sym (filter_more test lines j [] within
          ∙ ap (λ (b : Bool). filter test (take j lines) ++ cond b (line_at lines j ∷ []) []) on);
      below = All-push (λ i. i < j + 1) wanted j
          (All-weaker (λ i. i < j) (λ i. i < j + 1) (λ i lt. omega arith) wanted h.below)
          (omega arith);
      ascending =
          all_pairs_push (λ i k. i < k) wanted j h.ascending (λ k d inside. h.below k d inside);
    })

pub numbers-without : (test : List ℕ → Bool) (lines : List (List ℕ)) (j : ℕ) (wanted new : List ℕ)
    → j < length lines
    → test (line_at lines j) ≡ false
    → new ≡ wanted
    → AreNumbers test lines j wanted
    → AreNumbers test lines (j + 1) new
numbers-without test lines j wanted new within off same h =
    subst (AreNumbers test lines (j + 1)) (sym same) (record {
      passing = h.passing
          ∙ sym (filter_more test lines j [] within
          ∙ ap (λ (b : Bool). filter test (take j lines) ++ cond b (line_at lines j ∷ []) []) off
          ∙ append-nil (filter test (take j lines)));
      below = All-weaker (λ i. i < j) (λ i. i < j + 1) (λ i lt. omega arith) wanted h.below;
      ascending = h.ascending;
    })

-- ---- free points

pub free-all : (p : Position) (free : FinSet nat_cmp) (n v : ℕ)
    → ((q : ℕ) → contains free q ≡ (ltb q n && is_free p q))
    → v < n
    → contains free v ≡ is_free p v
free-all p free n v all lt = all v ∙ ap (λ (t : Bool). t && is_free p v) (lt-ltb v n lt)

pub free-in_game : (g : Game) (p : Position) (free : FinSet nat_cmp)
    → ((v : ℕ) → contains free v ≡ (ltb v (point_count g) && is_free p v))
    → AreFree g p free
free-in_game g p free each v lt = free-all p free (point_count g) v each lt

-- ---- pairs of points, one after the other

-- one point more, after those so far
pub pairs_on-more : (points : List ℕ) (v : ℕ) (old mid new : List Pair) (waiting next : Option ℕ)
    → PairsOn points old mid waiting
    → PairsOn (option_to_list waiting ++ v ∷ []) mid new next
    → PairsOn (points ++ v ∷ []) old new next
pairs_on-more points v old mid new waiting next a b = record {
  more = a.more ++ b.more;
  added = b.added ∙ ap (λ (ps : List Pair). ps ++ b.more) a.added ∙ append_assoc old a.more b.more;
  all = ap (λ (vs : List ℕ). vs ++ v ∷ []) a.all
      ∙ append_assoc (flat_map both_points a.more) (option_to_list waiting) (v ∷ [])
      ∙ ap (λ (vs : List ℕ). flat_map both_points a.more ++ vs) b.all
      ∙ sym (append_assoc (flat_map both_points a.more) (flat_map both_points b.more)
      (option_to_list next))
      ∙ ap (λ (vs : List ℕ). vs ++ option_to_list next)
      (sym (flat_map-append both_points a.more b.more));
}

pub pairs_on-none : (pairs : List Pair) → PairsOn [] pairs pairs None
pairs_on-none pairs = record { more = []; added = sym (append-nil pairs); all = refl }

-- the numbers below v that pass
unfoldable pub passing_below : (ℕ → Bool) → ℕ → List ℕ
passing_below t v = filter t (range_with_len 0 v)

pub passing_none : (t : ℕ → Bool) → passing_below t 0 ≡ []
unfolding passing_below
passing_none t = refl

passing-more : (t : ℕ → Bool) (v : ℕ)
    → passing_below t (v + 1) ≡ passing_below t v ++ cond (t v) (v ∷ []) []
unfolding passing_below
passing-more t v = ap (filter t) (sym (map-id (range_with_len 0 (v + 1))))
    ∙ filter_of_map_range_with_len_more t (λ (u : ℕ). u) 0 v v (omega arith)
    ∙ ap (λ (vs : List ℕ). filter t vs ++ cond (t v) (v ∷ []) []) (map-id (range_with_len 0 v))

pub pairs_on-passing : (t : ℕ → Bool) (v : ℕ) (old mid new : List Pair) (waiting next : Option ℕ)
    → t v ≡ true
    → PairsOn (passing_below t v) old mid waiting
    → PairsOn (option_to_list waiting ++ v ∷ []) mid new next
    → PairsOn (passing_below t (v + 1)) old new next
pairs_on-passing t v old mid new waiting next on a b =
    subst (λ (vs : List ℕ). PairsOn vs old new next)
    (sym (passing-more t v ∙ ap (λ (c : Bool). passing_below t v ++ cond c (v ∷ []) []) on))
    (pairs_on-more (passing_below t v) v old mid new waiting next a b)

pub pairs_on-skipped : (t : ℕ → Bool) (v : ℕ) (old new : List Pair) (waiting : Option ℕ)
    → t v ≡ false
    → PairsOn (passing_below t v) old new waiting
    → PairsOn (passing_below t (v + 1)) old new waiting
pairs_on-skipped t v old new waiting off a = subst (λ (vs : List ℕ). PairsOn vs old new waiting)
    (sym (passing-more t v
    ∙ ap (λ (c : Bool). passing_below t v ++ cond c (v ∷ []) []) off
    ∙ append-nil (passing_below t v))) a

length-option : (o : Option ℕ) → length (option_to_list o) ≤ 1
length-option None = omega arith
length-option (Some x) = omega arith

pub rest-from_pairs_on : (g : Game) (p : Position) (pairs new : List Pair) (waiting : Option ℕ)
    (t : ℕ → Bool) (n : ℕ)
    → n ≡ point_count g
    → ((v : ℕ) → t v ≡ (is_free p v && not (is_paired pairs v)))
    → PairsOn (passing_below t n) pairs new waiting
    → (rest : List Pair) × (new ≡ pairs ++ rest) × PairUp (unpaired g p pairs) rest
unfolding free_points passing_below
rest-from_pairs_on g p pairs new waiting t n end same h = (
  h.more,
  h.added,
  record {
    left = option_to_list waiting;
    few = length-option waiting;
    all = filter_both (λ v. not (is_paired pairs v)) (is_free p) (range_with_len 0 (point_count g))
        ∙ sym (filter_agree t (λ v. is_free p v && not (is_paired pairs v)) same
        (range_with_len 0 (point_count g)))
        ∙ ap (λ m. filter t (range_with_len 0 m)) (sym end)
        ∙ h.all;
  },
)

-- ---- the points of pairs

or_assoc : (a b c : Bool) → ((a || b) || c) ≡ (a || (b || c))
or_assoc true b c = refl
or_assoc false b c = refl

plus-at : (s : FinSet nat_cmp) (i q : ℕ) → contains (insert s i) q ≡ (contains s q || eqb i q)
unfolding plus
plus-at s i q = ap (λ (t : ℕ → Bool). t q) (contains-insert_plus s i)

pub paired-more : (pairs : List Pair) (i : ℕ) (points mid new : FinSet nat_cmp)
    → i < length pairs
    → ((v : ℕ) → contains points v ≡ is_paired (take i pairs) v)
    → mid ≡ insert points (get_or pairs i (record { a = 0; b = 0 })).a
    → new ≡ insert mid (get_or pairs i (record { a = 0; b = 0 })).b
    → (v : ℕ) → contains new v ≡ is_paired (take (i + 1) pairs) v
paired-more pairs i points mid new within before first second v =
    let s = get_or pairs i (record { a = 0; b = 0 }) in
    ap (λ (t : FinSet nat_cmp). contains t v) second
    ∙ plus-at mid s.b v
    ∙ ap (λ (t : Bool). t || eqb s.b v)
    (ap (λ (t : FinSet nat_cmp). contains t v) first ∙ plus-at points s.a v)
    ∙ or_assoc (contains points v) (eqb s.a v) (eqb s.b v)
    ∙ ap (λ (t : Bool). t || (eqb s.a v || eqb s.b v)) (before v)
    ∙ sym (list_any_more (has_point v) pairs i (record { a = 0; b = 0 }) within)

-- the same after a step of the loop
pub pairs_on-passing_to : (t : ℕ → Bool) (v : ℕ) (old mid new last : List Pair)
    (waiting next last_waiting : Option ℕ)
    → t v ≡ true
    → PairsOn (passing_below t v) old mid waiting
    → PairsOn (option_to_list waiting ++ v ∷ []) mid new next
    → last ≡ new
    → last_waiting ≡ next
    → PairsOn (passing_below t (v + 1)) old last last_waiting
pairs_on-passing_to t v old mid new last waiting next last_waiting on a b pairs_are waiting_is =
    subst₂ (λ (ps : List Pair) (w : Option ℕ). PairsOn (passing_below t (v + 1)) old ps w)
    (sym pairs_are) (sym waiting_is) (pairs_on-passing t v old mid new waiting next on a b)

pub pairs_on-skipped_to : (t : ℕ → Bool) (v : ℕ) (old new last : List Pair)
    (waiting last_waiting : Option ℕ)
    → t v ≡ false
    → PairsOn (passing_below t v) old new waiting
    → last ≡ new
    → last_waiting ≡ waiting
    → PairsOn (passing_below t (v + 1)) old last last_waiting
pairs_on-skipped_to t v old new last waiting last_waiting off a pairs_are waiting_is =
    subst₂ (λ (ps : List Pair) (w : Option ℕ). PairsOn (passing_below t (v + 1)) old ps w)
    (sym pairs_are) (sym waiting_is) (pairs_on-skipped t v old new waiting off a)
