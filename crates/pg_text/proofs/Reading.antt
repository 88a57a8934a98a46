-- The least fault of a line, and a text that is read line by line.
use Rattle.std.proofs.Common.{◌≡◌, ℕ, ◌+◌, ◌≤◌, Bool, true, false, cond, List, [], ◌∷◌, ◌++◌}
use Rattle.std.proofs.Common.{length, Result, Ok, Err, Option, Some, None, refl, sym, ap, ◌∙◌}
use Rattle.std.proofs.Common.{arith}
use Rattle.pg_text.proofs.Common.{slice_split, length-slice_split, count_by-le-length}
use Rattle.pg_text.specs.Text.{Bytes, without_empty_end, lines}
use Rattle.pg_text.specs.Faults.{least, IsLeast, unless, go_on, reading, Fails, IsReadAs, at}
use Rattle.pg_text.specs.declared.error.LineError.{LineError}
use Rattle.pg_text.specs.declared.error.LineError.TheVariants as errors
use Rattle.pg_text.proofs.FirstLine.{is_feed, one_line}

-- ---- the least of a line

least_here : {F : Type 0} (f fault : F) (b : Bool) (rows : List (F × Bool))
    → (least rows ≡ Some fault → IsLeast fault rows)
    → cond b (Some f) (least rows) ≡ Some fault
    → IsLeast fault ((f, b) ∷ rows)
least_here f fault true rows others e =
    let same : f ≡ fault = cc in
    record {
      lower = [];
      higher = rows;
      cut = ap (λ g. (g, true) ∷ rows) same;
      none = tt;
    }
least_here f fault false rows others e =
    let rec = others e in
    record {
      lower = (f, false) ∷ rec.lower;
      higher = rec.higher;
      cut = ap (λ rs. (f, false) ∷ rs) rec.cut;
      none = (refl, rec.none);
    }

pub is_least : {F : Type 0} (rows : List (F × Bool)) (fault : F)
    → least rows ≡ Some fault
    → IsLeast fault rows
is_least [] fault e = absurd cc
is_least (row ∷ rows) fault e = least_here row.0 fault row.1 rows (is_least rows fault) e

pub unless_err : {F A : Type 0} (found : Option F) (fault : F) (a : A)
    → unless found a ≡ Err fault
    → found ≡ Some fault
unless_err None fault a e = absurd cc
unless_err (Some f) fault a e = cc

-- ---- line by line

-- how many lines a text has
pub lines_few : (text : Bytes) → length (lines text) ≤ length text + 1
unfolding lines
lines_few text = omega (
  arith,
  fewer (slice_split is_feed text),
  length-slice_split is_feed text,
  count_by-le-length is_feed text,
)
  where
    fewer : (parts : List Bytes) → length (without_empty_end parts) ≤ length parts
    fewer [] = omega arith
    fewer ([] ∷ []) = omega arith
    fewer ((b ∷ bs) ∷ []) = omega (arith, ap length (one_line (b ∷ bs) (omega arith)))
    fewer (part ∷ next ∷ parts) = omega (arith, fewer (next ∷ parts))

module _ {S F : Type 0} (read : S → Bytes → Result S F) where
  pub reads_on : (n : ℕ) (s next : S) (line : Bytes) (others : List Bytes)
      → read s line ≡ Ok next
      → reading read (n + 1) next others ≡ reading read n s (line ∷ others)
  unfolding reading
  reads_on n s next line others went = rw went refl

  stops : (n : ℕ) (s : S) (fault : F) (line : Bytes) (others : List Bytes)
      → read s line ≡ Err fault
      → reading read n s (line ∷ others) ≡ Err (fault, n)
  unfolding reading
  stops n s fault line others went = rw went refl

  pub is_over : (n : ℕ) (s : S) → reading read n s [] ≡ Ok s
  unfolding reading
  is_over n s = refl

  -- a line that could not be read
  pub ends : {X : Type 0} (number_of : F → ℕ) (seen : X → S) (e : LineError F) (n : ℕ) (s : S)
      (line : Bytes) (others : List Bytes) (total : Result S (F × ℕ))
      → Fails e (read s line)
      → reading read n s (line ∷ others) ≡ total
      → IsReadAs number_of seen (Err (at number_of e n)) total
  ends number_of seen errors.Memory n s line others total fails so_far = tt
  ends number_of seen (errors.Fault fault) n s line others total fails so_far =
      let last : total ≡ Err (fault, n) = sym so_far ∙ stops n s fault line others fails in
      rw last (refl, refl)

  -- what a fault is: the lines before it have none
  pub record IsFaultAfter (s : S) (ls : List Bytes) (fault : F) (place : ℕ) : Type 0 where
    pub before : List Bytes
    pub line : Bytes
    pub behind : List Bytes
    pub state : S
    pub cut : ls ≡ before ++ line ∷ behind
    pub sound : (n : ℕ) → reading read n s before ≡ Ok state
    pub here : read state line ≡ Err fault
    pub number : place ≡ length before

  first_of : (s : S) (n : ℕ) (line : Bytes) (others : List Bytes) (fault : F) (m : ℕ)
      (r : Result S F)
      → read s line ≡ r
      → ((next : S) → reading read (n + 1) next others ≡ Err (fault, m)
      → (i : ℕ) × (m ≡ n + 1 + i) × IsFaultAfter next others fault i)
      → go_on n r (λ next. reading read (n + 1) next others) ≡ Err (fault, m)
      → (i : ℕ) × (m ≡ n + i) × IsFaultAfter s (line ∷ others) fault i
  unfolding reading
  first_of s n line others fault m (Ok next) e go h =
      let rec = go next h in
      let f = rec.2 in (
        rec.0 + 1,
        omega (arith, rec.1),
        record {
          before = line ∷ f.before;
          line = f.line;
          behind = f.behind;
          state = f.state;
          cut = ap (λ (x : List Bytes). line ∷ x) f.cut;
          sound = λ k. rw e (f.sound (k + 1));
          here = f.here;
          number = omega (arith, f.number);
        },
      )
  first_of s n line others fault m (Err g) e go h =
      let p : ◌≡◌ {A = F × ℕ} (g, n) (fault, m) = cc in
      let same : g ≡ fault = ap (λ (x : F × ℕ). x.0) p in
      let placed : n ≡ m = ap (λ (x : F × ℕ). x.1) p in (
        0,
        omega (arith, placed),
        record {
          before = [];
          line = line;
          behind = others;
          state = s;
          cut = refl;
          sound = λ k. refl;
          here = e ∙ ap (λ (x : F). Err x) same;
          number = refl;
        },
      )

  pub first_fault : (s : S) (n : ℕ) (ls : List Bytes) (fault : F) (m : ℕ)
      → reading read n s ls ≡ Err (fault, m)
      → (i : ℕ) × (m ≡ n + i) × IsFaultAfter s ls fault i
  unfolding reading
  first_fault s n [] fault m h = absurd cc
  first_fault s n (line ∷ others) fault m h = first_of s n line others fault m (read s line) refl
      (λ next. first_fault next (n + 1) others fault m) h
