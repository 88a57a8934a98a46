-- A cache of what matching answered, for one list of lines.
use Rattle.std.specs.Prelude.{◌≡◌, ℕ, ◌+◌, ◌-◌, ◌^◌, ◌≤◌, Bool, true, false, ◌&&◌, List, ◌∷◌, ◌++◌}
use Rattle.std.specs.Prelude.{length, min, take}
use Rattle.pg_match.specs.Prelude.{All, Any, FinSet, nat_cmp, IsEquivalence, IsPartialEquivalence}
use Rattle.pg_match.specs.Prelude.{decided, partial_equiv_from_equiv}
use Rattle.std.specs.Str.{bytes_eq}
use Rattle.std.specs.Bool.{Decides}
use Rattle.std.proofs.Common.{sym, ap, ◌∙◌}
use Rattle.std.proofs.lemmas.Bool.{and_parts, and_from}
use Rattle.std.proofs.lemmas.Slice.Eq.{bytes_eq-Decides}
use Rattle.pg_base.specs.PointLemmas.{equal, equal-decides}
use Rattle.pg_base.specs.PointLemmas as points
use Rattle.std.proofs.Common.{◌⊎◌, inl, inr, refl}
use Rattle.std.specs.Coded.{Coded, code_by, coded×, coded⊎, coded_list, coded_ℕ}
use Rattle.std.specs.FinSet as set
use Rattle.pg_match.specs.Prelude.{Pair, Side, Game, Position, lookup, LruCache, lru_cache}
use Rattle.pg_match.specs.Prelude.{put_entries}
use Rattle.pg_match.specs.Meant.{AreMeant, AreFree}
use Rattle.pg_match.specs.Private.{Answer, FoundPairs, FoundShort, IsAnswer, told}
use Rattle.pg_match.specs.declared.matching.Matching.{Matching}
use Rattle.std.specs.Prelude.{Some}

-- ---- what is asked

-- the wanted lines and the free points
pub record Asked : Type 0 where
  pub wanted : List ℕ
  pub free : FinSet nat_cmp

unfoldable pub same_asked : Asked → Asked → Bool
same_asked a b = equal a.free b.free && bytes_eq a.wanted b.wanted

pub same_asked-decides : (a b : Asked) → Decides (same_asked a b) (a ≡ b)
unfolding same_asked
same_asked-decides a b = (
  λ both.
      let parts = and_parts _ _ both in
      let free_same = (equal-decides a.free b.free).0 parts.0 in
      let wanted_same = (bytes_eq-Decides a.wanted b.wanted).0 parts.1 in
      ap (λ w. record { wanted = w; free = a.free }) wanted_same
      ∙ ap (λ f. record { wanted = b.wanted; free = f }) free_same,
  λ same. and_from _ _ ((equal-decides a.free b.free).1 (ap (λ q. q.free) same))
      ((bytes_eq-Decides a.wanted b.wanted).1 (ap (λ q. q.wanted) same)),
)

pub same_asked-equivalence : IsEquivalence same_asked
same_asked-equivalence = decided same_asked same_asked-decides

pub same_asked-partial : IsPartialEquivalence same_asked
same_asked-partial = partial_equiv_from_equiv same_asked-equivalence

-- only the free points are hashed
abbrev pub hash_input : Asked → List (List ℕ)
hash_input a = points.hash_input a.free

pub hash_input-respects : (a b : Asked) → same_asked a b ≡ true → hash_input a ≡ hash_input b
hash_input-respects a b h = ap hash_input ((same_asked-decides a b).0 h)

-- two tests, one after the other
pub same_asked-then : (a b : Asked) (f r : Bool)
    → f ≡ equal a.free b.free
    → f ≡ true
    → r ≡ bytes_eq a.wanted b.wanted
    → r ≡ same_asked a b
unfolding same_asked
same_asked-then a b f r is on rest = rest ∙ ap (λ t. t && bytes_eq a.wanted b.wanted) (sym on ∙ is)

pub same_asked-else : (a b : Asked) (f : Bool)
    → f ≡ equal a.free b.free
    → f ≡ false
    → f ≡ same_asked a b
unfolding same_asked
same_asked-else a b f is off = off ∙ ap (λ t. t && bytes_eq a.wanted b.wanted) (sym off ∙ is)

-- ---- what is kept

-- a question with its answer
pub record Kept : Type 0 where
  pub asked : Asked
  pub answer : Answer

-- a cache: how many answers it keeps at most, how often it had the answer, and what it keeps, the
-- most recent first
pub record Cache : Type 0 where
  pub capacity : ℕ
  pub hits : ℕ
  pub kept : List Kept

-- the answer is one for these lines
abbrev pub IsFor : List (List ℕ) → Kept → Type 0
IsFor lines k = IsAnswer lines k.asked.wanted k.asked.free k.answer

-- each answer that is kept is one for these lines
abbrev pub Fits : Cache → List (List ℕ) → Type 0
Fits cache lines = All (IsFor lines) cache.kept

-- the question is among those that are kept
abbrev pub IsHeld : Cache → Asked → Type 0
IsHeld cache asked = Any (λ k. k.asked ≡ asked) cache.kept

-- the number one higher, up to the last of 64 bits
abbrev pub one_more : ℕ → ℕ
one_more hits = min (hits + 1) (2 ^ 64 - 1)

-- the question was kept: it counts, its answer comes to the front, and the others keep their order
pub record IsHit (old new : Cache) (k : Kept) : Type 0 where
  pub counted : new.hits ≡ one_more old.hits
  pub before : List Kept
  pub after : List Kept
  pub was : old.kept ≡ before ++ k ∷ after
  pub now : new.kept ≡ k ∷ before ++ after

-- the question wasn't kept: its answer is kept now, and the least recent goes where there was no
-- room, or it isn't kept
pub data IsMiss (old new : Cache) (k : Kept) : Type 0 where
  keeps : new.kept ≡ k ∷ take (old.capacity - 1) old.kept → IsMiss old new k
  leaves : new.kept ≡ old.kept → IsMiss old new k

-- what an ask leaves of the question and its answer
pub record Remembers (old new : Cache) (k : Kept) : Type 0 where
  pub capacity : new.capacity ≡ old.capacity
  pub hit : IsHeld old k.asked → IsHit old new k
  pub missed : (IsHeld old k.asked → ⊥) → (new.hits ≡ old.hits) × IsMiss old new k

-- what an ask leaves: it remembers, and keeps no more than its capacity
pub record IsAfterAsk (old new : Cache) (k : Kept) : Type 0 where
  pub remembers : Remembers old new k
  pub room : length new.kept ≤ new.capacity

-- what the leaf of pairs leaves: the cache as it was, or as an ask for the lines meant and the free
-- points leaves it
pub data IsAfterLeaf (g : Game) (p : Position) (side : Side) (old new : Cache) : Type 0 where
  unasked : new ≡ old → IsAfterLeaf g p side old new
  asked : (k : Kept)
      → Remembers old new k
      → AreMeant g p side k.asked.wanted
      → AreFree g p k.asked.free
      → IsAfterLeaf g p side old new

-- an entry of the cache as what is kept
abbrev pub kept_of : Asked × Matching → Kept
kept_of e = record { asked = e.0; answer = told e.1 }

-- ---- codes, by which a proof tells such values apart

abbrev pub asked_code : Coded Asked
asked_code = code_by (List ℕ × FinSet nat_cmp) (coded× (coded_list coded_ℕ) (set.code coded_ℕ))
    (λ a. (a.wanted, a.free)) (λ p. record { wanted = p.0; free = p.1 }) (λ _. refl)

abbrev pair_code : Coded Pair
pair_code = code_by (ℕ × ℕ) (coded× coded_ℕ coded_ℕ) (λ s. (s.a, s.b)) (λ p. record {
  a = p.0;
  b = p.1;
}) (λ _. refl)

abbrev lists_of : Answer → List Pair ⊎ List ℕ
lists_of (FoundPairs pairs) = inl pairs
lists_of (FoundShort family) = inr family

abbrev answer_of : List Pair ⊎ List ℕ → Answer
answer_of (inl pairs) = FoundPairs pairs
answer_of (inr family) = FoundShort family

pub answer_back : (a : Answer) → answer_of (lists_of a) ≡ a
answer_back (FoundPairs pairs) = refl
answer_back (FoundShort family) = refl

abbrev answer_code : Coded Answer
answer_code = code_by (List Pair ⊎ List ℕ)
    (coded⊎ (coded_list pair_code) (coded_list coded_ℕ)) lists_of answer_of answer_back

abbrev kept_code : Coded Kept
kept_code = code_by (Asked × Answer) (coded× asked_code answer_code) (λ k. (k.asked, k.answer))
    (λ p. record { asked = p.0; answer = p.1 }) (λ _. refl)

abbrev pub cache_code : Coded Cache
cache_code = code_by (ℕ × (ℕ × List Kept)) (coded× coded_ℕ (coded× coded_ℕ (coded_list kept_code)))
    (λ c. (c.capacity, (c.hits, c.kept))) (λ p. record {
      capacity = p.0;
      hits = p.1.0;
      kept = p.1.1;
    }) (λ _. refl)

-- ---- what the cache's own functions say of its entries

-- an answer is that of the entry for the question
pub record Answers (entries : List (Asked × Matching)) (asked : Asked)
    (answer : Matching) : Type 0 where
  pub entry : Matching
  pub found : lookup (same_asked asked) entries ≡ Some entry
  pub same : told answer ≡ told entry

-- the entries stay, or a question comes to the front with an answer
pub data Keeps (old new : LruCache Asked Matching) (asked : Asked)
    (answer : Matching) : Type 0 where
  stays : new ≡ old → Keeps old new asked answer
  puts : (copy : Matching)
      → told copy ≡ told answer
      → new ≡ lru_cache (put_entries same_asked old asked copy) old.cap
      → Keeps old new asked answer
