-- Words that say pairs, one after the other.
use Rattle.std.proofs.Common.{◌≡◌, ◌∙◌, ℕ, ◌<◌, Bool, true, false, List, [], ◌∷◌, ◌++◌, length}
use Rattle.std.proofs.Common.{append_assoc, Result, Ok, Err, Some, refl, sym, ap, subst, inl, inr}
use Rattle.std.proofs.Common.{arith, ◌+◌}
use Rattle.std.specs.Prelude.{◌||◌, ◌==◌, eqb}
use Rattle.pg_cert_files.proofs.Common.{FinSet, contains, empty, insert, list_any}
use Rattle.pg_cert_files.proofs.Common.{AllByRecursion, onto_first, join_with_byte}
use Rattle.pg_cert_files.proofs.Common.{nat_cmp, cases_Bool, or_left, or_right, eqb-true, nat_tests}
use Rattle.pg_cert_files.proofs.Common.{contains-empty, length-append, All-from_recursion}
use Rattle.pg_cert_files.proofs.Common.{list_all-append, list_any-append}
use Rattle.pg_cert_files.proofs.Common.{join_with_byte-slice_split, slice_split-cons_yes}
use Rattle.pg_cert_files.proofs.Common.{slice_split-cons_no, Pair, has_point, is_paired, onto}
use Rattle.pg_cert_files.proofs.Common.{each_of, following, Bytes, parts, first_and_others}
use Rattle.pg_cert_files.proofs.Common.{some_part, word_pair, Fault, HYPHEN}
use Rattle.pg_cert_files.proofs.Common.{MAX_MEMBERS}
use Rattle.pg_base.specs.WordLemmas.{in_insert}
use Rattle.pg_cert_lines.specs.Numerals.{SaysFirst}
use Rattle.pg_cert_files.specs.Shortened.{share, clash}
use Rattle.pg_cert_files.specs.Shortening.{ArePairs, EndsInClash, EndsInPairs, HasMet, EndsInExcess}
use Rattle.pg_cert_files.specs.Shortening.{EndsInMany}

-- ---- the first word as text

joined : (sign : ℕ) (word : Bytes) (ps : List Bytes)
    → 0 < length ps
    → join_with_byte sign (word ∷ ps) ≡ word ++ sign ∷ join_with_byte sign ps
joined sign word [] some = absurd (omega arith)
joined sign word (p ∷ ps) some = refl

join_first : (sign : ℕ) (text word others : Bytes)
    → parts sign text ≡ word ∷ parts sign others
    → text ≡ word ++ sign ∷ others
join_first sign text word others e = sym (join_with_byte-slice_split sign text)
    ∙ ap (join_with_byte sign) e
    ∙ joined sign word (parts sign others) (some_part sign others)
    ∙ ap (λ (t : Bytes). word ++ sign ∷ t) (join_with_byte-slice_split sign others)

first_of : (a b : Bytes) (ps qs : List Bytes) → a ∷ ps ≡ b ∷ qs → a ≡ b
first_of a b ps qs e = cc

lacks_on : (sign b : ℕ) (word : Bytes) (ps ws : List Bytes)
    → (b == sign) ≡ false
    → 0 < length ps
    → ((q : Bytes) (qs : List Bytes) → ps ≡ q ∷ qs → AllByRecursion (λ c. (c == sign) ≡ false) q)
    → onto_first b ps ≡ word ∷ ws
    → AllByRecursion (λ c. (c == sign) ≡ false) word
lacks_on sign b word [] ws off some rec e = absurd (omega arith)
lacks_on sign b word (q ∷ qs) ws off some rec e = subst (AllByRecursion (λ c. (c == sign) ≡ false))
    (first_of (b ∷ q) word qs ws e) (off, rec q qs refl)

first_lacks : (sign : ℕ) (text word : Bytes) (ws : List Bytes)
    → parts sign text ≡ word ∷ ws
    → AllByRecursion (λ c. (c == sign) ≡ false) word
first_lacks sign [] word ws e =
    subst (AllByRecursion (λ c. (c == sign) ≡ false)) (first_of [] word [] ws e) tt
first_lacks sign (b ∷ bs) word ws e = elim (cases_Bool (b == sign)) [
  | inl on ↦ subst (AllByRecursion (λ c. (c == sign) ≡ false))
      (first_of [] word (parts sign bs) ws
      (sym (slice_split-cons_yes (λ c. c == sign) b bs on) ∙ e)) tt
  | inr off ↦ lacks_on sign b word (parts sign bs) ws off (some_part sign bs)
      (λ q qs is. first_lacks sign bs q qs is)
      (sym (slice_split-cons_no (λ c. c == sign) b bs off) ∙ e)
]

-- ---- words in a row

begun : {A : Type 0} (rs : Result (List A) Fault) → following [] rs ≡ rs
begun (Ok rs) = refl
begun (Err fault) = refl

one_more : {A : Type 0} (a : A) (ps : List A) (rs : Result (List A) Fault)
    → onto (Ok a) (following ps rs) ≡ following (a ∷ ps) rs
one_more a ps (Ok rs) = refl
one_more a ps (Err fault) = refl

follows_none : {A : Type 0} (ps : List A) (rs : Result (List A) Fault)
    → ◌≡◌ {A = Result (List A) Fault} (Ok []) (Ok ps)
    → following ps rs ≡ rs
follows_none [] rs e = begun rs
follows_none (p ∷ ps) rs e = absurd cc

follows_more : {A : Type 0} (r : Result A Fault) (front behind both : Result (List A) Fault)
    (ps : List A)
    → ((qs : List A) → front ≡ Ok qs → both ≡ following qs behind)
    → onto r front ≡ Ok ps
    → onto r both ≡ following ps behind
follows_more (Ok a) (Ok qs) behind both ps rec e =
    let same : a ∷ qs ≡ ps = cc in
    ap (onto (Ok a)) (rec qs refl) ∙ one_more a qs behind ∙ ap (λ l. following l behind) same
follows_more (Ok a) (Err fault) behind both ps rec e = absurd cc
follows_more (Err fault) front behind both ps rec e = absurd cc

pub each_append : {A : Type 0} (read : Bytes → Result A Fault) (xs ys : List Bytes) (ps : List A)
    → each_of read xs ≡ Ok ps
    → each_of read (xs ++ ys) ≡ following ps (each_of read ys)
each_append read [] ys ps e = sym (follows_none ps (each_of read ys) e)
each_append read (x ∷ xs) ys ps e = follows_more (read x) (each_of read xs) (each_of read ys)
    (each_of read (xs ++ ys)) ps (λ qs is. each_append read xs ys qs is) e

pub pair_first : (text : Bytes) (pair : Pair) (others : Bytes)
    → SaysFirst HYPHEN word_pair text pair (Some others)
    → ArePairs text (pair ∷ []) others
pair_first text pair others h =
    let form = h.form in
    let says = h.says in
    record {
      front = h.word ++ 32 ∷ [];
      cut = join_first 32 text h.word others h.cut ∙ sym (append_assoc h.word (32 ∷ []) others);
      words = h.word ∷ [];
      seam = λ tail. first_and_others ((h.word ++ 32 ∷ []) ++ tail) h.word tail
          (append_assoc h.word (32 ∷ []) tail)
          (All-from_recursion (λ c. (c == 32) ≡ false) h.word
          (first_lacks 32 text h.word (parts 32 others) h.cut));
      form = rw form refl;
      says = rw says refl;
    }

-- the word and the space behind it are some bytes
pub pair_shorter : (text : Bytes) (pair : Pair) (others : Bytes)
    → SaysFirst HYPHEN word_pair text pair (Some others)
    → length others < length text
pair_shorter text pair others h =
    let cut = ap length (join_first 32 text h.word others h.cut) in
    omega (arith, cut, length-append h.word (32 ∷ others))

pub are_none : (text : Bytes) → ArePairs text [] text
are_none text = record {
  front = [];
  cut = refl;
  words = [];
  seam = λ tail. refl;
  form = refl;
  says = refl;
}

pub are_more : (text mid rest : Bytes) (ps qs : List Pair)
    → ArePairs text ps mid
    → ArePairs mid qs rest
    → ArePairs text (ps ++ qs) rest
are_more text mid rest ps qs a b = record {
  front = a.front ++ b.front;
  cut = a.cut ∙ ap (λ (t : Bytes). a.front ++ t) b.cut ∙ sym (append_assoc a.front b.front rest);
  words = a.words ++ b.words;
  seam = λ tail. ap (parts 32) (append_assoc a.front b.front tail)
      ∙ a.seam (b.front ++ tail)
      ∙ ap (λ (t : List Bytes). a.words ++ t) (b.seam tail)
      ∙ sym (append_assoc a.words b.words (parts 32 tail));
  form =
      let one = a.form in
      let two = b.form in
      list_all-append _ a.words b.words ∙ rw (one, two) refl;
  says = each_append word_pair a.words b.words ps a.says ∙ ap (following ps) b.says;
}

-- ---- pairs that share a point

either_way : (a b : Bool) (P : Type 0) → (a || b) ≡ true → (a ≡ true → P) → (b ≡ true → P) → P
either_way true b P e f g = f refl
either_way false b P e f g = g e

any_more : (s : Pair) (ps qs : List Pair)
    → list_any (share s) ps ≡ true
    → list_any (share s) (ps ++ qs) ≡ true
any_more s ps qs e =
    list_any-append (share s) ps qs ∙ or_left (list_any (share s) ps) (list_any (share s) qs) e

pub clash_more : (ps qs : List Pair) → clash ps ≡ true → clash (ps ++ qs) ≡ true
clash_more [] qs e = absurd cc
clash_more (s ∷ ps) qs e = either_way (list_any (share s) ps) (clash ps) _ e
    (λ here. or_left (list_any (share s) (ps ++ qs)) (clash (ps ++ qs)) (any_more s ps qs here))
    (λ later. or_right (list_any (share s) (ps ++ qs)) (clash (ps ++ qs)) (clash_more ps qs later))

any_last : (s t : Pair) (ps : List Pair)
    → share s t ≡ true
    → list_any (share s) (ps ++ t ∷ []) ≡ true
any_last s t ps e = list_any-append (share s) ps (t ∷ [])
    ∙ or_right (list_any (share s) ps) (list_any (share s) (t ∷ [])) (or_left (share s t) false e)

-- a point that was met, in one more pair
clash_at : (ps : List Pair) (t : Pair) (v : ℕ)
    → ((s : Pair) → has_point v s ≡ true → share s t ≡ true)
    → is_paired ps v ≡ true
    → clash (ps ++ t ∷ []) ≡ true
clash_at [] t v shares e = absurd cc
clash_at (s ∷ ps) t v shares e = either_way (has_point v s) (is_paired ps v) _ e
    (λ here. or_left (list_any (share s) (ps ++ t ∷ [])) (clash (ps ++ t ∷ []))
    (any_last s t ps (shares s here))) (λ later. or_right (list_any (share s) (ps ++ t ∷ []))
    (clash (ps ++ t ∷ [])) (clash_at ps t v shares later))

pub clash_found : (ps : List Pair) (t : Pair)
    → (is_paired ps t.a || is_paired ps t.b) ≡ true
    → clash (ps ++ t ∷ []) ≡ true
clash_found ps t e = either_way (is_paired ps t.a) (is_paired ps t.b) _ e
    (clash_at ps t t.a (λ s on. or_left (has_point t.a s) (has_point t.b s) on))
    (clash_at ps t t.b (λ s on. or_right (has_point t.a s) (has_point t.b s) on))

-- ---- the points that were met

pub met_none : (text : Bytes) → HasMet text empty text
met_none text = record {
  pairs = [];
  are = are_none text;
  met = λ v on. let none : false ≡ true = sym (contains-empty _ v) ∙ on in absurd cc;
}

paired_last : (ps : List Pair) (t : Pair) (v : ℕ)
    → is_paired (ps ++ t ∷ []) v ≡ (is_paired ps v || (has_point v t || false))
paired_last ps t v = list_any-append (has_point v) ps (t ∷ [])

pub met_more : (text rest others : Bytes) (points : FinSet nat_cmp) (t : Pair)
    → HasMet text points rest
    → ArePairs rest (t ∷ []) others
    → HasMet text (insert (insert points t.a) t.b) others
met_more text rest others points t h next = record {
  pairs = h.pairs ++ t ∷ [];
  are = are_more text rest others h.pairs (t ∷ []) h.are next;
  met = λ v on.
      let at_b : contains (insert (insert points t.a) t.b) v
      ≡ (eqb v t.b || contains (insert points t.a) v) = in_insert (insert points t.a) t.b v in
      let at_a : contains (insert points t.a) v ≡ (eqb v t.a || contains points v) =
      in_insert points t.a v in
      let last : (has_point v t || false) ≡ true → is_paired (h.pairs ++ t ∷ []) v ≡ true =
      λ e. paired_last h.pairs t v ∙ or_right (is_paired h.pairs v) _ e in
      either_way (eqb v t.b) (contains (insert points t.a) v) _ (sym at_b ∙ on)
      (λ e. last (or_left (has_point v t) false (or_right (t.a == v) (t.b == v) (turned v t.b e))))
      (λ e. either_way (eqb v t.a) (contains points v) _ (sym at_a ∙ e)
      (λ f. last (or_left (has_point v t) false (or_left (t.a == v) (t.b == v) (turned v t.a f))))
      (λ f. paired_last h.pairs t v ∙ or_left (is_paired h.pairs v) _ (h.met v f)));
}
  where
    turned : (v w : ℕ) → eqb v w ≡ true → (w == v) ≡ true
    turned v w e = let same : v ≡ w = eqb-true v w e in grind (arith, nat_tests, same)

-- a point of the next pair was met
pub clash_met : (text rest others : Bytes) (points : FinSet nat_cmp) (t : Pair)
    → HasMet text points rest
    → ArePairs rest (t ∷ []) others
    → (contains points t.a || contains points t.b) ≡ true
    → EndsInClash text others
clash_met text rest others points t h next on = record {
  pairs = h.pairs ++ t ∷ [];
  are = are_more text rest others h.pairs (t ∷ []) h.are next;
  clashes = clash_found h.pairs t (either_way (contains points t.a) (contains points t.b) _ on
      (λ e. or_left (is_paired h.pairs t.a) (is_paired h.pairs t.b) (h.met t.a e))
      (λ e. or_right (is_paired h.pairs t.a) (is_paired h.pairs t.b) (h.met t.b e)));
}

-- ---- many pairs

pub many_none : (text : Bytes) → EndsInMany text 0 text
many_none text = record { pairs = []; are = are_none text; many = omega arith }

pub many_more : (text rest others : Bytes) (count : ℕ) (t : Pair)
    → EndsInMany text count rest
    → ArePairs rest (t ∷ []) others
    → EndsInMany text (count + 1) others
many_more text rest others count t h next = record {
  pairs = h.pairs ++ t ∷ [];
  are = are_more text rest others h.pairs (t ∷ []) h.are next;
  many = omega (arith, h.many, length-append h.pairs (t ∷ []));
}

-- two that share a point, and many after them
pub excess_from : (text mid others : Bytes)
    → EndsInClash text mid
    → EndsInMany mid MAX_MEMBERS others
    → EndsInExcess text others
excess_from text mid others a b = record {
  pairs = a.pairs ++ b.pairs;
  are = are_more text mid others a.pairs b.pairs a.are b.are;
  clashes = clash_more a.pairs b.pairs a.clashes;
  many = omega (arith, b.many, length-append a.pairs b.pairs);
}

-- ---- any pairs

pub pairs_none : (text : Bytes) → EndsInPairs text text
pairs_none text = record { pairs = []; are = are_none text }

pub pairs_more : (text rest others : Bytes) (t : Pair)
    → EndsInPairs text rest
    → ArePairs rest (t ∷ []) others
    → EndsInPairs text others
pairs_more text rest others t h next = record {
  pairs = h.pairs ++ t ∷ [];
  are = are_more text rest others h.pairs (t ∷ []) h.are next;
}
