-- A printed certificate is read again as the same certificate.
use Rattle.std.proofs.Common.{◌≡◌, ℕ, suc, ◌+◌, ◌<◌, ◌≤◌, lit<, true, false, inl, List, [], ◌∷◌}
use Rattle.std.proofs.Common.{◌++◌, length, map, arith, refl, sym, ap, subst, ◌∙◌, append_assoc}
use Rattle.std.proofs.Common.{Option, Some, None, Ok}
use Rattle.std.specs.Prelude.{◌==◌, nat_le, codes, slice_index, option_map, IfSome}
use Rattle.pg_family_files.proofs.Common.{FinSet, decimal, flat_map, list_any, AllByRecursion}
use Rattle.pg_family_files.proofs.Common.{nat_cmp, nat_tests, append-nil, length-append}
use Rattle.pg_family_files.proofs.Common.{recursion_from_All, members, side_word, Side}
use Rattle.pg_family_files.proofs.Common.{points_below-each, points_below-small}
use Rattle.pg_family_files.proofs.Common.{points_below-ascend, from_list-points_below, each_of}
use Rattle.pg_family_files.proofs.Common.{reading, Bytes, ascend_from, lines, spaced, spelled}
use Rattle.pg_family_files.proofs.Common.{IsDigit, all_append, all_map, decimal_digits, decimal_not}
use Rattle.pg_family_files.proofs.Common.{number_decimal, reads_on, is_over, set_words, is_slash}
use Rattle.pg_family_files.proofs.Common.{has_one_slash, before_slash, after_slash, SpanBody}
use Rattle.pg_family_files.proofs.Common.{SpanCert, SpanClaim}
use Rattle.std.specs.List.Sorted.{IsStrictlyIncreasing}
use Rattle.pg_base.specs.declared.side.Side.TheVariants as sides
use Rattle.pg_text.proofs.FirstLine.{lines_feed}
use Rattle.pg_text.proofs.PlainWords.{IsWord, decimal_is_word, spaced_quiet, words_spaced}
use Rattle.pg_text.proofs.PlainWords.{quiet_lacks_feed}
use Rattle.pg_span.specs.declared.cert.SpanBody.TheVariants as bodies
use Rattle.pg_family_files.specs.SpanCertFile.{Draft, nothing, after, said, span_cert}
use Rattle.pg_family_files.specs.SpanCertLine.{body_from, body_of, cut_first, edges_of, first_edge}
use Rattle.pg_family_files.specs.SpanCertLine.{head_of, is_first, number_in, trees_of}
use Rattle.pg_family_files.specs.SpanCertPrint.{AreSmall, IsSmallBody, IsWithinRanges, body_words}
use Rattle.pg_family_files.specs.SpanCertPrint.{claim_lines, claim_words, first_words, header}
use Rattle.pg_family_files.specs.SpanCertPrint.{printed_lines, printed_span}
use Rattle.pg_family_files.specs.declared.cert_draft.Due.TheVariants as due
use Rattle.pg_family_files.specs.declared.cert_line.Head.{Head}
use Rattle.pg_family_files.proofs.SpanCertReading.{fits_file, said_is, ends_well}

-- ---- numbers and sets

abbrev IsSmall : ℕ → Type 0
IsSmall n = n ≤ 999

number_back : (n : ℕ) → IsSmall n → number_in (decimal n) ≡ Ok n
number_back n small =
    let e = number_decimal n (omega arith) in
    let t : nat_le n 999 ≡ true = grind (arith, nat_tests) in
    rw (e, t) refl

numbers_back : (ns : List ℕ)
    → AllByRecursion IsSmall ns
    → each_of number_in (map decimal ns) ≡ Ok ns
numbers_back [] h = refl
numbers_back (n ∷ ns) h =
    let here = number_back n h.0 in
    let others = numbers_back ns h.1 in
    rw (here, others) refl

are_words : (ns : List ℕ) → AllByRecursion IsSmall ns → AllByRecursion IsWord (map decimal ns)
are_words ns h =
    all_map decimal IsSmall IsWord (λ n small. decimal_is_word n (omega (arith, small))) ns h

small_members : (s : FinSet nat_cmp) → AreSmall s → AllByRecursion IsSmall (members s)
small_members s h = points_below-each IsSmall s 1024 (λ v on lt. h v on)

-- numbers in strict order, none below the first that may stand there, ascend
ascends : (m : ℕ) (ps : List ℕ)
    → (0 < length ps → m ≤ slice_index ps 0)
    → IsStrictlyIncreasing ps
    → ascend_from m ps ≡ true
ascends m [] least up = refl
ascends m (p ∷ ps) least up =
    let here : nat_le m p ≡ true = grind (arith, nat_tests, least (omega arith)) in
    rw here
    (ascends (p + 1) ps (λ some. omega (arith, up 0 (omega (arith, some)))) (behind p ps up))
  where
    behind : (p : ℕ) (ps : List ℕ) → IsStrictlyIncreasing (p ∷ ps) → IsStrictlyIncreasing ps
    behind p ps up = λ k h.
        let e : suc k + 1 ≡ suc (k + 1) = omega arith in
        subst (λ i. slice_index ps k < slice_index (p ∷ ps) i) e (up (suc k) (omega (arith, h)))

set_back : (s : FinSet nat_cmp) → AreSmall s → edges_of (set_words s) ≡ Ok s
set_back s h =
    let read = numbers_back (members s) (small_members s h) in
    let up = ascends 0 (members s) (λ some. omega arith) (points_below-ascend s 1024) in
    let same = from_list-points_below s 1024 (λ v on. omega (arith, h v on)) in
    rw (read, up, same) refl

-- ---- trees

abbrev slash : Bytes
slash = codes "/"

abbrev AreNoSlashes : List Bytes → Type 0
AreNoSlashes ws = AllByRecursion (λ w. is_slash w ≡ false) ws

no_slashes : (s : FinSet nat_cmp) → AreNoSlashes (set_words s)
no_slashes s = all_map decimal (λ p. p < 1024) (λ w. is_slash w ≡ false)
    (λ p k. decimal_not 47 p (omega arith) (inl (lit< tt))) (members s) (points_below-small s 1024)

before_words : (ws vs : List Bytes) → AreNoSlashes ws → before_slash (ws ++ slash ∷ vs) ≡ ws
before_words [] vs h = refl
before_words (w ∷ ws) vs h = rw h.0 (ap (λ (x : List Bytes). w ∷ x) (before_words ws vs h.1))

after_words : (ws vs : List Bytes) → AreNoSlashes ws → after_slash (ws ++ slash ∷ vs) ≡ vs
after_words [] vs h = refl
after_words (w ∷ ws) vs h = rw h.0 (after_words ws vs h.1)

no_slash_in : (ws : List Bytes) → AreNoSlashes ws → list_any is_slash ws ≡ false
no_slash_in [] h = refl
no_slash_in (w ∷ ws) h = rw h.0 (no_slash_in ws h.1)

one_slash : (ws vs : List Bytes)
    → AreNoSlashes ws
    → AreNoSlashes vs
    → has_one_slash (ws ++ slash ∷ vs) ≡ true
one_slash [] vs h k = let none = no_slash_in vs k in rw none refl
one_slash (w ∷ ws) vs h k = rw h.0 (one_slash ws vs h.1 k)

not_first : (w : Bytes) → AllByRecursion IsDigit w → is_first w ≡ false
not_first [] h = refl
not_first (b ∷ bs) h = let off : (b == 102) ≡ false = grind (arith, nat_tests, h.0) in rw off refl

begins_not : (ps : List ℕ) (vs : List Bytes)
    → AllByRecursion (λ p. p < 1024) ps
    → cut_first (map decimal ps ++ slash ∷ vs) ≡ record {
      first = None;
      sets = map decimal ps ++ slash ∷ vs;
    }
begins_not [] vs h = refl
begins_not (p ∷ ps) vs h =
    let off = not_first (decimal p) (decimal_digits p (omega (arith, h.0))) in
    rw off refl

cut_back : (first : Option ℕ) (a1 a2 : FinSet nat_cmp)
    → cut_first (first_words first ++ (set_words a1 ++ slash ∷ set_words a2)) ≡ record {
      first = option_map decimal first;
      sets = set_words a1 ++ slash ∷ set_words a2;
    }
cut_back None a1 a2 = begins_not (members a1) (set_words a2) (points_below-small a1 1024)
cut_back (Some v) a1 a2 = refl

first_back : (first : Option ℕ)
    → IfSome first IsSmall
    → first_edge (option_map decimal first) ≡ Ok first
first_back None h = refl
first_back (Some v) h = let here = number_back v h in rw here refl

trees_back : (first : Option ℕ) (a1 a2 : FinSet nat_cmp)
    → IfSome first IsSmall
    → AreSmall a1
    → AreSmall a2
    → trees_of (cut_first (first_words first ++ (set_words a1 ++ slash ∷ set_words a2)))
    ≡ Ok (bodies.Trees first a1 a2)
trees_back first a1 a2 f h k =
    let cut = cut_back first a1 a2 in
    let form = one_slash (set_words a1) (set_words a2) (no_slashes a1) (no_slashes a2) in
    let edge = first_back first f in
    let front : edges_of (before_slash (set_words a1 ++ slash ∷ set_words a2)) ≡ Ok a1 =
    ap edges_of (before_words (set_words a1) (set_words a2) (no_slashes a1)) ∙ set_back a1 h in
    let behind : edges_of (after_slash (set_words a1 ++ slash ∷ set_words a2)) ≡ Ok a2 =
    ap edges_of (after_words (set_words a1) (set_words a2) (no_slashes a1)) ∙ set_back a2 k in
    ap trees_of cut ∙ rw (form, edge, front, behind) refl

-- ---- bodies

trees_word : IsWord (codes "trees")
trees_word = (
  (lit< tt, lit< tt),
  ((lit< tt, lit< tt), ((lit< tt, lit< tt), ((lit< tt, lit< tt), ((lit< tt, lit< tt), tt)))),
)

parts_word : IsWord (codes "parts")
parts_word = (
  (lit< tt, lit< tt),
  ((lit< tt, lit< tt), ((lit< tt, lit< tt), ((lit< tt, lit< tt), ((lit< tt, lit< tt), tt)))),
)

first_are_words : (first : Option ℕ)
    → IfSome first IsSmall
    → AllByRecursion IsWord (first_words first)
first_are_words None h = tt
first_are_words (Some v) h = (
  (
    (lit< tt, lit< tt),
    ((lit< tt, lit< tt), ((lit< tt, lit< tt), ((lit< tt, lit< tt), ((lit< tt, lit< tt), tt)))),
  ),
  (decimal_is_word v (omega (arith, h)), tt),
)

body_are_words : (b : SpanBody) → IsSmallBody b → AllByRecursion IsWord (body_words b)
body_are_words (bodies.Trees first a1 a2) h = (
  trees_word,
  all_append IsWord (first_words first) (set_words a1 ++ slash ∷ set_words a2)
      (first_are_words first h.0)
      (all_append IsWord (set_words a1) (slash ∷ set_words a2)
      (are_words (members a1) (small_members a1 h.1))
      (((lit< tt, lit< tt), tt), are_words (members a2) (small_members a2 h.2))),
)
body_are_words (bodies.Parts ns) h = (parts_word, are_words ns (recursion_from_All IsSmall ns h))

body_back : (b : SpanBody) → IsSmallBody b → body_of (spaced (body_words b)) ≡ Ok b
unfolding body_of
body_back (bodies.Trees first a1 a2) h =
    let words = body_are_words (bodies.Trees first a1 a2) h in
    ap body_from
    (words_spaced (codes "trees")
    (first_words first ++ (set_words a1 ++ slash ∷ set_words a2)) words.0 words.1)
    ∙ trees_back first a1 a2 h.0 h.1 h.2
body_back (bodies.Parts ns) h =
    let words = body_are_words (bodies.Parts ns) h in
    let read = numbers_back ns (recursion_from_All IsSmall ns h) in
    ap body_from (words_spaced (codes "parts") (map decimal ns) words.0 words.1) ∙ rw read refl

-- ---- claim lines

head_back : (turn side : Side)
    → head_of (spaced (codes "claim" ∷ side_word turn ∷ side_word side ∷ []))
    ≡ Some (record { turn = turn; side = side })
unfolding head_of
head_back sides.X sides.X = refl
head_back sides.X sides.Y = refl
head_back sides.Y sides.X = refl
head_back sides.Y sides.Y = refl

side_are_words : (side : Side) → IsWord (side_word side)
side_are_words sides.X = ((lit< tt, lit< tt), tt)
side_are_words sides.Y = ((lit< tt, lit< tt), tt)

claim_word : IsWord (codes "claim")
claim_word = (
  (lit< tt, lit< tt),
  ((lit< tt, lit< tt), ((lit< tt, lit< tt), ((lit< tt, lit< tt), ((lit< tt, lit< tt), tt)))),
)

-- ---- the lines

-- claims that are whole
abbrev whole : List SpanClaim → Draft
whole cs = record { due = due.Claim; claims = cs }

abbrev head_is : SpanClaim → Head
head_is c = record { turn = c.turn; side = c.side }

abbrev begun : List SpanClaim → SpanClaim → Draft
begun cs c = record { due = due.Body (head_is c); claims = cs }

claim_step : (cs : List SpanClaim) (c : SpanClaim)
    → length cs < 8
    → after (whole cs) (spaced (claim_words c)) ≡ Ok (begun cs c)
unfolding after
claim_step cs c few =
    let head = head_back c.turn c.side in
    let t : nat_le 8 (length cs) ≡ false = grind (arith, nat_tests, few) in
    rw (head, t) refl

body_step : (cs : List SpanClaim) (c : SpanClaim)
    → IsSmallBody c.body
    → after (begun cs c) (spaced (body_words c.body)) ≡ Ok (whole (cs ++ c ∷ []))
unfolding after
body_step cs c small = let body = body_back c.body small in rw body refl

claims_read : (cs before : List SpanClaim) (n : ℕ)
    → length before + length cs ≤ 8
    → AllByRecursion (λ (c : SpanClaim). IsSmallBody c.body) cs
    → reading after n (whole before) (map spaced (flat_map claim_lines cs))
    ≡ Ok (whole (before ++ cs))
claims_read [] before n few h = is_over after n (whole before)
    ∙ ap (λ (cs : List SpanClaim). Ok (whole cs)) (sym (append-nil before))
claims_read (c ∷ cs) before n few h =
    let others = map spaced (flat_map claim_lines cs) in
    let body = spaced (body_words c.body) in
    let one = reads_on after n (whole before) (begun before c) (spaced (claim_words c))
    (body ∷ others) (claim_step before c (omega (arith, few))) in
    let two = reads_on after (n + 1) (begun before c) (whole (before ++ c ∷ [])) body others
    (body_step before c h.0) in
    let left = claims_read cs (before ++ c ∷ []) (n + 1 + 1)
    (omega (arith, few, length-append before (c ∷ []))) h.1 in
    sym one
    ∙ sym two
    ∙ left
    ∙ ap (λ (xs : List SpanClaim). Ok (whole xs)) (append_assoc before (c ∷ []) cs)

lines_back : (wss : List (List Bytes))
    → AllByRecursion (λ ws. AllByRecursion IsWord ws) wss
    → lines (flat_map spelled wss) ≡ map spaced wss
unfolding lines
lines_back [] h = refl
lines_back (ws ∷ wss) h =
    let text = flat_map spelled wss in
    let regrouped : flat_map spelled (ws ∷ wss) ≡ spaced ws ++ 10 ∷ text =
    append_assoc (spaced ws) (10 ∷ []) text in
    ap lines regrouped
    ∙ lines_feed (spaced ws) text (quiet_lacks_feed (spaced ws) (spaced_quiet ws h.0))
    ∙ ap (λ (x : List Bytes). spaced ws ∷ x) (lines_back wss h.1)

claims_are_words : (cs : List SpanClaim)
    → AllByRecursion (λ (c : SpanClaim). IsSmallBody c.body) cs
    → AllByRecursion (λ ws. AllByRecursion IsWord ws) (flat_map claim_lines cs)
claims_are_words [] h = tt
claims_are_words (c ∷ cs) h = (
  (claim_word, (side_are_words c.turn, (side_are_words c.side, tt))),
  (body_are_words c.body h.0, claims_are_words cs h.1),
)

header_words : AllByRecursion IsWord header
header_words = (
  (
    (lit< tt, lit< tt),
    (
      (lit< tt, lit< tt),
      (
        (lit< tt, lit< tt),
        (
          (lit< tt, lit< tt),
          (
            (lit< tt, lit< tt),
            (
              (lit< tt, lit< tt),
              (
                (lit< tt, lit< tt),
                (
                  (lit< tt, lit< tt),
                  (
                    (lit< tt, lit< tt),
                    (
                      (lit< tt, lit< tt),
                      (
                        (lit< tt, lit< tt),
                        (
                          (lit< tt, lit< tt),
                          (
                            (lit< tt, lit< tt),
                            (
                              (lit< tt, lit< tt),
                              ((lit< tt, lit< tt), ((lit< tt, lit< tt), ((lit< tt, lit< tt), tt))),
                            ),
                          ),
                        ),
                      ),
                    ),
                  ),
                ),
              ),
            ),
          ),
        ),
      ),
    ),
  ),
  (((lit< tt, lit< tt), tt), tt),
)

header_step : after nothing (spaced header) ≡ Ok (whole [])
unfolding after
header_step = refl

pub reads_back : (c : SpanCert)
    → IsWithinRanges c
    → length (printed_span c) ≤ 4194304
    → span_cert (printed_span c) ≡ Ok c
unfolding printed_span
reads_back c h few =
    let numbers =
    recursion_from_All (λ (claim : SpanClaim). IsSmallBody claim.body) c.claims h.numbers in
    let others = map spaced (flat_map claim_lines c.claims) in
    let cut : lines (flat_map spelled (printed_lines c)) ≡ spaced header ∷ others =
    lines_back (printed_lines c) (header_words, claims_are_words c.claims numbers) in
    let one = reads_on after 1 nothing (whole []) (spaced header) others header_step in
    let read : reading after 1 nothing (spaced header ∷ others) ≡ Ok (whole c.claims) =
    sym one ∙ claims_read c.claims [] (1 + 1) (omega (arith, h.few)) numbers in
    fits_file (flat_map spelled (printed_lines c)) few
    ∙ ap said cut
    ∙ said_is (spaced header ∷ others) (whole c.claims) read
    ∙ ends_well c.claims (length (spaced header ∷ others) + 1) h.some
