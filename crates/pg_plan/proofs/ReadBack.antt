-- A printed plan is read again as itself.
use Rattle.std.proofs.Common.{◌≡◌, ◌∙◌, ℕ, ◌+◌, ◌<◌, ◌≤◌, true, false, inr, List, []}
use Rattle.std.proofs.Common.{◌∷◌, ◌++◌, length, map, refl, sym, ap, subst, append_assoc, arith}
use Rattle.std.proofs.Common.{Some, Ok}
use Rattle.std.specs.Prelude.{nat_lt}
use Rattle.pg_plan.proofs.Common.{AllByRecursion, Bytes, append-nil, decimal, each_of, is_over}
use Rattle.pg_plan.proofs.Common.{length_push, nat_tests, number, number_decimal, parts}
use Rattle.pg_plan.proofs.Common.{reading, reads_on, spaced, two_decimals, words_spaced}
use Rattle.pg_plan.proofs.PrintedLines.{AreInRange, AreWords, place_are_words, place_text}
use Rattle.pg_plan.proofs.PrintedLines.{plan_cut}
use Rattle.pg_plan.specs.Places.{ArePlaces, IsPlace, IsPlan, IsStep, names_earlier}
use Rattle.pg_plan.specs.PlanFile.{after, below, file_of, is_full, place_from, place_of, plan_of}
use Rattle.pg_plan.specs.PlanFile.{step_from, step_of, with_one}
use Rattle.pg_plan.specs.Print.{place_words, printed_plan, step_word}
use Rattle.pg_plan.specs.declared.place.Place.{Place}
use Rattle.pg_plan.specs.declared.place.Place.TheVariants.{Decided, Game, Image, Moves}
use Rattle.pg_plan.specs.declared.place.Step.{Step}

-- ---- words

below_back : (limit n : ℕ) → n < limit → n < 1000000 → below limit (Some n) ≡ Ok n
below_back limit n low small =
    let t : nat_lt n limit ≡ true = grind (arith, nat_tests, low) in
    rw t refl

number_back : (limit n : ℕ)
    → n < limit
    → n < 1000000
    → below limit (number (decimal n)) ≡ Ok n
number_back limit n low small =
    ap (below limit) (number_decimal n (omega (arith, small))) ∙ below_back limit n low small

file_back : (k : ℕ)
    → 0 < k
    → k < 100000
    → file_of (number (decimal k)) ≡ Ok k
file_back k some few =
    let e = number_decimal k (omega (arith, few)) in
    let a : nat_lt 0 k ≡ true = grind (arith, nat_tests, some) in
    let b : nat_lt k 100000 ≡ true = grind (arith, nat_tests, few) in
    ap file_of e ∙ rw (a, b) refl

step_back : (s : Step) → IsStep s → step_of (step_word s) ≡ Ok s
unfolding step_of
step_back s is =
    let low = is.point in
    let few = is.place in
    let two = two_decimals 58 s.point s.place (omega (arith, low)) (omega (arith, few))
    (inr (omega arith)) in
    let v = number_back 1024 s.point low (omega (arith, low)) in
    let j = number_back 100000 s.place few (omega (arith, few)) in
    ap step_from two ∙ rw (v, j) refl

steps_back : (steps : List Step)
    → AllByRecursion IsStep steps
    → each_of step_of (map step_word steps) ≡ Ok steps
steps_back [] each = refl
steps_back (s ∷ ss) each =
    let here = step_back s each.0 in
    let others = steps_back ss each.1 in
    rw (here, others) refl

-- ---- lines

words_back : (p : Place) → IsPlace p → place_from (place_words p) ≡ Ok p
words_back Decided is = refl
words_back (Image m j) is =
    let low = is.0 in
    let few = is.1 in
    let a = number_back 8 m low (omega (arith, low)) in
    let b = number_back 100000 j few (omega (arith, few)) in
    rw (a, b) refl
words_back (Game k steps) is =
    let a = file_back k is.0 is.1 in
    let b = steps_back steps is.2 in
    rw (a, b) refl
words_back (Moves steps) is =
    let b = steps_back steps is in
    rw b refl

line_words : (ws : List Bytes) → AreWords ws → parts 32 (spaced ws) ≡ ws
line_words ws are = subst (λ (xs : List Bytes). parts 32 (spaced xs) ≡ xs) (sym are.cut)
    (words_spaced are.first are.others are.first_is are.others_are)

place_back : (p : Place) → IsPlace p → place_of (place_text p) ≡ Ok p
unfolding place_of
place_back p is =
    ap place_from (line_words (place_words p) (place_are_words p is)) ∙ words_back p is

one_added : (places : List Place) (p : Place)
    → names_earlier (length places) p ≡ true
    → length places < 100000
    → with_one places p ≡ Ok (places ++ p ∷ [])
one_added places p earlier few =
    let room : is_full places ≡ false = grind (arith, nat_tests, few) in
    rw (earlier, room) refl

line_back : (places : List Place) (p : Place)
    → IsPlace p
    → names_earlier (length places) p ≡ true
    → length places < 100000
    → after places (place_text p) ≡ Ok (places ++ p ∷ [])
unfolding after
line_back places p is earlier few =
    let here = place_back p is in
    rw here (one_added places p earlier few)

lines_back : (n : ℕ) (before places : List Place)
    → ArePlaces (length before) places
    → length before + length places ≤ 100000
    → reading after n before (map place_text places) ≡ Ok (before ++ places)
lines_back n before [] each few =
    is_over after n before ∙ ap (λ (ps : List Place). Ok ps) (sym (append-nil before))
lines_back n before (p ∷ ps) each few =
    let next = before ++ p ∷ [] in
    let longer : length before + 1 ≡ length next = sym (length_push before p) in
    let others : ArePlaces (length next) ps =
    subst (λ (k : ℕ). ArePlaces k ps) longer each.2 in
    let rest = lines_back (n + 1) next ps others (omega (arith, length_push before p, few)) in
    sym (reads_on after n before next (place_text p) (map place_text ps)
    (line_back before p each.0 each.1 (omega (arith, few))))
    ∙ (rest ∙ ap (λ (xs : List Place). Ok xs) (append_assoc before (p ∷ []) ps))

in_range : (count : ℕ) (places : List Place) → ArePlaces count places → AreInRange places
in_range count [] each = tt
in_range count (p ∷ ps) each = (each.0, in_range (count + 1) ps each.2)

pub reads_back : (places : List Place)
    → IsPlan places
    → length (printed_plan places) ≤ 16777216
    → plan_of (printed_plan places) ≡ Ok places
unfolding plan_of
reads_back places plan small =
    let short : nat_lt 16777216 (length (printed_plan places)) ≡ false =
    grind (arith, nat_tests, small) in
    let cut = plan_cut places (in_range 0 places plan.each) in
    let few = plan.few in
    rw (short, cut) (lines_back 2 [] places plan.each (omega (arith, few)))
