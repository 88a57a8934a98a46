-- The positions that are read are those of a plan.
use Rattle.std.proofs.Common.{◌≡◌, ℕ, ◌+◌, ◌<◌, Bool, true, false, cond, inl, inr}
use Rattle.std.proofs.Common.{List, [], ◌∷◌, ◌++◌, length, refl, sym, ap, subst, arith}
use Rattle.std.proofs.Common.{Option, Some, None, Result, Ok, Err}
use Rattle.std.specs.Prelude.{◌&&◌, nat_lt, not, codes}
use Rattle.pg_plan.proofs.Common.{AllByRecursion, Bytes, and_parts, and_then, bytes_eq, each_of}
use Rattle.pg_plan.proofs.Common.{go_on, least, length_push, lines, ltb-true, nat_tests, number}
use Rattle.pg_plan.proofs.Common.{parts, reading, two_parts, unless}
use Rattle.pg_plan.proofs.WordFaults.{chosen}
use Rattle.pg_plan.specs.Places.{ArePlaces, IsPlace, IsPlan, IsStep, names_earlier}
use Rattle.pg_plan.specs.PlanFile.{after, below, both_of, decided_from, file_of, game_from}
use Rattle.pg_plan.specs.PlanFile.{image_from, is_full, moves_from, place_from, place_of, plan_of}
use Rattle.pg_plan.specs.PlanFile.{said, step_from, step_of, with_one}
use Rattle.pg_plan.specs.declared.fault.Fault.{Fault}
use Rattle.pg_plan.specs.declared.fault.Fault.TheVariants as faults
use Rattle.pg_plan.specs.declared.place.Place.{Place}
use Rattle.pg_plan.specs.declared.place.Place.TheVariants.{Game, Image, Moves}
use Rattle.pg_plan.specs.declared.place.Step.{Step}
use Rattle.pg_text.specs.Faults.{onto}

-- ---- results

-- a fact on what was read
abbrev Reads : {A : Type 0} → (A → Type 0) → Result A Fault → Type 0
Reads P (Ok a) = P a
Reads P (Err fault) = Unit {0}

abbrev value_or : {A F : Type 0} → A → Result A F → A
value_or a (Ok b) = b
value_or a (Err fault) = a

ok_is : {A F : Type 0} (a b : A) → ◌≡◌ {A = Result A F} (Ok a) (Ok b) → a ≡ b
ok_is a b e = ap (λ (r : Result _ _). value_or a r) e

both_reads : {A B C : Type 0} (P : A → Type 0) (Q : B → Type 0) (R : C → Type 0)
    (make : A → B → C) (a : Result A Fault) (b : Result B Fault)
    → ((x : A) (y : B) → P x → Q y → R (make x y))
    → Reads P a
    → Reads Q b
    → Reads R (both_of make a b)
both_reads P Q R make (Err f) b join one two = tt
both_reads P Q R make (Ok a) (Err f) join one two = tt
both_reads P Q R make (Ok a) (Ok b) join one two = join a b one two

-- ---- numbers

choice_reads : (b : Bool) (n : ℕ) (P : ℕ → Type 0)
    → (b ≡ true → P n)
    → Reads P (cond b (Ok n) (Err faults.Number))
choice_reads true n P h = h refl
choice_reads false n P h = tt

below_reads : (limit : ℕ) (n : Option ℕ) → Reads (λ k. k < limit) (below limit n)
below_reads limit None = tt
below_reads limit (Some n) =
    choice_reads (nat_lt n limit) n (λ k. k < limit) (λ e. ltb-true n limit e)

file_reads : (n : Option ℕ) → Reads (λ k. (0 < k) × (k < 100000)) (file_of n)
file_reads None = tt
file_reads (Some n) =
    choice_reads (nat_lt 0 n && nat_lt n 100000) n (λ k. (0 < k) × (k < 100000))
    (λ e. let p = and_parts (nat_lt 0 n) (nat_lt n 100000) e in
    (ltb-true 0 n p.0, ltb-true n 100000 p.1))

step_reads : (p : Option (Bytes × Bytes)) → Reads IsStep (step_from p)
step_reads None = tt
step_reads (Some p) = both_reads (λ k. k < 1024) (λ k. k < 100000) IsStep
    (λ v j. record { point = v; place = j }) (below 1024 (number p.0)) (below 100000 (number p.1))
    (λ v j low few. record { point = low; place = few }) (below_reads 1024 (number p.0))
    (below_reads 100000 (number p.1))

onto_reads : (r : Result Step Fault) (others : Result (List Step) Fault)
    → Reads IsStep r
    → Reads (AllByRecursion IsStep) others
    → Reads (AllByRecursion IsStep) (onto r others)
onto_reads (Err f) others one two = tt
onto_reads (Ok s) (Err f) one two = tt
onto_reads (Ok s) (Ok ss) one two = (one, two)

steps_read : (ws : List Bytes) → Reads (AllByRecursion IsStep) (each_of step_of ws)
unfolding step_of
steps_read [] = tt
steps_read (w ∷ ws) =
    onto_reads (step_of w) (each_of step_of ws) (step_reads (two_parts 58 w)) (steps_read ws)

-- ---- lines

decided_reads : (ws : List Bytes) → Reads IsPlace (decided_from ws)
decided_reads [] = tt
decided_reads (w ∷ ws) = tt

image_reads : (ws : List Bytes) → Reads IsPlace (image_from ws)
image_reads [] = tt
image_reads (m ∷ []) = tt
image_reads (m ∷ j ∷ []) = both_reads (λ k. k < 8) (λ k. k < 100000) IsPlace
    (λ n k. Image n k) (below 8 (number m)) (below 100000 (number j))
    (λ n k low few. (low, few)) (below_reads 8 (number m)) (below_reads 100000 (number j))
image_reads (m ∷ j ∷ w ∷ ws) = tt

game_reads : (ws : List Bytes) → Reads IsPlace (game_from ws)
game_reads [] = tt
game_reads (k ∷ ws) = both_reads (λ n. (0 < n) × (n < 100000)) (AllByRecursion IsStep) IsPlace
    (λ n steps. Game n steps) (file_of (number k)) (each_of step_of ws)
    (λ n steps range each. (range.0, range.1, each)) (file_reads (number k)) (steps_read ws)

moves_then : (r : Result (List Step) Fault)
    → Reads (AllByRecursion IsStep) r
    → Reads IsPlace (and_then r (λ steps. Ok (Moves steps)))
moves_then (Ok steps) h = h
moves_then (Err f) h = tt

moves_read : (ws : List Bytes) → Reads IsPlace (moves_from ws)
moves_read ws = moves_then (each_of step_of ws) (steps_read ws)

arm : (b : Bool) (x y : Result Place Fault)
    → Reads IsPlace x
    → Reads IsPlace y
    → Reads IsPlace (cond b x y)
arm true x y one two = one
arm false x y one two = two

words_read : (ws : List Bytes) → Reads IsPlace (place_from ws)
words_read [] = tt
words_read (name ∷ ws) =
    arm (bytes_eq name (codes "decided")) (decided_from ws) _ (decided_reads ws)
    (arm (bytes_eq name (codes "image")) (image_from ws) _ (image_reads ws)
    (arm (bytes_eq name (codes "game")) (game_from ws) _ (game_reads ws)
    (arm (bytes_eq name (codes "moves")) (moves_from ws) (Err faults.Form) (moves_read ws) tt)))

-- ---- files

-- two tests of which neither applies
neither : (a b : Bool) (one two : Fault) (x y : List Place)
    → unless (least ((one, a) ∷ (two, b) ∷ [])) x ≡ Ok y
    → (a ≡ false) × (b ≡ false) × (x ≡ y)
neither true b one two x y e = absurd cc
neither false true one two x y e = absurd cc
neither false false one two x y e = (refl, refl, ok_is x y e)

is_early : (b : Bool) → not b ≡ false → b ≡ true
is_early true e = refl
is_early false e = absurd cc

has_room : (places : List Place) → is_full places ≡ false → length places < 100000
has_room places e = grind (arith, nat_tests, e)

-- one more behind others
places_push : (count : ℕ) (places : List Place) (p : Place)
    → ArePlaces count places
    → IsPlace p
    → names_earlier (count + length places) p ≡ true
    → ArePlaces count (places ++ p ∷ [])
places_push count [] p each is earlier =
    let same : count + 0 ≡ count = omega arith in
    (is, subst (λ (n : ℕ). names_earlier n p ≡ true) same earlier, tt)
places_push count (q ∷ qs) p each is earlier =
    let same : count + length (q ∷ qs) ≡ (count + 1) + length qs = omega arith in (
      each.0,
      each.1,
      places_push (count + 1) qs p each.2 is
          (subst (λ (n : ℕ). names_earlier n p ≡ true) same earlier),
    )

one_more : (places next : List Place) (p : Place)
    → IsPlan places
    → IsPlace p
    → with_one places p ≡ Ok next
    → IsPlan next
one_more places next p plan is e =
    let t = neither (not (names_earlier (length places) p)) (is_full places) faults.Order
    faults.Limit (places ++ p ∷ []) next e in
    let room = has_room places t.1 in
    let zero_more : 0 + length places ≡ length places = omega arith in
    let earlier : names_earlier (0 + length places) p ≡ true =
    subst (λ (n : ℕ). names_earlier n p ≡ true) (sym zero_more)
    (is_early (names_earlier (length places) p) t.0) in
    subst (λ (ps : List Place). IsPlan ps) t.2 (record {
      each = places_push 0 places p plan.each is earlier;
      few = omega (arith, room, length_push places p);
    })

result_more : (places next : List Place) (r : Result Place Fault)
    → IsPlan places
    → Reads IsPlace r
    → and_then r (with_one places) ≡ Ok next
    → IsPlan next
result_more places next (Ok p) plan is e = one_more places next p plan is e
result_more places next (Err f) plan is e = absurd cc

line_more : (places next : List Place) (line : Bytes)
    → IsPlan places
    → after places line ≡ Ok next
    → IsPlan next
unfolding after place_of
line_more places next line plan e =
    result_more places next (place_from (parts 32 line)) plan (words_read (parts 32 line)) e

-- the lines behind one that was read
behind : (n : ℕ) (r : Result (List Place) Fault) (others : List Bytes) (found : List Place)
    → go_on n r (λ next. reading after (n + 1) next others) ≡ Ok found
    → (next : List Place) × (r ≡ Ok next) × (reading after (n + 1) next others ≡ Ok found)
behind n (Ok next) others found e = (next, refl, e)
behind n (Err f) others found e = absurd cc

lines_more : (n : ℕ) (places found : List Place) (ls : List Bytes)
    → IsPlan places
    → reading after n places ls ≡ Ok found
    → IsPlan found
unfolding reading
lines_more n places found [] plan e =
    subst (λ (ps : List Place). IsPlan ps) (ok_is places found e) plan
lines_more n places found (line ∷ others) plan e =
    let t = behind n (after places line) others found e in
    lines_more (n + 1) t.0 found others (line_more places t.0 line plan t.1) t.2

no_places : IsPlan []
no_places = record { each = tt; few = omega arith }

said_plan : (ls : List Bytes) (found : List Place) → said ls ≡ Ok found → IsPlan found
said_plan [] found e = absurd cc
said_plan (first ∷ others) found e =
    elim (chosen (bytes_eq first (codes "posgame-plan 1")) (reading after 2 [] others) (Err (
      faults.Header,
      1,
    )) (Ok found) e) [
      | inl h ↦ lines_more 2 [] found others no_places h.1
      | inr h ↦ absurd (cc h.1)
    ]

pub read_is_plan : (text : Bytes) (found : List Place) → plan_of text ≡ Ok found → IsPlan found
unfolding plan_of
read_is_plan text found e = elim (chosen (nat_lt 16777216 (length text)) (Err (
  faults.Size,
  0,
)) (said (lines text)) (Ok found) e) [
  | inl h ↦ absurd (cc h.1)
  | inr h ↦ said_plan (lines text) found h.1
]
