-- The places that are read make a layout.
use Rattle.std.proofs.Common.{◌≡◌, ◌≢◌, ◌∙◌, ◌⊎◌, ℕ, zero, suc, ◌+◌, ◌<◌, ◌≤◌, Bool, true, false}
use Rattle.std.proofs.Common.{cond, ◌||◌, inl, inr, List, [], ◌∷◌, ◌++◌, length, get_or, Option}
use Rattle.std.proofs.Common.{Some, None, Result, Ok, Err, refl, sym, ap, ap₂, subst, arith}
use Rattle.std.specs.Prelude.{◌==◌, nat_le, nat_lt, IfOk}
use Rattle.pg_text.specs.Faults.{IsReadAs}
use Rattle.pg_text.specs.declared.error.FileError.{FileError}
use Rattle.pg_layout.proofs.Common.{AllByRecursion, Bytes, abs_diff, cases_eq, eqb-true}
use Rattle.pg_layout.proofs.Common.{get_or_append_left, get_or_default, get_or_push, go_on, least}
use Rattle.pg_layout.proofs.Common.{length_push, lines, ltb-false, or_parts, reading, unless}
use Rattle.pg_layout.proofs.Common.{words}
use Rattle.pg_layout.specs.LayoutFile.{after, all_or, and_spot, begins_comment, ended, is_crowded}
use Rattle.pg_layout.specs.LayoutFile.{is_outside, is_placed, layout_of, said}
use Rattle.pg_layout.specs.LayoutFile.{said_by, said_spot, spot_of, spots_below, with_line}
use Rattle.pg_layout.specs.LayoutFile.{with_one, with_said}
use Rattle.pg_layout.specs.Layouts.{IsLayout, IsSpot, corner, is_near}
use Rattle.pg_layout.specs.Views.{number_of}
use Rattle.pg_layout.specs.declared.fault.Fault.{Fault}
use Rattle.pg_layout.specs.declared.fault.Fault.TheVariants as faults
use Rattle.pg_layout.specs.declared.line.Placed.{Placed}
use Rattle.pg_layout.specs.declared.line.Said.{Said}
use Rattle.pg_layout.specs.declared.spot.Spot.{Spot}

-- ---- results

abbrev value_or : {A F : Type 0} → A → Result A F → A
value_or a (Ok b) = b
value_or a (Err fault) = a

ok_is : {A F : Type 0} (a b : A) → ◌≡◌ {A = Result A F} (Ok a) (Ok b) → a ≡ b
ok_is a b e = ap (λ (r : Result _ _). value_or a r) e

-- an if-chain, by the way that the test went
chosen : {A : Type 0} (b : Bool) (x y z : A)
    → cond b x y ≡ z
    → ((b ≡ true) × (x ≡ z)) ⊎ ((b ≡ false) × (y ≡ z))
chosen true x y z e = inl (refl, e)
chosen false x y z e = inr (refl, e)

-- ---- places that are near

pub near_swapped : (a b : Spot) → is_near a b ≡ is_near b a
near_swapped a b =
    let across : abs_diff a.column b.column ≡ abs_diff b.column a.column = omega arith in
    let down : abs_diff a.line b.line ≡ abs_diff b.line a.line = omega arith in
    rw (across, down) refl

-- ---- what the lines have placed

-- no point of the list is too near a later one
abbrev AreClear : List Placed → Type 0
AreClear [] = Unit {0}
AreClear (q ∷ qs) =
    AllByRecursion (λ (r : Placed). is_near q.spot r.spot ≡ false) qs × AreClear qs

record AreSound (placed : List Placed) : Type 0 where
  pub each : AllByRecursion (λ (q : Placed). IsSpot q.spot) placed
  pub clear : AreClear placed

all_more : (P : Placed → Type 0) (qs : List Placed) (r : Placed)
    → AllByRecursion P qs
    → P r
    → AllByRecursion P (qs ++ r ∷ [])
all_more P [] r all p = (p, tt)
all_more P (q ∷ qs) r all p = (all.0, all_more P qs r all.1 p)

clear_more : (qs : List Placed) (r : Placed)
    → AreClear qs
    → is_crowded qs r.spot ≡ false
    → AreClear (qs ++ r ∷ [])
clear_more [] r clear e = (tt, tt)
clear_more (q ∷ qs) r clear e =
    let parts = or_parts (is_near q.spot r.spot) (is_crowded qs r.spot) e in (
      all_more (λ (s : Placed). is_near q.spot s.spot ≡ false) qs r clear.0 parts.0,
      clear_more qs r clear.1 parts.1,
    )

-- four tests of which none applies
none_of : (a b c d : Bool) (one two three four : Fault) (x y : List Placed)
    → unless (least ((one, a) ∷ (two, b) ∷ (three, c) ∷ (four, d) ∷ [])) x ≡ Ok y
    → (c ≡ false) × (d ≡ false) × (x ≡ y)
none_of true b c d one two three four x y e = absurd cc
none_of false true c d one two three four x y e = absurd cc
none_of false false true d one two three four x y e = absurd cc
none_of false false false true one two three four x y e = absurd cc
none_of false false false false one two three four x y e = (refl, refl, ok_is x y e)

one_more : (points : ℕ) (placed next : List Placed) (s : Said)
    → AreSound placed
    → with_one points placed s ≡ Ok next
    → AreSound next
one_more points placed next s sound e =
    let t = none_of (nat_le points s.point) (is_placed placed s.point) (is_outside s)
    (is_crowded placed (said_spot s)) faults.Point faults.Twice faults.Range faults.Near
    (placed ++ record { point = s.point; spot = said_spot s } ∷ []) next e in
    let inside = or_parts (nat_lt 999 s.column) (nat_lt 999 s.line) t.0 in
    let new : Placed = record { point = s.point; spot = said_spot s } in
    subst (λ (qs : List Placed). AreSound qs) t.2 (record {
      each = all_more (λ (q : Placed). IsSpot q.spot) placed new sound.each
          (ltb-false 999 s.column inside.0, ltb-false 999 s.line inside.1);
      clear = clear_more placed new sound.clear t.1;
    })

said_more : (points : ℕ) (placed next : List Placed) (o : Option Said)
    → AreSound placed
    → with_said points placed o ≡ Ok next
    → AreSound next
said_more points placed next None sound e = absurd cc
said_more points placed next (Some s) sound e = one_more points placed next s sound e

line_more : (points : ℕ) (placed next : List Placed) (line : Bytes)
    → AreSound placed
    → after points placed line ≡ Ok next
    → AreSound next
unfolding after
line_more points placed next line sound e =
    elim (chosen (begins_comment line || length (words line) == 0) (Ok placed)
    (with_line points placed (words line)) (Ok next) e) [
      | inl h ↦ subst (λ (qs : List Placed). AreSound qs) (ok_is placed next h.1) sound
      | inr h ↦ said_more points placed next (said_by (words line)) sound h.1
    ]

-- the lines behind one that was read
behind : (points n : ℕ) (r : Result (List Placed) Fault) (others : List Bytes)
    (found : List Placed)
    → go_on n r (λ next. reading (after points) (n + 1) next others) ≡ Ok found
    → (next : List Placed)
    × (r ≡ Ok next)
    × (reading (after points) (n + 1) next others ≡ Ok found)
behind points n (Ok next) others found e = (next, refl, e)
behind points n (Err f) others found e = absurd cc

lines_more : (points n : ℕ) (placed found : List Placed) (ls : List Bytes)
    → AreSound placed
    → reading (after points) n placed ls ≡ Ok found
    → AreSound found
unfolding reading
lines_more points n placed found [] sound e =
    subst (λ (qs : List Placed). AreSound qs) (ok_is placed found e) sound
lines_more points n placed found (line ∷ others) sound e =
    let t = behind points n (after points placed line) others found e in
    lines_more points (n + 1) t.0 found others (line_more points placed t.0 line sound t.1) t.2

-- ---- the places of points

-- a point with its place is in the list
abbrev IsAmong : Placed → List Placed → Type 0
IsAmong a [] = ⊥
IsAmong a (q ∷ qs) = (a ≡ q) ⊎ IsAmong a qs

all_among : (P : Placed → Type 0) (a : Placed) (qs : List Placed)
    → AllByRecursion P qs
    → IsAmong a qs
    → P a
all_among P a [] all among = absurd among
all_among P a (q ∷ qs) all (inl is) = subst P (sym is) all.0
all_among P a (q ∷ qs) all (inr among) = all_among P a qs all.1 among

-- two points of the list aren't too near
two_among : (a b : Placed) (qs : List Placed)
    → AreClear qs
    → IsAmong a qs
    → IsAmong b qs
    → a.point ≢ b.point
    → is_near a.spot b.spot ≡ false
two_among a b [] clear one two other = absurd one
two_among a b (q ∷ qs) clear (inl is) (inl too) other =
    absurd (other (ap (λ (p : Placed). p.point) (is ∙ sym too)))
two_among a b (q ∷ qs) clear (inl is) (inr two) other =
    subst (λ (p : Placed). is_near p.spot b.spot ≡ false) (sym is)
    (all_among (λ (r : Placed). is_near q.spot r.spot ≡ false) b qs clear.0 two)
two_among a b (q ∷ qs) clear (inr one) (inl too) other = near_swapped a.spot b.spot
    ∙ subst (λ (p : Placed). is_near p.spot a.spot ≡ false) (sym too)
    (all_among (λ (r : Placed). is_near q.spot r.spot ≡ false) a qs clear.0 one)
two_among a b (q ∷ qs) clear (inr one) (inr two) other = two_among a b qs clear.1 one two other

-- what has the place of a point
record IsFound (placed : List Placed) (point : ℕ) (spot : Spot) : Type 0 where
  pub from : Placed
  pub among : IsAmong from placed
  pub point_is : from.point ≡ point
  pub spot_is : from.spot ≡ spot

some_is : (a b : Spot) → ◌≡◌ {A = Option Spot} (Some a) (Some b) → a ≡ b
some_is a b e = cc

found : (placed : List Placed) (point : ℕ) (spot : Spot)
    → spot_of placed point ≡ Some spot
    → IsFound placed point spot
found [] point spot e = absurd cc
found (q ∷ qs) point spot e =
    elim (chosen (q.point == point) (Some q.spot) (spot_of qs point) (Some spot) e) [
      | inl h ↦ record {
        from = q;
        among = inl refl;
        point_is = eqb-true q.point point h.0;
        spot_is = some_is q.spot spot h.1;
      }
      | inr h ↦
          let rec = found qs point spot h.1 in
          record {
            from = rec.from;
            among = inr rec.among;
            point_is = rec.point_is;
            spot_is = rec.spot_is;
          }
    ]

-- the list has the places of the points below a number
pub record Lists (placed : List Placed) (n : ℕ) (spots : List Spot) : Type 0 where
  pub count : length spots ≡ n
  pub each : (u : ℕ) → u < n → spot_of placed u ≡ Some (get_or spots u corner)

last_listed : (placed : List Placed) (n : ℕ) (front : List Spot) (spot : Spot)
    → Lists placed n front
    → spot_of placed n ≡ Some spot
    → Lists placed (suc n) (front ++ spot ∷ [])
last_listed placed n front spot lists e = record {
  count = omega (arith, lists.count, length_push front spot);
  each = λ u lt. elim (cases_eq u n) [
    | inl is ↦
        let last : get_or (front ++ spot ∷ []) u corner ≡ spot =
        get_or_push front spot corner u (lists.count ∙ sym is) in
        subst (λ (v : ℕ). spot_of placed v ≡ Some spot) (sym is) e
        ∙ ap (λ (s : Spot). Some s) (sym last)
    | inr other ↦
        let low : u < n = omega (arith, lt, other) in
        let same : get_or (front ++ spot ∷ []) u corner ≡ get_or front u corner =
        get_or_append_left front (spot ∷ []) corner u (omega (arith, low, lists.count)) in
        lists.each u low ∙ ap (λ (s : Spot). Some s) (sym same)
  ];
}

spots_is : (a b : List Spot) → ◌≡◌ {A = Option (List Spot)} (Some a) (Some b) → a ≡ b
spots_is a b e = cc

and_listed : (placed : List Placed) (n : ℕ) (front : Option (List Spot)) (o : Option Spot)
    (spots : List Spot)
    → ((found : List Spot) → front ≡ Some found → Lists placed n found)
    → spot_of placed n ≡ o
    → and_spot front o ≡ Some spots
    → Lists placed (suc n) spots
and_listed placed n (Some front) (Some spot) spots before last e =
    subst (λ (ss : List Spot). Lists placed (suc n) ss) (spots_is (front ++ spot ∷ []) spots e)
    (last_listed placed n front spot (before front refl) last)
and_listed placed n (Some front) None spots before last e = absurd cc
and_listed placed n None o spots before last e = absurd cc

pub listed : (placed : List Placed) (n : ℕ) (spots : List Spot)
    → spots_below placed n ≡ Some spots
    → Lists placed n spots
unfolding spots_below
listed placed zero spots e = subst (λ (ss : List Spot). Lists placed 0 ss) (spots_is [] spots e)
    (record { count = refl; each = λ u lt. absurd (omega (arith, lt)) })
listed placed (suc n) spots e = and_listed placed n (spots_below placed n) (spot_of placed n) spots
    (λ front is. listed placed n front is) refl e

-- ---- one place more, and one missing

found_here : (placed : List Placed) (n : ℕ) (front : List Spot) (spot : Spot)
    → spots_below placed n ≡ Some front
    → spot_of placed n ≡ Some spot
    → spots_below placed (suc n) ≡ Some (front ++ spot ∷ [])
unfolding spots_below
found_here placed n front spot before last = rw (before, last) refl

pub found_next : (placed : List Placed) (n : ℕ) (front : List Spot) (spot : Spot)
    → spots_below placed n ≡ Some front
    → spot_of placed n ≡ Some spot
    → spots_below placed (n + 1) ≡ Some (front ++ spot ∷ [])
found_next placed n front spot before last =
    let same : suc n ≡ n + 1 = omega arith in
    subst (λ (m : ℕ). spots_below placed m ≡ Some (front ++ spot ∷ [])) same
    (found_here placed n front spot before last)

missing_next : (placed : List Placed) (n : ℕ)
    → spots_below placed n ≡ None
    → spots_below placed (suc n) ≡ None
unfolding spots_below
missing_next placed n e = rw e refl

missing_here : (placed : List Placed) (n : ℕ) (front : List Spot)
    → spots_below placed n ≡ Some front
    → spot_of placed n ≡ None
    → spots_below placed (suc n) ≡ None
unfolding spots_below
missing_here placed n front before last = rw (before, last) refl

missing_later : (placed : List Placed) (n m : ℕ)
    → n ≤ m
    → spots_below placed n ≡ None
    → spots_below placed m ≡ None
missing_later placed n zero le e =
    let same : n ≡ 0 = omega (arith, le) in
    subst (λ (k : ℕ). spots_below placed k ≡ None) same e
missing_later placed n (suc m) le e = elim (cases_eq n (suc m)) [
  | inl is ↦ subst (λ (k : ℕ). spots_below placed k ≡ None) is e
  | inr other ↦
      let below : n ≤ m = omega (arith, le, other) in
      missing_next placed m (missing_later placed n m below e)
]

pub missing : (placed : List Placed) (n points : ℕ) (front : List Spot)
    → n < points
    → spots_below placed n ≡ Some front
    → spot_of placed n ≡ None
    → spots_below placed points ≡ None
missing placed n points front lt before last = missing_later placed (suc n) points
    (omega (arith, lt)) (missing_here placed n front before last)

-- ---- whole files

layout_from : (points : ℕ) (placed : List Placed) (spots : List Spot)
    → AreSound placed
    → Lists placed points spots
    → IsLayout points spots
layout_from points placed spots sound lists = record {
  count = lists.count;
  within = λ k d lt.
      let low : k < points = omega (arith, lt, lists.count) in
      let at = found placed k (get_or spots k corner) (lists.each k low) in
      let same : get_or spots k d ≡ get_or spots k corner = get_or_default spots k d corner lt in
      subst IsSpot (sym same) (subst IsSpot at.spot_is
      (all_among (λ (q : Placed). IsSpot q.spot) at.from placed sound.each at.among));
  apart = λ u v one two other.
      let a = found placed u (get_or spots u corner) (lists.each u one) in
      let b = found placed v (get_or spots v corner) (lists.each v two) in
      ap₂ (λ (s t : Spot). is_near s t) (sym a.spot_is) (sym b.spot_is)
      ∙ two_among a.from b.from placed sound.clear a.among b.among
      (λ same. other (sym a.point_is ∙ same ∙ b.point_is));
}

ended_layout : (points : ℕ) (placed : List Placed) (o : Option (List Spot)) (spots : List Spot)
    → AreSound placed
    → spots_below placed points ≡ o
    → all_or o ≡ Ok spots
    → IsLayout points spots
ended_layout points placed None spots sound is e = absurd cc
ended_layout points placed (Some found) spots sound is e =
    layout_from points placed spots sound
    (listed placed points spots (is ∙ ap (λ (ss : List Spot). Some ss) (ok_is found spots e)))

said_layout : (points : ℕ) (r : Result (List Placed) (Fault × ℕ)) (spots : List Spot)
    → ((placed : List Placed) → r ≡ Ok placed → AreSound placed)
    → said points r ≡ Ok spots
    → IsLayout points spots
said_layout points (Err fault) spots sound e = absurd cc
said_layout points (Ok placed) spots sound e =
    ended_layout points placed (spots_below placed points) spots (sound placed refl) refl e

no_points : AreSound []
no_points = record { each = tt; clear = tt }

pub read_is_layout : (points : ℕ) (text : Bytes) (spots : List Spot)
    → layout_of points text ≡ Ok spots
    → IsLayout points spots
unfolding layout_of
read_is_layout points text spots e =
    elim (chosen (nat_lt 1048576 (length text)) (Err (faults.Size, 0))
    (said points (reading (after points) 1 [] (lines text))) (Ok spots) e) [
      | inl h ↦ absurd (cc h.1)
      | inr h ↦ said_layout points (reading (after points) 1 [] (lines text)) spots
          (λ placed is. lines_more points 1 [] placed (lines text) no_points is) h.1
    ]

pub told_layout : (points : ℕ) (text : Bytes) (placed : List Placed)
    (r : Result (List Spot) FileError)
    → reading (after points) 1 [] (lines text) ≡ Ok placed
    → IsReadAs number_of (λ (s : List Spot). s) r (ended points placed)
    → IfOk r (IsLayout points)
told_layout points text placed (Ok spots) went is =
    ended_layout points placed (spots_below placed points) spots
    (lines_more points 1 [] placed (lines text) no_points went) refl is
told_layout points text placed (Err error) went is = tt
