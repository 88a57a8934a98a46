-- The events that are read are those of a session.
use Rattle.std.proofs.Common.{◌≡◌, ℕ, ◌+◌, ◌<◌, Bool, true, false, inl, inr, List, [], ◌∷◌, ◌++◌}
use Rattle.std.proofs.Common.{length, refl, ap, subst, Result, Ok, Err, arith}
use Rattle.std.specs.Prelude.{◌==◌, nat_lt, is_err, is_ok, codes}
use Rattle.pg_record.proofs.Common.{bytes_eq, nat_tests, and_then, go_on, least, reading, unless}
use Rattle.pg_record.proofs.Common.{Bytes, lines, Game, Position, Illegal, judged_move}
use Rattle.pg_record.specs.declared.event.Event.{Event}
use Rattle.pg_record.specs.declared.event.Event.TheVariants.{Play, Back}
use Rattle.pg_record.specs.Replay.{position_after, standing, IsRecord}
use Rattle.pg_record.proofs.Standing.{record-more}
use Rattle.pg_record.specs.RecordFile.{event_of, is_full, with_one, after, said, record_of}
use Rattle.pg_record.specs.declared.fault.Fault.{Fault}
use Rattle.pg_record.specs.declared.fault.Fault.TheVariants as faults
use Rattle.pg_record.proofs.FirstFault.{chosen}

abbrev value_or : {A F : Type 0} → A → Result A F → A
value_or a (Ok b) = b
value_or a (Err fault) = a

ok_is : {A F : Type 0} (a b : A) → ◌≡◌ {A = Result A F} (Ok a) (Ok b) → a ≡ b
ok_is a b e = ap (λ (r : Result _ _). value_or a r) e

-- two tests of which neither applies
neither : (a b : Bool) (one two : Fault) (x y : List Event)
    → unless (least ((one, a) ∷ (two, b) ∷ [])) x ≡ Ok y
    → (a ≡ false) × (b ≡ false) × (x ≡ y)
neither true b one two x y e = absurd cc
neither false true one two x y e = absurd cc
neither false false one two x y e = (refl, refl, ok_is x y e)

not_refused : (r : Result Position Illegal) → is_err r ≡ false → is_ok r ≡ true
not_refused (Ok p) e = refl
not_refused (Err why) e = absurd cc

has_room : (events : List Event) → is_full events ≡ false → length events < 10000
has_room events e = grind (arith, nat_tests, e)

one_stands : (moves : List ℕ) → (length moves == 0) ≡ false → 0 < length moves
one_stands moves e = grind (arith, nat_tests, e)

one-allowed : (g : Game) (events next : List Event) (e : Event)
    → IsRecord g events
    → with_one g events e ≡ Ok next
    → IsRecord g next
one-allowed g events next (Play v) h is =
    let refused = is_err (judged_move g (position_after g (standing events)) v) in
    let t =
    neither refused (is_full events) faults.Move faults.Limit (events ++ Play v ∷ []) next is in
    subst (λ (es : List Event). IsRecord g es) t.2
    (record-more g events (Play v) h (has_room events t.1)
    (not_refused (judged_move g (position_after g (standing events)) v) t.0))
one-allowed g events next Back h is =
    let t = neither (length (standing events) == 0) (is_full events) faults.Nothing faults.Limit
    (events ++ Back ∷ []) next is in
    subst (λ (es : List Event). IsRecord g es) t.2
    (record-more g events Back h (has_room events t.1) (one_stands (standing events) t.0))

event-allowed : (g : Game) (events next : List Event) (r : Result Event Fault)
    → IsRecord g events
    → and_then r (with_one g events) ≡ Ok next
    → IsRecord g next
event-allowed g events next (Ok e) h is = one-allowed g events next e h is
event-allowed g events next (Err f) h is = absurd cc

line-allowed : (g : Game) (events next : List Event) (line : Bytes)
    → IsRecord g events
    → after g events line ≡ Ok next
    → IsRecord g next
unfolding after
line-allowed g events next line h is = event-allowed g events next (event_of line) h is

-- the lines behind one that was read
behind : (g : Game) (n : ℕ) (r : Result (List Event) Fault) (others : List Bytes)
    (found : List Event)
    → go_on n r (λ next. reading (after g) (n + 1) next others) ≡ Ok found
    → (next : List Event) × (r ≡ Ok next) × (reading (after g) (n + 1) next others ≡ Ok found)
behind g n (Ok next) others found e = (next, refl, e)
behind g n (Err f) others found e = absurd cc

lines-allowed : (g : Game) (n : ℕ) (events found : List Event) (ls : List Bytes)
    → IsRecord g events
    → reading (after g) n events ls ≡ Ok found
    → IsRecord g found
unfolding reading
lines-allowed g n events found [] h e =
    subst (λ (es : List Event). IsRecord g es) (ok_is events found e) h
lines-allowed g n events found (line ∷ others) h e =
    let t = behind g n (after g events line) others found e in
    lines-allowed g (n + 1) t.0 found others (line-allowed g events t.0 line h t.1) t.2

no-events : (g : Game) → IsRecord g []
no-events g = record { allowed = tt; few = omega arith }

said-allowed : (g : Game) (ls : List Bytes) (found : List Event)
    → said g ls ≡ Ok found
    → IsRecord g found
said-allowed g [] found e = absurd cc
said-allowed g (first ∷ others) found e =
    elim (chosen (bytes_eq first (codes "posgame-record 1")) (reading (after g) 2 [] others) (Err (
      faults.Header,
      1,
    )) (Ok found) e) [
      | inl h ↦ lines-allowed g 2 [] found others (no-events g) h.1
      | inr h ↦ absurd (cc h.1)
    ]

pub read-allowed : (g : Game) (text : Bytes) (found : List Event)
    → record_of g text ≡ Ok found
    → IsRecord g found
unfolding record_of
read-allowed g text found e = elim (chosen (nat_lt 1048576 (length text)) (Err (
  faults.Size,
  0,
)) (said g (lines text)) (Ok found) e) [
  | inl h ↦ absurd (cc h.1)
  | inr h ↦ said-allowed g (lines text) found h.1
]
