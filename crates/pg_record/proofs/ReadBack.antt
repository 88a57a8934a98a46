-- A printed record is read again as the same events.
use Rattle.std.proofs.Common.{◌≡◌, ◌∙◌, ℕ, ◌+◌, ◌<◌, ◌≤◌, Bool, true, false, cond, List, [], ◌∷◌}
use Rattle.std.proofs.Common.{◌++◌, length, map, refl, sym, ap, subst, append_assoc, arith, Result}
use Rattle.std.proofs.Common.{Ok, Err}
use Rattle.std.specs.Prelude.{nat_lt, is_ok, is_err, codes}
use Rattle.pg_record.proofs.Common.{decimal, AllByRecursion, ltb-true, nat_tests, append-nil}
use Rattle.pg_record.proofs.Common.{length_push, reading, words_spaced, reads_on, is_over, Game}
use Rattle.pg_record.proofs.Common.{Position, Illegal, Range, point_count, judged_move}
use Rattle.pg_record.proofs.Common.{point_count-le}
use Rattle.pg_text.proofs.Decimals.{number_decimal}
use Rattle.pg_record.specs.declared.event.Event.{Event}
use Rattle.pg_record.specs.declared.event.Event.TheVariants.{Play, Back}
use Rattle.pg_record.specs.Print.{printed_record}
use Rattle.pg_record.specs.Replay.{position_after, with_event, standing, MayFollow, AreAllowed}
use Rattle.pg_record.specs.Replay.{IsRecord}
use Rattle.pg_record.proofs.Standing.{standing-more}
use Rattle.pg_record.specs.RecordFile.{event_of, event_from, with_one, after, record_of}
use Rattle.pg_record.proofs.Adding.{move-added, back-added}
use Rattle.pg_record.proofs.PrintedLines.{IsNear, event_are_words, event_text, record_cut}
use Rattle.pg_record.proofs.PrintedLines.{record_length}

-- ---- the points of moves

in_game : (within : Bool) (r : Result Position Illegal)
    → is_ok (cond within r (Err Range)) ≡ true
    → within ≡ true
in_game true r e = refl
in_game false r e = absurd cc

near_event : (g : Game) (moves : List ℕ) (e : Event) → MayFollow g moves e → IsNear e
near_event g moves (Play v) may =
    let low = ltb-true v (point_count g) (in_game (nat_lt v (point_count g)) _ may) in
    omega (arith, low, point_count-le g)
near_event g moves Back may = tt

near_events : (g : Game) (moves : List ℕ) (events : List Event)
    → AreAllowed g moves events
    → AllByRecursion IsNear events
near_events g moves [] h = tt
near_events g moves (e ∷ es) h =
    (near_event g moves e h.0, near_events g (with_event moves e) es h.1)

-- ---- lines

event_back : (e : Event) → IsNear e → event_of (event_text e) ≡ Ok e
unfolding event_of
event_back (Play v) near =
    let words = event_are_words (Play v) near in
    let read = number_decimal v (omega (arith, near)) in
    ap event_from (words_spaced (codes "move") (decimal v ∷ []) words.0 words.1) ∙ rw read refl
event_back Back near = refl

not_err : (r : Result Position Illegal) → is_ok r ≡ true → is_err r ≡ false
not_err (Ok p) e = refl
not_err (Err why) e = absurd cc

one_added : (g : Game) (events : List Event) (e : Event)
    → MayFollow g (standing events) e
    → length events < 10000
    → with_one g events e ≡ Ok (events ++ e ∷ [])
one_added g events (Play v) may few =
    move-added g events v (not_err (judged_move g (position_after g (standing events)) v) may) few
one_added g events Back may few = back-added g events may few

line_back : (g : Game) (events : List Event) (e : Event)
    → MayFollow g (standing events) e
    → length events < 10000
    → IsNear e
    → after g events (event_text e) ≡ Ok (events ++ e ∷ [])
unfolding after
line_back g events e may few near =
    let here = event_back e near in
    rw here (one_added g events e may few)

lines_back : (g : Game) (n : ℕ) (before events : List Event)
    → AreAllowed g (standing before) events
    → length before + length events ≤ 10000
    → AllByRecursion IsNear events
    → reading (after g) n before (map event_text events) ≡ Ok (before ++ events)
lines_back g n before [] h few near =
    is_over (after g) n before ∙ ap (λ (es : List Event). Ok es) (sym (append-nil before))
lines_back g n before (e ∷ es) h few near =
    let next = before ++ e ∷ [] in
    let allowed : AreAllowed g (standing next) es =
    subst (λ (ms : List ℕ). AreAllowed g ms es) (sym (standing-more before e)) h.1 in
    let rest = lines_back g (n + 1) next es allowed (omega (arith, length_push before e)) near.1 in
    sym (reads_on (after g) n before next (event_text e) (map event_text es)
    (line_back g before e h.0 (omega arith) near.0))
    ∙ (rest ∙ ap (λ (xs : List Event). Ok xs) (append_assoc before (e ∷ []) es))

none-stands : standing [] ≡ []
unfolding standing
none-stands = refl

pub reads-back : (g : Game) (events : List Event)
    → IsRecord g events
    → record_of g (printed_record events) ≡ Ok events
unfolding record_of
reads-back g events h =
    let near = near_events g [] events h.allowed in
    let short : nat_lt 1048576 (length (printed_record events)) ≡ false =
    grind (arith, nat_tests, record_length events near, h.few) in
    let cut = record_cut events near in
    let allowed : AreAllowed g (standing []) events =
    subst (λ (ms : List ℕ). AreAllowed g ms events) (sym none-stands) h.allowed in
    rw (short, cut) (lines_back g 2 [] events allowed (omega (arith, h.few)) near)
