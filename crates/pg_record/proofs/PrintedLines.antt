-- The lines of a printed record, and how long they are.
use Rattle.std.proofs.Common.{◌≡◌, ◌∙◌, ◌+◌, ◌*◌, ◌<◌, ◌≤◌, lit<, List, [], ◌∷◌, ◌++◌, length, map}
use Rattle.std.proofs.Common.{refl, ap, append_assoc, arith}
use Rattle.std.specs.Prelude.{codes}
use Rattle.pg_record.proofs.Common.{decimal, flat_map, AllByRecursion, length-append, Bytes, lines}
use Rattle.pg_record.proofs.Common.{spaced, spelled, IsWord, decimal_is_word, spaced_quiet}
use Rattle.pg_record.proofs.Common.{quiet_lacks_feed}
use Rattle.std.proofs.lemmas.Fmt.{length-decimal-le}
use Rattle.pg_text.proofs.FirstLine.{lines_feed, no_lines}
use Rattle.pg_record.specs.declared.event.Event.{Event}
use Rattle.pg_record.specs.declared.event.Event.TheVariants.{Play, Back}
use Rattle.pg_record.specs.Print.{header, event_words, printed_record}

-- the point of a move is one of a game
abbrev pub IsNear : Event → Type 0
IsNear (Play v) = v < 1000
IsNear Back = Unit {0}

-- ---- words

move_word : IsWord (codes "move")
move_word =
    ((lit< tt, lit< tt), ((lit< tt, lit< tt), ((lit< tt, lit< tt), ((lit< tt, lit< tt), tt))))

back_word : IsWord (codes "back")
back_word =
    ((lit< tt, lit< tt), ((lit< tt, lit< tt), ((lit< tt, lit< tt), ((lit< tt, lit< tt), tt))))

pub event_are_words : (e : Event) → IsNear e → AllByRecursion IsWord (event_words e)
event_are_words (Play v) near = (move_word, (decimal_is_word v (omega (arith, near)), tt))
event_are_words Back near = (back_word, tt)

header_are_words : AllByRecursion IsWord header
header_are_words = (
  (
    (lit< tt, lit< tt),
    (
      (lit< tt, lit< tt),
      (
        (lit< tt, lit< tt),
        (
          (lit< tt, lit< tt),
          (
            (lit< tt, lit< tt),
            (
              (lit< tt, lit< tt),
              (
                (lit< tt, lit< tt),
                (
                  (lit< tt, lit< tt),
                  (
                    (lit< tt, lit< tt),
                    (
                      (lit< tt, lit< tt),
                      (
                        (lit< tt, lit< tt),
                        ((lit< tt, lit< tt), ((lit< tt, lit< tt), ((lit< tt, lit< tt), tt))),
                      ),
                    ),
                  ),
                ),
              ),
            ),
          ),
        ),
      ),
    ),
  ),
  (((lit< tt, lit< tt), tt), tt),
)

-- ---- lines

-- a line of words before a text
line_cut : (ws : List Bytes) (text : Bytes)
    → AllByRecursion IsWord ws
    → lines (spelled ws ++ text) ≡ spaced ws ∷ lines text
line_cut ws text h =
    let regrouped : spelled ws ++ text ≡ spaced ws ++ 10 ∷ text =
    append_assoc (spaced ws) (10 ∷ []) text in
    ap lines regrouped
    ∙ lines_feed (spaced ws) text (quiet_lacks_feed (spaced ws) (spaced_quiet ws h))

abbrev pub event_text : Event → Bytes
event_text e = spaced (event_words e)

events_cut : (events : List Event)
    → AllByRecursion IsNear events
    → lines (flat_map (λ e. spelled (event_words e)) events) ≡ map event_text events
events_cut [] h = no_lines [] refl
events_cut (e ∷ es) h =
    line_cut (event_words e) (flat_map (λ d. spelled (event_words d)) es) (event_are_words e h.0)
    ∙ ap (λ (ls : List Bytes). event_text e ∷ ls) (events_cut es h.1)

pub record_cut : (events : List Event)
    → AllByRecursion IsNear events
    → lines (printed_record events) ≡ codes "posgame-record 1" ∷ map event_text events
unfolding printed_record
record_cut events h =
    line_cut header (flat_map (λ e. spelled (event_words e)) events) header_are_words
    ∙ ap (λ (ls : List Bytes). codes "posgame-record 1" ∷ ls) (events_cut events h)

-- ---- lengths

event_length : (e : Event) → IsNear e → length (spelled (event_words e)) ≤ 9
event_length (Play v) near =
    let digits : length (decimal v) ≤ 3 =
    length-decimal-le 3 v (lit< tt) (omega (arith, near)) (omega (arith, near)) in
    let tail : length (decimal v ++ []) ≡ length (decimal v) + 0 = length-append (decimal v) [] in
    let whole : length ((codes "move" ++ 32 ∷ (decimal v ++ [])) ++ 10 ∷ [])
    ≡ length (codes "move" ++ 32 ∷ (decimal v ++ [])) + 1 =
    length-append (codes "move" ++ 32 ∷ (decimal v ++ [])) (10 ∷ []) in
    omega (arith, digits, tail, whole)
event_length Back near = omega arith

events_length : (events : List Event)
    → AllByRecursion IsNear events
    → length (flat_map (λ e. spelled (event_words e)) events) ≤ 9 * length events
events_length [] h = omega arith
events_length (e ∷ es) h = omega (
  arith,
  length-append (spelled (event_words e)) (flat_map (λ d. spelled (event_words d)) es),
  event_length e h.0,
  events_length es h.1,
)

pub record_length : (events : List Event)
    → AllByRecursion IsNear events
    → length (printed_record events) ≤ 17 + 9 * length events
unfolding printed_record
record_length events h = omega (
  arith,
  length-append (spelled header) (flat_map (λ e. spelled (event_words e)) events),
  events_length events h,
)
