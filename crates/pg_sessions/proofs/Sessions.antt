-- What the code does line by line, put together.
use Rattle.std.proofs.Common.{◌≡◌, ◌≢◌, ℕ, ◌+◌, ◌<◌, ◌≤◌, nat_eq, nat_lt, true, false, List, []}
use Rattle.std.proofs.Common.{◌∷◌, ◌++◌, length, Result, Ok, Err, refl, sym, ◌∙◌, ap, subst, arith}
use Rattle.pg_sessions.proofs.Common.{nat_tests, length_push, ConsoleTold, Stop, point_count}
use Rattle.pg_sessions.proofs.Common.{judged_move, Game, Illegal, Position, replay, Recorded}
use Rattle.pg_sessions.proofs.Common.{refusal_of, Event, Play, Back, MAX_EVENTS, MAX_REFUSALS}
use Rattle.pg_messages.specs.declared.message.ReplyFault.TheVariants as fault
use Rattle.pg_messages.specs.declared.statuses.TheConstants.{OUT_OF_REPLIES}
use Rattle.pg_sessions.specs.Course.{Course, BreaksOff, Goes}
use Rattle.pg_sessions.specs.Turns.{turned}
use Rattle.pg_sessions.specs.declared.dialogue.Turn.{Turn}
use Rattle.pg_sessions.proofs.Courses.{breaks_then, course_then}
use Rattle.pg_sessions.specs.SessionLog.{Stage, Steps, Listens, Stands, Refuses, Closes, Over}
use Rattle.pg_sessions.specs.SessionLog.{IsOpen, after_answer, after_event, after_refusal}
use Rattle.pg_sessions.specs.SessionLog.{after_request, move_or_refusal, reason_of, standing_count}
use Rattle.pg_sessions.specs.declared.request.Request.TheVariants as request

-- ---- where a request leads

-- a move that was made
pub moved_stage : (g : Game) (events : List Event) (refusals v : ℕ)
    → Ok tt ≡ refusal_of (judged_move g (replay g events).position v)
    → after_request g events refusals (request.Move v) ≡ Stands (events ++ Play v ∷ []) refusals
moved_stage g events refusals v e = go (judged_move g (replay g events).position v) e where
  go : (r : Result Position Illegal)
      → Ok tt ≡ refusal_of r
      → after_answer events refusals (move_or_refusal v r) ≡ Stands (events ++ Play v ∷ []) refusals
  go (Ok p) e = refl
  go (Err why) e = absurd cc

-- a move that was refused
pub unmoved_stage : (g : Game) (events : List Event) (refusals v : ℕ) (why : Illegal)
    → Err why ≡ refusal_of (judged_move g (replay g events).position v)
    → after_request g events refusals (request.Move v) ≡ Refuses events refusals (reason_of why)
unmoved_stage g events refusals v why e = go (judged_move g (replay g events).position v) e where
  go : (r : Result Position Illegal)
      → Err why ≡ refusal_of r
      → after_answer events refusals (move_or_refusal v r) ≡ Refuses events refusals (reason_of why)
  go (Ok p) e = absurd cc
  go (Err other) e =
      let same : why ≡ other = cc in
      ap (λ (w : Illegal). Refuses events refusals (reason_of w)) (sym same)

-- a number that is no point
pub beyond_stage : (g : Game) (events : List Event) (refusals v : ℕ)
    → point_count g ≤ v
    → after_request g events refusals (request.Move v) ≡ Refuses events refusals fault.NoPoint
beyond_stage g events refusals v great =
    let test : nat_lt v (point_count g) ≡ false = grind (arith, nat_tests, great) in
    rw test refl

-- where a move stands, and where none does
pub back_stage : (g : Game) (events : List Event) (refusals : ℕ)
    → nat_lt 0 (standing_count g events) ≡ true
    → after_request g events refusals request.Back ≡ Stands (events ++ Back ∷ []) refusals
back_stage g events refusals some = rw some refl

pub unbacked_stage : (g : Game) (events : List Event) (refusals : ℕ)
    → nat_lt 0 (standing_count g events) ≡ false
    → after_request g events refusals request.Back ≡ Refuses events refusals fault.NothingToTakeBack
unbacked_stage g events refusals none = rw none refl

-- ---- where a line leads

pub event_goes_on : (events : List Event) (refusals : ℕ)
    → length events < MAX_EVENTS
    → after_event events refusals ≡ Listens events refusals
event_goes_on events refusals room =
    let test : nat_lt (length events) MAX_EVENTS ≡ true = grind (arith, nat_tests, room) in
    rw test refl

pub refusal_goes_on : (events : List Event) (refusals : ℕ)
    → refusals + 1 ≢ MAX_REFUSALS
    → after_refusal events refusals ≡ Listens events (refusals + 1)
refusal_goes_on events refusals other =
    let test : nat_eq (refusals + 1) MAX_REFUSALS ≡ false = grind (arith, nat_tests, other) in
    rw test refl

pub refusal_ends : (events : List Event) (refusals : ℕ)
    → refusals + 1 ≡ MAX_REFUSALS
    → after_refusal events refusals ≡ Over events OUT_OF_REPLIES
refusal_ends events refusals last =
    let test : nat_eq (refusals + 1) MAX_REFUSALS ≡ true = grind (arith, nat_tests, last) in
    rw test refl

-- the session with an event more
pub one_more : (old new : Recorded) (event : Event)
    → new.events ≡ old.events ++ event ∷ []
    → length new.events ≡ length old.events + 1
one_more old new event more = ap length more ∙ length_push old.events event

-- ---- work from another stage that is the same

module _ {T : Type 0} (a b : ConsoleTold) (r : Result T Stop) (to : T → Stage) where
  pub goes_from : (g h : Game) (s t : Stage)
      → h ≡ g
      → t ≡ s
      → Goes (Steps h) IsOpen a b s r to
      → Goes (Steps g) IsOpen a b t r to
  goes_from g h s t same at goes = subst (λ (k : Game). Goes (Steps k) IsOpen a b t r to) same
      (subst (λ (k : Stage). Goes (Steps h) IsOpen a b k r to) (sym at) goes)

-- ---- a line after others

module _ (g h : Game) (a b c : ConsoleTold) (events : List Event) (refusals : ℕ) (same : h ≡ g)
    (room : length events < MAX_EVENTS)
    (so_far : Course (Steps g) a b (Listens [] 0) (after_event events refusals)) where
  listening : Course (Steps g) a b (Listens [] 0) (Listens events refusals)
  listening = subst (λ (k : Stage). Course (Steps g) a b (Listens [] 0) k)
      (event_goes_on events refusals room) so_far

  -- a line, and where it leads
  pub turn_leads : (left : List Event) (turn : Turn) (to : Stage)
      → turned left refusals turn ≡ to
      → Course (Steps h) b c (Listens events refusals) (turned left refusals turn)
      → Course (Steps g) a c (Listens [] 0) to
  turn_leads left turn to is course =
      let here = subst (λ (k : Game).
      Course (Steps k) b c (Listens events refusals) (turned left refusals turn)) same course in
      course_then (Steps g) a b c (Listens [] 0) (Listens events refusals) to listening
      (subst (λ (k : Stage). Course (Steps g) b c (Listens events refusals) k) is here)

  -- a line at which a call has failed
  pub turn_breaks : BreaksOff (Steps h) IsOpen b c (Listens events refusals)
      → BreaksOff (Steps g) IsOpen a c (Listens [] 0)
  turn_breaks off =
      breaks_then (Steps g) IsOpen a b c (Listens [] 0) (Listens events refusals) listening
      (subst (λ (k : Game). BreaksOff (Steps k) IsOpen b c (Listens events refusals)) same off)
