-- What follows from the rules of logs.
use Rattle.std.proofs.Common.{◌≡◌, ℕ, ◌+◌, ◌<◌, nat_eq, nat_lt, if◌then◌else◌, Bool, true, false}
use Rattle.std.proofs.Common.{List, [], ◌∷◌, length, Result, Ok, Err, is_ok, refl, sym, ◌∙◌, ap}
use Rattle.std.proofs.Common.{subst, arith}
use Rattle.pg_sessions.proofs.Common.{ltb-true, Entry, Said, Heard, Skipped, Ended, judged_move}
use Rattle.pg_sessions.proofs.Common.{Game, Illegal, Position, IsRecord, replay, Event, Play, Back}
use Rattle.pg_sessions.proofs.Common.{MAX_EVENTS, record-more, MAX_REFUSALS, NothingToTakeBack}
use Rattle.pg_sessions.proofs.Common.{OUT_OF_REPLIES}
use Rattle.pg_sessions.specs.Course.{LeadsBy}
use Rattle.pg_sessions.specs.Request.{request_of}
use Rattle.pg_sessions.specs.SessionLog.{Stage, Listens, Stands, Refuses, Closes, Over, Steps}
use Rattle.pg_sessions.specs.SessionLog.{IsLogTo, after_answer, after_event, after_refusal}
use Rattle.pg_sessions.specs.SessionLog.{after_request, events_at, move_or_refusal, standing_count}
use Rattle.pg_sessions.specs.declared.request.Request.{Request}
use Rattle.pg_sessions.specs.declared.request.Request.TheVariants as request

-- ---- a log leads to one stage

next_same : (g : Game) (s m n : Stage) (entry : Entry)
    → Steps g s entry m
    → Steps g s entry n
    → m ≡ n
next_same g (Listens events refusals) m n (Said text) a b = absurd a
next_same g (Listens events refusals) m n (Heard line) a b = a ∙ sym b
next_same g (Listens events refusals) m n (Skipped line) a b = a ∙ sym b
next_same g (Listens events refusals) m n Ended a b = a ∙ sym b
next_same g (Stands events refusals) m n (Said text) a b = a.1 ∙ sym b.1
next_same g (Stands events refusals) m n (Heard line) a b = absurd a
next_same g (Stands events refusals) m n (Skipped line) a b = absurd a
next_same g (Stands events refusals) m n Ended a b = absurd a
next_same g (Refuses events refusals why) m n (Said text) a b = a.1 ∙ sym b.1
next_same g (Refuses events refusals why) m n (Heard line) a b = absurd a
next_same g (Refuses events refusals why) m n (Skipped line) a b = absurd a
next_same g (Refuses events refusals why) m n Ended a b = absurd a
next_same g (Closes events) m n (Said text) a b = a.1 ∙ sym b.1
next_same g (Closes events) m n (Heard line) a b = absurd a
next_same g (Closes events) m n (Skipped line) a b = absurd a
next_same g (Closes events) m n Ended a b = absurd a
next_same g (Over events status) m n entry a b = absurd a

pub leads_same : (g : Game) (s t u : Stage) (entries : List Entry)
    → LeadsBy (Steps g) s entries t
    → LeadsBy (Steps g) s entries u
    → t ≡ u
leads_same g s t u [] a b = a ∙ sym b
leads_same g s t u (entry ∷ entries) (m, step, rest) (n, other, others) = leads_same g n t u entries
    (subst (λ (k : Stage). LeadsBy (Steps g) k entries t) (next_same g s m n entry step other) rest)
    others

-- ---- its events are a record

-- the events are a record, with room for a further one where a line is heard or refused
abbrev pub IsSound : Game → Stage → Type 0
IsSound g (Listens events refusals) = IsRecord g events × (length events < MAX_EVENTS)
IsSound g (Stands events refusals) = IsRecord g events
IsSound g (Refuses events refusals why) = IsRecord g events × (length events < MAX_EVENTS)
IsSound g (Closes events) = IsRecord g events
IsSound g (Over events status) = IsRecord g events

sound_record : (g : Game) (s : Stage) → IsSound g s → IsRecord g (events_at s)
sound_record g (Listens events refusals) sound = sound.0
sound_record g (Stands events refusals) sound = sound
sound_record g (Refuses events refusals why) sound = sound.0
sound_record g (Closes events) sound = sound
sound_record g (Over events status) sound = sound

module _ (g : Game) (events : List Event) (refusals : ℕ) (allowed : IsRecord g events) where
  move_sound : (v : ℕ)
      → length events < MAX_EVENTS
      → (r : Result Position Illegal) → judged_move g (replay g events).position v ≡ r
      → IsSound g (after_answer events refusals (move_or_refusal v r))
  move_sound v room (Ok p) is =
      record-more g events (Play v) allowed room (ap (λ (r : Result Position Illegal). is_ok r) is)
  move_sound v room (Err why) is = (allowed, room)

  back_sound : length events < MAX_EVENTS
      → (some : Bool) → nat_lt 0 (standing_count g events) ≡ some
      → IsSound g (after_answer events refusals (if some then Ok Back else Err NothingToTakeBack))
  back_sound room true is =
      record-more g events Back allowed room (ltb-true 0 (standing_count g events) is)
  back_sound room false is = (allowed, room)

  request_sound : length events < MAX_EVENTS
      → (asked : Request) → IsSound g (after_request g events refusals asked)
  request_sound room request.End = allowed
  request_sound room request.Back = back_sound room (nat_lt 0 (standing_count g events)) refl
  request_sound room (request.Move v) =
      move_sound v room (judged_move g (replay g events).position v) refl
  request_sound room request.Unclear = (allowed, room)

  event_sound : IsSound g (after_event events refusals)
  event_sound = go (nat_lt (length events) MAX_EVENTS) refl where
    go : (room : Bool)
        → nat_lt (length events) MAX_EVENTS ≡ room
        → IsSound g (if room then Listens events refusals else Closes events)
    go true is = (allowed, ltb-true (length events) MAX_EVENTS is)
    go false is = allowed

  refusal_sound : length events < MAX_EVENTS → IsSound g (after_refusal events refusals)
  refusal_sound room = go (nat_eq (refusals + 1) MAX_REFUSALS) where
    go : (last : Bool)
        → IsSound g (if last then Over events OUT_OF_REPLIES else Listens events (refusals + 1))
    go true = allowed
    go false = (allowed, room)

step_sound : (g : Game) (s m : Stage) (entry : Entry)
    → IsSound g s
    → Steps g s entry m
    → IsSound g m
step_sound g (Listens events refusals) m (Said text) sound step = absurd step
step_sound g (Listens events refusals) m (Heard line) sound step =
    subst (λ (k : Stage). IsSound g k) (sym step)
    (request_sound g events refusals sound.0 sound.1 (request_of line))
step_sound g (Listens events refusals) m (Skipped line) sound step =
    subst (λ (k : Stage). IsSound g k) (sym step) sound
step_sound g (Listens events refusals) m Ended sound step =
    subst (λ (k : Stage). IsSound g k) (sym step) sound.0
step_sound g (Stands events refusals) m (Said text) sound step =
    subst (λ (k : Stage). IsSound g k) (sym step.1) (event_sound g events refusals sound)
step_sound g (Stands events refusals) m (Heard line) sound step = absurd step
step_sound g (Stands events refusals) m (Skipped line) sound step = absurd step
step_sound g (Stands events refusals) m Ended sound step = absurd step
step_sound g (Refuses events refusals why) m (Said text) sound step = subst
    (λ (k : Stage). IsSound g k) (sym step.1) (refusal_sound g events refusals sound.0 sound.1)
step_sound g (Refuses events refusals why) m (Heard line) sound step = absurd step
step_sound g (Refuses events refusals why) m (Skipped line) sound step = absurd step
step_sound g (Refuses events refusals why) m Ended sound step = absurd step
step_sound g (Closes events) m (Said text) sound step =
    subst (λ (k : Stage). IsSound g k) (sym step.1) sound
step_sound g (Closes events) m (Heard line) sound step = absurd step
step_sound g (Closes events) m (Skipped line) sound step = absurd step
step_sound g (Closes events) m Ended sound step = absurd step
step_sound g (Over events status) m entry sound step = absurd step

leads_sound : (g : Game) (s t : Stage) (entries : List Entry)
    → IsSound g s
    → LeadsBy (Steps g) s entries t
    → IsSound g t
leads_sound g s t [] sound same = subst (λ (k : Stage). IsSound g k) (sym same) sound
leads_sound g s t (entry ∷ entries) sound (m, step, rest) =
    leads_sound g m t entries (step_sound g s m entry sound step) rest

begun_sound : (g : Game) → IsSound g (Listens [] 0)
begun_sound g = (record { allowed = tt; few = omega arith }, omega arith)

pub log_records : (g : Game) (entries : List Entry) (stage : Stage)
    → IsLogTo g entries stage
    → IsRecord g (events_at stage)
log_records g entries stage log =
    sound_record g stage (leads_sound g (Listens [] 0) stage entries (begun_sound g) log)
