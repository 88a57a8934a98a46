-- What follows from the rules of logs.
use Rattle.std.proofs.Common.{◌≡◌, ℕ, ◌+◌, ◌<◌, ◌≤◌, nat_lt, if◌then◌else◌, Bool, true, false}
use Rattle.std.proofs.Common.{List, [], ◌∷◌, ◌++◌, length, Result, Ok, Err}
use Rattle.std.proofs.Common.{is_ok, refl, sym, ◌∙◌, ap, subst, inl, inr, arith}
use Rattle.pg_playing.proofs.Common.{Back, Ended, Entry, Event, Game, Heard, Illegal, IsRecord}
use Rattle.pg_playing.proofs.Common.{LeadsBy, Look, MAX_EVENTS, Play, Position, Reply, Said}
use Rattle.pg_playing.proofs.Common.{Skipped}
use Rattle.pg_playing.proofs.Common.{judged_move, length_push, ltb-true, read_reply, record-more}
use Rattle.pg_playing.proofs.Common.{replay, trimmed, is_over}
use Rattle.pg_table.specs.declared.reply.Reply.TheVariants as reply
use Rattle.pg_messages.specs.declared.message.ReplyFault.TheVariants.{NoNumber, NoPoint}
use Rattle.pg_playing.specs.Dialogue.{Follows, after_answer, after_shown, note_of_lines}
use Rattle.pg_playing.specs.TableLog.{Closes, IsLogTo, Leaves, Listens, Notes, Shows, Stalls}
use Rattle.pg_playing.specs.TableLog.{Steps, TableStage, after_claim, after_undo, events_at, place}
use Rattle.pg_playing.specs.TableLog.{table_rules}
use Rattle.pg_playing.specs.declared.dialogue.TheConstants.{MAX_HEARD}
use Rattle.pg_playing.specs.declared.note.Note.TheVariants as notes
use Rattle.pg_playing.proofs.Stages.{beyond_claim}

-- ---- a log leads to one stage

-- after a line
abbrev after_reply : Game → List Event → ℕ → Reply → TableStage
after_reply g events heard (reply.Point v) =
    after_claim events heard v (judged_move g (place g events) v)
after_reply g events heard reply.Undo = after_undo g events heard
after_reply g events heard (reply.Lines through) = Notes events heard (note_of_lines g through)
after_reply g events heard reply.Help = Notes events heard notes.Help
after_reply g events heard reply.Quit = Closes events
after_reply g events heard reply.NoCell = Notes events heard (notes.Refused NoPoint)
after_reply g events heard reply.Unclear = Notes events heard (notes.Refused NoNumber)

follows_reply : (look : Look) (g : Game) (events : List Event) (heard : ℕ) (asked : Reply)
    (next : TableStage)
    → Follows (table_rules look g) events heard asked next
    → next ≡ after_reply g events heard asked
follows_reply look g events heard (reply.Point v) next (inl is) = is
follows_reply look g events heard (reply.Point v) next (inr (great, is)) =
    is ∙ beyond_claim g events heard v great
follows_reply look g events heard reply.Undo next is = is
follows_reply look g events heard (reply.Lines through) next is = is
follows_reply look g events heard reply.Help next is = is
follows_reply look g events heard reply.Quit next is = is
follows_reply look g events heard reply.NoCell next is = is
follows_reply look g events heard reply.Unclear next is = is

next_same : (look : Look) (g : Game) (s m n : TableStage) (entry : Entry)
    → Steps look g s entry m
    → Steps look g s entry n
    → m ≡ n
next_same look g (Shows events heard) m n (Said text) a b = a.1 ∙ sym b.1
next_same look g (Shows events heard) m n (Heard line) a b = absurd a
next_same look g (Shows events heard) m n (Skipped line) a b = absurd a
next_same look g (Shows events heard) m n Ended a b = absurd a
next_same look g (Listens events heard) m n (Said text) a b = absurd a
next_same look g (Listens events heard) m n (Heard line) a b =
    let asked = read_reply g.field (trimmed line) in
    follows_reply look g events (heard + 1) asked m a
    ∙ sym (follows_reply look g events (heard + 1) asked n b)
next_same look g (Listens events heard) m n (Skipped line) a b = a ∙ sym b
next_same look g (Listens events heard) m n Ended a b = a ∙ sym b
next_same look g (Notes events heard note) m n (Said text) a b = a.1 ∙ sym b.1
next_same look g (Notes events heard note) m n (Heard line) a b = absurd a
next_same look g (Notes events heard note) m n (Skipped line) a b = absurd a
next_same look g (Notes events heard note) m n Ended a b = absurd a
next_same look g (Leaves events) m n (Said text) a b = a.1 ∙ sym b.1
next_same look g (Leaves events) m n (Heard line) a b = absurd a
next_same look g (Leaves events) m n (Skipped line) a b = absurd a
next_same look g (Leaves events) m n Ended a b = absurd a
next_same look g (Closes events) m n (Said text) a b = absurd a
next_same look g (Closes events) m n (Heard line) a b = absurd a
next_same look g (Closes events) m n (Skipped line) a b = absurd a
next_same look g (Closes events) m n Ended a b = absurd a
next_same look g (Stalls events) m n (Said text) a b = absurd a
next_same look g (Stalls events) m n (Heard line) a b = absurd a
next_same look g (Stalls events) m n (Skipped line) a b = absurd a
next_same look g (Stalls events) m n Ended a b = absurd a

pub leads_same : (look : Look) (g : Game) (s t u : TableStage) (entries : List Entry)
    → LeadsBy (Steps look g) s entries t
    → LeadsBy (Steps look g) s entries u
    → t ≡ u
leads_same look g s t u [] a b = a ∙ sym b
leads_same look g s t u (entry ∷ entries) (m, step, rest) (n, other, others) =
    leads_same look g n t u entries
    (subst (λ (k : TableStage). LeadsBy (Steps look g) k entries t)
    (next_same look g s m n entry step other) rest) others

-- ---- its events are a record

-- the events are a record, and no more than the lines
pub record IsWithin (g : Game) (events : List Event) (heard : ℕ) : Type 0 where
  pub allowed : IsRecord g events
  pub few : length events ≤ heard

abbrev pub IsSound : Game → TableStage → Type 0
IsSound g (Shows events heard) = IsWithin g events heard × (heard ≤ MAX_HEARD)
IsSound g (Listens events heard) = IsWithin g events heard × (heard < MAX_HEARD)
IsSound g (Notes events heard note) = IsWithin g events heard × (heard ≤ MAX_HEARD)
IsSound g (Leaves events) = IsRecord g events
IsSound g (Closes events) = IsRecord g events
IsSound g (Stalls events) = IsRecord g events

sound_record : (g : Game) (s : TableStage) → IsSound g s → IsRecord g (events_at s)
sound_record g (Shows events heard) sound = sound.0.allowed
sound_record g (Listens events heard) sound = sound.0.allowed
sound_record g (Notes events heard note) sound = sound.0.allowed
sound_record g (Leaves events) sound = sound
sound_record g (Closes events) sound = sound
sound_record g (Stalls events) sound = sound

-- a further line
more_lines : (g : Game) (events : List Event) (heard : ℕ)
    → IsWithin g events heard
    → IsWithin g events (heard + 1)
more_lines g events heard within =
    record { allowed = within.allowed; few = omega (arith, within.few) }

module _ (g : Game) (events : List Event) (heard : ℕ) (within : IsWithin g events heard)
    (room : heard < MAX_HEARD) where
  -- an event more
  more_events : (event : Event)
      → IsRecord g (events ++ event ∷ [])
      → IsWithin g (events ++ event ∷ []) (heard + 1)
  more_events event allowed =
      record { allowed = allowed; few = omega (arith, within.few, length_push events event) }

  fits : length events < MAX_EVENTS
  fits = omega (arith, within.few, room)

  after : heard + 1 ≤ MAX_HEARD
  after = omega (arith, room)

  claim_sound : (v : ℕ) (r : Result Position Illegal)
      → judged_move g (place g events) v ≡ r
      → IsSound g (after_claim events (heard + 1) v r)
  claim_sound v (Ok p) is = (
    more_events (Play v) (record-more g events (Play v) within.allowed fits
        (ap (λ (r : Result Position Illegal). is_ok r) is)),
    after,
  )
  claim_sound v (Err why) is = (more_lines g events heard within, after)

  undo_sound : (some : Bool)
      → nat_lt 0 (length (replay g events).moves) ≡ some
      → IsSound g (after_undo g events (heard + 1))
  undo_sound true is = rw is (
    more_events Back (record-more g events Back within.allowed fits
        (ltb-true 0 (length (replay g events).moves) is)),
    after,
  )
  undo_sound false is = rw is (more_lines g events heard within, after)

  reply_sound : (asked : Reply) → IsSound g (after_reply g events (heard + 1) asked)
  reply_sound (reply.Point v) = claim_sound v (judged_move g (place g events) v) refl
  reply_sound reply.Undo = undo_sound (nat_lt 0 (length (replay g events).moves)) refl
  reply_sound (reply.Lines through) = (more_lines g events heard within, after)
  reply_sound reply.Help = (more_lines g events heard within, after)
  reply_sound reply.Quit = within.allowed
  reply_sound reply.NoCell = (more_lines g events heard within, after)
  reply_sound reply.Unclear = (more_lines g events heard within, after)

answer_sound : (g : Game) (events : List Event) (heard : ℕ)
    → IsWithin g events heard
    → IsSound g (after_answer events heard)
answer_sound g events heard within = go (nat_lt heard MAX_HEARD) refl where
  go : (room : Bool)
      → nat_lt heard MAX_HEARD ≡ room
      → IsSound g (if room then Listens events heard else Closes events)
  go true is = (within, ltb-true heard MAX_HEARD is)
  go false is = within.allowed

shown_sound : (g : Game) (events : List Event) (heard : ℕ) (over : Bool)
    → IsWithin g events heard
    → IsSound g (after_shown over events heard)
shown_sound g events heard true within = within.allowed
shown_sound g events heard false within = answer_sound g events heard within

step_sound : (look : Look) (g : Game) (s m : TableStage) (entry : Entry)
    → IsSound g s
    → Steps look g s entry m
    → IsSound g m
step_sound look g (Shows events heard) m (Said text) sound step =
    subst (λ (k : TableStage). IsSound g k) (sym step.1)
    (shown_sound g events heard (is_over g (place g events)) sound.0)
step_sound look g (Shows events heard) m (Heard line) sound step = absurd step
step_sound look g (Shows events heard) m (Skipped line) sound step = absurd step
step_sound look g (Shows events heard) m Ended sound step = absurd step
step_sound look g (Listens events heard) m (Said text) sound step = absurd step
step_sound look g (Listens events heard) m (Heard line) sound step =
    let asked = read_reply g.field (trimmed line) in
    subst (λ (k : TableStage). IsSound g k)
    (sym (follows_reply look g events (heard + 1) asked m step))
    (reply_sound g events heard sound.0 sound.1 asked)
step_sound look g (Listens events heard) m (Skipped line) sound step =
    subst (λ (k : TableStage). IsSound g k) (sym step)
    (more_lines g events heard sound.0, after g events heard sound.0 sound.1)
step_sound look g (Listens events heard) m Ended sound step =
    subst (λ (k : TableStage). IsSound g k) (sym step) sound.0.allowed
step_sound look g (Notes events heard note) m (Said text) sound step =
    subst (λ (k : TableStage). IsSound g k) (sym step.1) (answer_sound g events heard sound.0)
step_sound look g (Notes events heard note) m (Heard line) sound step = absurd step
step_sound look g (Notes events heard note) m (Skipped line) sound step = absurd step
step_sound look g (Notes events heard note) m Ended sound step = absurd step
step_sound look g (Leaves events) m (Said text) sound step =
    subst (λ (k : TableStage). IsSound g k) (sym step.1) sound
step_sound look g (Leaves events) m (Heard line) sound step = absurd step
step_sound look g (Leaves events) m (Skipped line) sound step = absurd step
step_sound look g (Leaves events) m Ended sound step = absurd step
step_sound look g (Closes events) m (Said text) sound step = absurd step
step_sound look g (Closes events) m (Heard line) sound step = absurd step
step_sound look g (Closes events) m (Skipped line) sound step = absurd step
step_sound look g (Closes events) m Ended sound step = absurd step
step_sound look g (Stalls events) m (Said text) sound step = absurd step
step_sound look g (Stalls events) m (Heard line) sound step = absurd step
step_sound look g (Stalls events) m (Skipped line) sound step = absurd step
step_sound look g (Stalls events) m Ended sound step = absurd step

leads_sound : (look : Look) (g : Game) (s t : TableStage) (entries : List Entry)
    → IsSound g s
    → LeadsBy (Steps look g) s entries t
    → IsSound g t
leads_sound look g s t [] sound same = subst (λ (k : TableStage). IsSound g k) (sym same) sound
leads_sound look g s t (entry ∷ entries) sound (m, step, rest) =
    leads_sound look g m t entries (step_sound look g s m entry sound step) rest

begun_sound : (g : Game) → IsSound g (Shows [] 0)
begun_sound g = (
  record { allowed = record { allowed = tt; few = omega arith }; few = omega arith },
  omega arith,
)

pub log_records : (look : Look) (g : Game) (entries : List Entry) (stage : TableStage)
    → IsLogTo look g entries stage
    → IsRecord g (events_at stage)
log_records look g entries stage log =
    sound_record g stage (leads_sound look g (Shows [] 0) stage entries (begun_sound g) log)
