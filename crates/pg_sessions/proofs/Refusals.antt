-- How many lines a log refuses.
use Rattle.std.proofs.Common.{◌≡◌, ◌≢◌, ℕ, ◌+◌, ◌<◌, nat_eq, nat_lt, if◌then◌else◌, Bool, true}
use Rattle.std.proofs.Common.{false, List, [], ◌∷◌, length, Result, Ok, Err, refl, sym, ap, subst}
use Rattle.std.proofs.Common.{inl, inr, arith}
use Rattle.pg_sessions.proofs.Common.{nat_tests, count_by, Bytes, Entry, Said, Heard, Skipped}
use Rattle.pg_sessions.proofs.Common.{Ended, judged_move, Game, replay, Event, MAX_EVENTS}
use Rattle.pg_sessions.proofs.Common.{MAX_REFUSALS, recorded_text, reply_text, standing_text}
use Rattle.pg_sessions.proofs.Common.{ReplyFault, NoNumber, NoPoint, Taken, NothingToTakeBack}
use Rattle.pg_sessions.proofs.Common.{OUT_OF_REPLIES}
use Rattle.std.proofs.lemmas.List.Sums.{sum_by-cons}
use Rattle.pg_messages.specs.declared.message.ReplyFault.TheVariants.{Over as GameOver}
use Rattle.pg_sessions.specs.Course.{LeadsBy}
use Rattle.pg_sessions.specs.Request.{request_of}
use Rattle.pg_sessions.specs.SessionLog.{Stage, Listens, Stands, Refuses, Closes, Over, Steps}
use Rattle.pg_sessions.specs.SessionLog.{IsWholeLog, EndsWith, after_answer, after_event}
use Rattle.pg_sessions.specs.SessionLog.{after_refusal, after_request, back_or_refusal, is_refusal}
use Rattle.pg_sessions.specs.SessionLog.{move_or_refusal, standing_count}
use Rattle.pg_sessions.specs.declared.request.Request.{Request}
use Rattle.pg_sessions.specs.declared.request.Request.TheVariants as request

-- how many lines an entry refuses
abbrev refused_in : Entry → ℕ
refused_in entry = if is_refusal entry then 1 else 0

-- ---- texts

tells_none : (text : Bytes) (moves : ℕ) → text ≡ standing_text moves → refused_in (Said text) ≡ 0
tells_none text moves is = ap (λ (t : Bytes). refused_in (Said t)) is

closes_none : (text : Bytes) (moves : ℕ) → text ≡ recorded_text moves → refused_in (Said text) ≡ 0
closes_none text moves is = ap (λ (t : Bytes). refused_in (Said t)) is

one_refused : (why : ReplyFault) → refused_in (Said (reply_text why)) ≡ 1
one_refused NoNumber = refl
one_refused NoPoint = refl
one_refused Taken = refl
one_refused GameOver = refl
one_refused NothingToTakeBack = refl

refuses_one : (text : Bytes) (why : ReplyFault) → text ≡ reply_text why → refused_in (Said text) ≡ 1
refuses_one text why is = rw is (one_refused why)

-- ---- stages

-- so many lines were refused before the stage
abbrev pub HasRefused : Stage → ℕ → Type 0
HasRefused (Listens events refusals) n = (n ≡ refusals) × (refusals < MAX_REFUSALS)
HasRefused (Stands events refusals) n = (n ≡ refusals) × (refusals < MAX_REFUSALS)
HasRefused (Refuses events refusals why) n = (n ≡ refusals) × (refusals < MAX_REFUSALS)
HasRefused (Closes events) n = n < MAX_REFUSALS
HasRefused (Over events status) n = EndsWith n status

module _ (events : List Event) (refusals n : ℕ) (few : refusals < MAX_REFUSALS) where
  answer_refused : n ≡ refusals
      → (r : Result Event ReplyFault) → HasRefused (after_answer events refusals r) n
  answer_refused same (Ok event) = (same, few)
  answer_refused same (Err why) = (same, few)

  request_refused : (g : Game)
      → n ≡ refusals
      → (asked : Request) → HasRefused (after_request g events refusals asked) n
  request_refused g same request.End = omega (arith, same, few)
  request_refused g same request.Back =
      answer_refused same (back_or_refusal (standing_count g events))
  request_refused g same (request.Move v) =
      answer_refused same (move_or_refusal v (judged_move g (replay g events).position v))
  request_refused g same request.Unclear = (same, few)

  event_refused : n ≡ refusals → HasRefused (after_event events refusals) n
  event_refused same = go (nat_lt (length events) MAX_EVENTS) where
    go : (room : Bool) → HasRefused (if room then Listens events refusals else Closes events) n
    go true = (same, few)
    go false = omega (arith, same, few)

  refusal_refused : n ≡ refusals + 1 → HasRefused (after_refusal events refusals) n
  refusal_refused more = go (nat_eq (refusals + 1) MAX_REFUSALS) refl where
    go : (last : Bool)
        → nat_eq (refusals + 1) MAX_REFUSALS ≡ last
        → HasRefused (if last then Over events OUT_OF_REPLIES else Listens events (refusals + 1)) n
    go true is =
        let all : refusals + 1 ≡ MAX_REFUSALS = grind (arith, nat_tests, is) in
        inr (refl, omega (arith, more, all))
    go false is =
        let other : refusals + 1 ≢ MAX_REFUSALS = grind (arith, nat_tests, is) in
        (more, omega (arith, few, other))

step_refused : (g : Game) (s m : Stage) (entry : Entry) (n total : ℕ)
    → total ≡ n + refused_in entry
    → HasRefused s n
    → Steps g s entry m
    → HasRefused m total
step_refused g (Listens events refusals) m (Said text) n total sum has step = absurd step
step_refused g (Listens events refusals) m (Heard line) n total sum has step =
    subst (λ (k : Stage). HasRefused k total) (sym step)
    (request_refused events refusals total has.1 g (omega (arith, sum, has.0)) (request_of line))
step_refused g (Listens events refusals) m (Skipped line) n total sum has step =
    subst (λ (k : Stage). HasRefused k total) (sym step) (omega (arith, sum, has.0), has.1)
step_refused g (Listens events refusals) m Ended n total sum has step =
    subst (λ (k : Stage). HasRefused k total) (sym step) (omega (arith, sum, has.0, has.1))
step_refused g (Stands events refusals) m (Said text) n total sum has step =
    subst (λ (k : Stage). HasRefused k total) (sym step.1)
    (event_refused events refusals total has.1
    (omega (arith, sum, has.0, tells_none text (standing_count g events) step.0)))
step_refused g (Stands events refusals) m (Heard line) n total sum has step = absurd step
step_refused g (Stands events refusals) m (Skipped line) n total sum has step = absurd step
step_refused g (Stands events refusals) m Ended n total sum has step = absurd step
step_refused g (Refuses events refusals why) m (Said text) n total sum has step =
    subst (λ (k : Stage). HasRefused k total) (sym step.1)
    (refusal_refused events refusals total has.1
    (omega (arith, sum, has.0, refuses_one text why step.0)))
step_refused g (Refuses events refusals why) m (Heard line) n total sum has step = absurd step
step_refused g (Refuses events refusals why) m (Skipped line) n total sum has step = absurd step
step_refused g (Refuses events refusals why) m Ended n total sum has step = absurd step
step_refused g (Closes events) m (Said text) n total sum has step =
    subst (λ (k : Stage). HasRefused k total) (sym step.1)
    (inl (refl, omega (arith, sum, has, closes_none text (standing_count g events) step.0)))
step_refused g (Closes events) m (Heard line) n total sum has step = absurd step
step_refused g (Closes events) m (Skipped line) n total sum has step = absurd step
step_refused g (Closes events) m Ended n total sum has step = absurd step
step_refused g (Over events status) m entry n total sum has step = absurd step

leads_refused : (g : Game) (s t : Stage) (entries : List Entry) (n total : ℕ)
    → total ≡ n + count_by is_refusal entries
    → HasRefused s n
    → LeadsBy (Steps g) s entries t
    → HasRefused t total
leads_refused g s t [] n total sum has same =
    let all : n ≡ total = omega (arith, sum) in
    subst (λ (k : Stage). HasRefused k total) (sym same) (subst (λ (k : ℕ). HasRefused s k) all has)
leads_refused g s t (entry ∷ entries) n total sum has (m, step, rest) =
    let count : count_by is_refusal (entry ∷ entries)
    ≡ refused_in entry + count_by is_refusal entries = sum_by-cons refused_in entry entries in
    leads_refused g m t entries (n + refused_in entry) total (omega (arith, sum, count))
    (step_refused g s m entry n (n + refused_in entry) refl has step) rest

pub whole_ends : (g : Game) (entries : List Entry) (events : List Event) (status : ℕ)
    → IsWholeLog g entries events status
    → EndsWith (count_by is_refusal entries) status
whole_ends g entries events status log = leads_refused g (Listens [] 0) (Over events status) entries
    0 (count_by is_refusal entries) (omega arith) (refl, omega arith) log
