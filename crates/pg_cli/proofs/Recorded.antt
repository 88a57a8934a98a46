-- What is said of recorded games: no claim is accepted, and none is said.
use Rattle.std.proofs.Common.{ℕ, ◌-◌, List, [], ◌∷◌, ◌++◌, length, take, Option, Result, Ok, Err}
use Rattle.std.proofs.Common.{refl, sym, subst, inl, inr}
use Rattle.pg_cli.proofs.Common.{Contains, Contains-append_cases, Contains-append_left, Bytes}
use Rattle.pg_cli.proofs.Common.{Entry, Said, start, Game, lost_text, reply_text, reviewed_text}
use Rattle.pg_cli.proofs.Common.{unknown_at_text, Done, End, Finished, Failed, Starved, SaysFirst}
use Rattle.pg_cli.proofs.Common.{Halt, Expanded, budget, Records, RecordsGame, ReviewsMoves}
use Rattle.pg_cli.proofs.Common.{ReviewsRead, loss_texts, AllOther, AreOther, IsOther, apart}
use Rattle.pg_cli.proofs.Common.{first_or_later, image_of, none_of, one_other, stays_other}
use Rattle.pg_files.specs.GameFile.{Entry as GameEntry}
use Rattle.pg_messages.specs.declared.message.ReplyFault.{ReplyFault}
use Rattle.pg_messages.specs.declared.message.ReplyFault.TheVariants as fault
use Rattle.pg_sessions.specs.Course.{LeadsBy}
use Rattle.pg_sessions.specs.SessionLog.{Stage, Listens, Stands, Refuses, Closes, Over, Steps}
use Rattle.pg_sessions.specs.Losses.{Loss, losses}

-- ---- a session that is recorded

reply_other : (why : ReplyFault) → IsOther (reply_text why)
reply_other fault.NoNumber = (apart _ 97 refl, apart _ 109 refl)
reply_other fault.NoPoint = (apart _ 97 refl, apart _ 109 refl)
reply_other fault.Taken = (apart _ 97 refl, apart _ 109 refl)
reply_other fault.Over = (apart _ 97 refl, apart _ 109 refl)
reply_other fault.NothingToTakeBack = (apart _ 97 refl, apart _ 109 refl)

step_other : (g : Game) (s m : Stage) (text : Bytes) → Steps g s (Said text) m → IsOther text
step_other g (Listens events refusals) m text step = absurd step
step_other g (Stands events refusals) m text step =
    subst (λ (t : Bytes). IsOther t) (sym step.0) (apart _ 97 refl, apart _ 109 refl)
step_other g (Refuses events refusals why) m text step =
    subst (λ (t : Bytes). IsOther t) (sym step.0) (reply_other why)
step_other g (Closes events) m text step =
    subst (λ (t : Bytes). IsOther t) (sym step.0) (apart _ 97 refl, apart _ 109 refl)
step_other g (Over events status) m text step = absurd step

log_other : (g : Game) (s t : Stage) (entries : List Entry)
    → LeadsBy (Steps g) s entries t
    → AllOther entries
log_other g s t [] leads text among = absurd (none_of (Said text) among)
log_other g s t (entry ∷ entries) (m, step, rest) text among =
    elim (first_or_later entry entries (Said text) among) as (λ _. IsOther text) [
      | inl here ↦ step_other g s m text (subst (λ (e : Entry). Steps g s e m) here step)
      | inr later ↦ log_other g m t entries rest text later
    ]

session_other : (g : Game) (name : Bytes) (done : Done) (end : End)
    → RecordsGame g name done end
    → AllOther done.entries
session_other g name done (Finished status) (events, log, stored) =
    log_other g (Listens [] 0) (Over events status) done.entries log
session_other g name done Failed (inl ((stage, open_is, log), stored)) =
    log_other g (Listens [] 0) stage done.entries log
session_other g name done Failed (inr (events, log, stored)) =
    log_other g (Listens [] 0) (Closes events) done.entries log
session_other g name done Starved (events, log, stored) =
    log_other g (Listens [] 0) (Closes events) done.entries log

pub records_other : (read : Result GameEntry Halt) (name : Bytes) (done : Done) (end : End)
    → Records read name done end
    → AllOther done.entries
records_other (Err halt) name done end records = absurd records
records_other (Ok e) name done end (g, said, records) = session_other g name done end records

-- ---- a review

losses_other : (g : Game) (moves : List ℕ) → AreOther (loss_texts g moves)
losses_other g moves text among =
    let one = image_of (λ (l : Loss). lost_text l.number l.point g.kind l.before l.after)
    (losses g (start g) moves) text among in
    subst (λ (t : Bytes). IsOther t) one.3 (apart _ 97 refl, apart _ 109 refl)

all_other : (texts : List Bytes) (last : Bytes)
    → AreOther texts
    → IsOther last
    → AreOther (texts ++ last ∷ [])
all_other texts last others other text among =
    elim (Contains-append_cases texts (last ∷ []) text among) as (λ _. IsOther text) [
      | inl before ↦ others text before
      | inr now ↦ one_other last other text now
    ]

first_other : (texts : List Bytes) (entries : List Entry)
    → AreOther texts
    → SaysFirst texts entries
    → AllOther entries
first_other texts entries others (front, rest, whole, is) = stays_other entries front is
    (λ text among. others text (subst (λ (l : List Bytes). Contains l text) (sym whole)
    (Contains-append_left front rest text among)))

review_other : (g : Game) (moves : List ℕ) (positions : ℕ) (work : Expanded) (entries : List Entry)
    (end : End)
    → ReviewsMoves g moves positions work entries end
    → AllOther entries
review_other g moves positions work entries (Finished status) (inl all) =
    let last = reviewed_text (length moves) in
    stays_other entries (loss_texts g moves ++ last ∷ []) all.said
    (all_other (loss_texts g moves) last (losses_other g moves) (apart _ 97 refl, apart _ 109 refl))
review_other g moves positions work entries (Finished status) (inr stops) =
    let before = take (stops.made - 1) moves in
    let last = unknown_at_text stops.made (budget stops.here positions) in
    stays_other entries (loss_texts g before ++ last ∷ []) stops.said
    (all_other (loss_texts g before) last (losses_other g before)
    (apart _ 97 refl, apart _ 109 refl))
review_other g moves positions work entries Failed first =
    first_other (loss_texts g moves) entries (losses_other g moves) first
review_other g moves positions work entries Starved first =
    first_other (loss_texts g moves) entries (losses_other g moves) first

pub reviews_other : (read : Result GameEntry Halt) (record_bytes : Option Bytes) (positions : ℕ)
    (work : Expanded) (entries : List Entry) (end : End)
    → ReviewsRead read record_bytes positions work entries end
    → AllOther entries
reviews_other (Err halt) record_bytes positions work entries end reviews = absurd reviews
reviews_other (Ok e) record_bytes positions work entries end (g, said, found) =
    review_other g found.0 positions work entries end found.2
