-- A session and its record, put together.
use Rattle.std.proofs.Common.{◌≡◌, ◌≢◌, ℕ, List, [], ◌∷◌, ◌++◌, Option, Some, None, Result, Ok, Err}
use Rattle.std.proofs.Common.{refl, sym, ◌∙◌, ap, subst, inl, inr, IfOk}
use Rattle.std.specs.Prelude.{IfErr, IfSome, ⊤}
use Rattle.pg_sessions.proofs.Common.{ConsoleTold, Bytes, Holding, FilesTold, Entry, Said, Stop}
use Rattle.pg_sessions.proofs.Common.{Read, Write, Memory, entry, Game, OpensGame, game_held, Event}
use Rattle.pg_sessions.proofs.Common.{Done, End, Finished, Failed, Starved, Changes, Does, Follows}
use Rattle.pg_sessions.proofs.Common.{Stops, stop_end, talk, IsWriteHalt, QuietsBy, Runs, Delivers}
use Rattle.pg_sessions.proofs.Common.{IsCutShort, delivered, Halt, Refused, Stopped, not_opened}
use Rattle.pg_sessions.proofs.Common.{opened, kept, runs_halt, Grows-then, recorded_text, Refusal}
use Rattle.pg_sessions.proofs.Common.{DONE, OUT_OF_REPLIES}
use Rattle.pg_files.specs.GameFile.{Entry as GameEntry}
use Rattle.pg_talk.proofs.Parts.{hears_then}
use Rattle.pg_sessions.specs.Course.{LeadsBy, Course, BreaksOff}
use Rattle.pg_sessions.specs.Recording.{GivesRecord, GivesSession, Records, RecordsGame}
use Rattle.pg_sessions.specs.Recording.{record_file}
use Rattle.pg_sessions.specs.SessionLog.{Listens, Closes, Over, Steps, IsOpen, IsClosingLog}
use Rattle.pg_sessions.specs.SessionLog.{standing_count}
use Rattle.pg_sessions.proofs.Courses.{leads_then}

-- ---- a session that has ended, and then its record

-- of one text none was said, where not all were
no_front : (text : Bytes) (front : List Bytes) → IsCutShort (text ∷ []) front → front ≡ []
no_front text [] short = refl
no_front text (first ∷ []) (other, rest, is) = absurd (cc is)
no_front text (first ∷ second ∷ front) (other, rest, is) = absurd (cc is)

module _ (g : Game) (name : Bytes) (files files' : FilesTold) (before mid after : ConsoleTold)
    (events : List Event)
    (course : Course (Steps g) before mid (Listens [] 0) (Closes events)) where
  joined : (held : Holding) (part : Done) (end : End)
      → Changes held files' mid after part end
      → Changes held files' before after (record {
        entries = course.entries ++ part.entries;
        stored = part.stored;
      }) end
  joined held part end changes = record {
    talked = record {
      logged = Grows-then before.log mid.log after.log course.entries part.entries course.log
          changes.talked.logged;
      heard = hears_then 0 end before.left mid.left after.left course.entries part.entries
          course.input changes.talked.heard;
    };
    names = changes.names;
  }

  -- nothing more was said
  closing : (entries : List Entry)
      → entries ≡ []
      → IsClosingLog g (course.entries ++ entries) events
  closing entries none = subst (λ (es : List Entry).
      LeadsBy (Steps g) (Listens [] 0) (course.entries ++ es) (Closes events)) (sym none)
      (leads_then (Steps g) (Listens [] 0) (Closes events)
      (Closes events) course.entries [] course.leads refl)

  finished : (status : ℕ) (part : Done)
      → Delivers (record_file name events) (recorded_text (standing_count g events) ∷ []) part
      (Finished status)
      → RecordsGame g name (record {
        entries = course.entries ++ part.entries;
        stored = part.stored;
      }) (Finished status)
  finished status part (is, done) = subst (λ (n : ℕ). RecordsGame g name (record {
    entries = course.entries ++ part.entries;
    stored = part.stored;
  }) (Finished n)) (sym done) (subst (λ (d : Done). RecordsGame g name (record {
    entries = course.entries ++ d.entries;
    stored = d.stored;
  }) (Finished DONE)) (sym is) (
    events,
    leads_then (Steps g) (Listens [] 0) (Closes events) (Over events DONE) course.entries
        (Said (recorded_text (standing_count g events)) ∷ []) course.leads
        (Over events DONE, (refl, refl), refl),
    refl,
  ))

  failed : (part : Done)
      → Stops (Delivers (record_file name events) (recorded_text (standing_count g events) ∷ []))
      part Failed
      → RecordsGame g name (record {
        entries = course.entries ++ part.entries;
        stored = part.stored;
      }) Failed
  failed part (inl none) = inl ((Closes events, tt, closing part.entries none.0), none.1)
  failed part (inr (front, short, is)) =
      let empty = no_front (recorded_text (standing_count g events)) front short in
      let same : part ≡ delivered (record_file name events) [] =
      is ∙ ap (λ (f : List Bytes). delivered (record_file name events) f) empty in
      inr (
        events,
        closing part.entries (ap (λ (d : Done). d.entries) same),
        ap (λ (d : Done). d.stored) same,
      )

  starved : (part : Done)
      → Stops (Delivers (record_file name events) (recorded_text (standing_count g events) ∷ []))
      part Starved
      → RecordsGame g name (record {
        entries = course.entries ++ part.entries;
        stored = part.stored;
      }) Starved
  starved part (inl none) = (events, closing part.entries none.0, none.1)
  starved part (inr never) = absurd never

  stopped : (stop : Stop) (part : Done)
      → Stops (Delivers (record_file name events) (recorded_text (standing_count g events) ∷ []))
      part (stop_end stop)
      → RecordsGame g name (record {
        entries = course.entries ++ part.entries;
        stored = part.stored;
      }) (stop_end stop)
  stopped Read part how = failed part how
  stopped Write part how = failed part how
  stopped Memory part how = starved part how

  -- the session has ended, and then its record was stored and that was said
  pub records_stored : (r : Result ℕ Halt)
      → Does (Delivers (record_file name events) (recorded_text (standing_count g events) ∷ []))
      files files' mid after r
      → Does (RecordsGame g name) files files' before after r
  records_stored r does = go files.held r does where
    go : (h : Option Holding) (r : Result ℕ Halt)
        → IfSome h
        (λ held. Follows (λ _. ⊥)
        (Delivers (record_file name events) (recorded_text (standing_count g events) ∷ [])) held
        files' mid after r)
        → IfSome h (λ held. Follows (λ _. ⊥) (RecordsGame g name) held files' before after r)
    go None r does = tt
    go (Some held) (Ok status) (part, act, changes) = (
      record { entries = course.entries ++ part.entries; stored = part.stored },
      finished status part act,
      joined held part (Finished status) changes,
    )
    go (Some held) (Err (Refused refusal)) (none, changes) = absurd none
    go (Some held) (Err (Stopped stop)) (part, how, changes) = (
      record { entries = course.entries ++ part.entries; stored = part.stored },
      inr (stopped stop part how),
      joined held part (stop_end stop) changes,
    )

-- ---- a session that stored nothing

module _ (g : Game) (name : Bytes) (files : FilesTold) (before after : ConsoleTold) where
  -- so many lines were refused that it has ended
  pub records_refused : (events : List Event)
      → Course (Steps g) before after (Listens [] 0) (Over events OUT_OF_REPLIES)
      → Does (RecordsGame g name) files files before after (Ok OUT_OF_REPLIES)
  records_refused events course = go files.held refl where
    go : (h : Option Holding)
        → files.held ≡ h
        → IfSome h
        (λ held. Follows (λ _. ⊥) (RecordsGame g name) held files before after (Ok OUT_OF_REPLIES))
    go None is = tt
    go (Some held) is = (
      talk course.entries,
      (events, course.leads, refl),
      record {
        talked = record { logged = course.log; heard = course.input };
        names = kept held files.held is;
      },
    )

  -- a call has failed
  pub records_broken : (stop : Stop)
      → stop ≢ Memory
      → BreaksOff (Steps g) IsOpen before after (Listens [] 0)
      → Does (RecordsGame g name) files files before after (Err (Stopped stop))
  records_broken stop fed off = go files.held refl stop fed where
    go : (h : Option Holding)
        → files.held ≡ h
        → (stop : Stop) → stop ≢ Memory
        → IfSome h
        (λ held. Follows (λ _. ⊥) (RecordsGame g name) held files before after (Err (Stopped stop)))
    go None is stop fed = tt
    go (Some held) is Read fed = (
      talk off.course.entries,
      inr (inl ((off.stage, off.unended, off.course.leads), refl)),
      record {
        talked = record { logged = off.course.log; heard = (off.unread, off.course.input) };
        names = kept held files.held is;
      },
    )
    go (Some held) is Write fed = (
      talk off.course.entries,
      inr (inl ((off.stage, off.unended, off.course.leads), refl)),
      record {
        talked = record { logged = off.course.log; heard = (off.unread, off.course.input) };
        names = kept held files.held is;
      },
    )
    go (Some held) is Memory fed = absurd (fed refl)

-- ---- the command

abbrev pub Against : Bytes → Holding → Refusal → Type 0
Against game held refusal = game_held (held game) ≡ Err (Refused refusal)

abbrev pub RecordsHeld : Bytes → Bytes → Holding → Done → End → Type 0
RecordsHeld game name held = Records (game_held (held game)) name

module _ (game name : Bytes) (files mid : FilesTold) (same : mid.held ≡ files.held) where
  -- the game wasn't read
  pub record_halted : (console : ConsoleTold) (halt : Halt)
      → OpensGame files.held game (Err halt)
      → Runs (Against game) (RecordsHeld game name) files mid console console (Err halt)
  record_halted console halt opens = runs_halt files mid same (Against game)
      (RecordsHeld game name) console halt (λ held refusal is this. not_opened entry game_held
      files.held game held is halt refusal this opens)

  -- a session of the game that was read
  pub record_runs : (g : Game) (files' : FilesTold) (before after : ConsoleTold) (r : Result ℕ Halt)
      → OpensGame files.held game (Ok g)
      → Does (RecordsGame g name) mid files' before after r
      → Runs (Against game) (RecordsHeld game name) files files' before after r
  record_runs g files' before after r opens does = go files.held refl r
      (subst (λ (h : Option Holding). IfSome h
      (λ held. Follows (λ _. ⊥) (RecordsGame g name) held files' before after r)) same does)
    where
      acts : (held : Holding)
          → files.held ≡ Some held
          → (done : Done) (end : End) → RecordsGame g name done end
          → RecordsHeld game name held done end
      acts held is done end records =
          subst (λ (read : Result GameEntry Halt). Records read name done end)
          (sym (opened entry game_held files.held game held is g opens)) (g, refl, records)

      go : (h : Option Holding)
          → files.held ≡ h
          → (r : Result ℕ Halt)
          → IfSome h (λ held. Follows (λ _. ⊥) (RecordsGame g name) held files' before after r)
          → IfSome h (λ held. Follows (Against game held)
          (RecordsHeld game name held) held files' before after r)
      go None is r does = tt
      go (Some held) is (Ok status) (done, act, changes) =
          (done, acts held is done (Finished status) act, changes)
      go (Some held) is (Err (Refused refusal)) (none, changes) = absurd none
      go (Some held) is (Err (Stopped stop)) (done, inl none, changes) = (done, inl none, changes)
      go (Some held) is (Err (Stopped stop)) (done, inr act, changes) =
          (done, inr (acts held is done (stop_end stop) act), changes)

-- ---- how it ends

-- storing the record ends as a session may
pub stored_gives : (r : Result ℕ Halt)
    → IfOk r (λ status. status ≡ DONE)
    → IfErr r IsWriteHalt
    → GivesSession r
stored_gives (Ok status) done halts = inl done
stored_gives (Err (Refused refusal)) done halts = absurd halts
stored_gives (Err (Stopped stop)) done halts = tt

-- a session refuses nothing
pub session_gives : (r : Result ℕ Halt) → GivesSession r → GivesRecord r
session_gives (Ok status) gives = gives
session_gives (Err (Refused refusal)) gives = absurd gives
session_gives (Err (Stopped stop)) gives = tt

pub session_quiet : (before after : ConsoleTold) (r : Result ℕ Halt)
    → GivesSession r
    → QuietsBy ⊤ ⊤ before after r
session_quiet before after (Ok status) gives = tt
session_quiet before after (Err (Refused refusal)) gives = absurd gives
session_quiet before after (Err (Stopped Read)) gives = tt
session_quiet before after (Err (Stopped Write)) gives = tt
session_quiet before after (Err (Stopped Memory)) gives = tt
