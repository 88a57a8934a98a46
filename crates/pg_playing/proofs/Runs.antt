-- A game at a table and its record, put together.
use Rattle.std.proofs.Common.{◌≡◌, ℕ, List, [], ◌++◌, Option, Some, None, Result, Ok, Err}
use Rattle.std.proofs.Common.{refl, sym, ◌∙◌, ap, subst, inl, inr, IfOk, append-nil}
use Rattle.std.specs.Prelude.{IfErr, IfSome, ⊤}
use Rattle.pg_playing.proofs.Common.{Bytes, Changes, ConsoleTold, Course, DONE, Does, Done, End}
use Rattle.pg_playing.proofs.Common.{Entry, Event, Failed, FilesTold, Finished, Follows, Game}
use Rattle.pg_playing.proofs.Common.{Grows-then, Halt, Holding, IsWriteHalt, LeadsBy, Memory}
use Rattle.pg_playing.proofs.Common.{OpensGame, QuietsBy, Read, Refusal, Refused, Runs, Starved}
use Rattle.pg_playing.proofs.Common.{Stop, Stopped, Stops, Write, entry, game_held, hears_then}
use Rattle.pg_playing.proofs.Common.{kept, not_opened, opened, runs_halt, silent, stop_end, talk}
use Rattle.pg_files.specs.GameFile.{Entry as GameEntry}
use Rattle.pg_playing.specs.Courses.{Breaks}
use Rattle.pg_playing.specs.Playing.{Closed, GivesPlay, GivesTable, IsCutShort, PlaysLog, Stores}
use Rattle.pg_playing.specs.Playing.{after_log}

-- ---- a game that has ended or was left, and then its record

module _ {S : Type 0} (Steps : S → Entry → S → Type 0) (first final : S)
    (IsWhole : S → List Event → Type 0) (g : Game) (path : Option Bytes)
    (files files' : FilesTold) (before mid after : ConsoleTold) (events : List Event)
    (whole : IsWhole final events) (course : Course Steps before mid first final) where
  joined : (held : Holding) (part : Done) (end : End)
      → Changes held files' mid after part end
      → Changes held files' before after (after_log course.entries part) end
  joined held part end changes = record {
    talked = record {
      logged = Grows-then before.log mid.log after.log course.entries part.entries course.log
          changes.talked.logged;
      heard = hears_then 0 end before.left mid.left after.left course.entries part.entries
          course.input changes.talked.heard;
    };
    names = changes.names;
  }

  closed : (part : Done) (end : End)
      → Stores path g events part end
      → Closed Steps first IsWhole g path (after_log course.entries part) end
  closed part end stores = record {
    entries = course.entries;
    final = final;
    events = events;
    log = course.leads;
    whole = whole;
    last = part;
    stores = stores;
    same = refl;
  }

  -- nothing was done at the end
  unclosed : (part : Done)
      → part.entries ≡ []
      → part.stored ≡ []
      → IsCutShort Steps first (after_log course.entries part)
  unclosed part said stored = (
    (
      final,
      subst (λ (es : List Entry). LeadsBy Steps first es final)
          (sym (ap (λ (es : List Entry). course.entries ++ es) said ∙ append-nil course.entries))
          course.leads,
    ),
    stored,
  )

  stopped : (stop : Stop) (part : Done)
      → Stops (Stores path g events) part (stop_end stop)
      → PlaysLog Steps first IsWhole g path (after_log course.entries part) (stop_end stop)
  stopped Read part (inl none) = inl (unclosed part none.0 none.1)
  stopped Read part (inr act) = inr (closed part Failed act)
  stopped Write part (inl none) = inl (unclosed part none.0 none.1)
  stopped Write part (inr act) = inr (closed part Failed act)
  stopped Memory part (inl none) = inl (unclosed part none.0 none.1)
  stopped Memory part (inr act) = inr (closed part Starved act)

  -- the record was stored, if there is a path for it
  pub plays_closed : (r : Result ℕ Halt)
      → Does (Stores path g events) files files' mid after r
      → Does (PlaysLog Steps first IsWhole g path) files files' before after r
  plays_closed r does = go files.held r does where
    go : (h : Option Holding) (r : Result ℕ Halt)
        → IfSome h (λ held. Follows (λ _. ⊥) (Stores path g events) held files' mid after r)
        → IfSome h (λ held. Follows (λ _. ⊥) (PlaysLog Steps first IsWhole g path) held files'
        before after r)
    go None r does = tt
    go (Some held) (Ok status) (part, act, changes) = (
      after_log course.entries part,
      closed part (Finished status) act,
      joined held part (Finished status) changes,
    )
    go (Some held) (Err (Refused refusal)) (none, changes) = absurd none
    go (Some held) (Err (Stopped stop)) (part, how, changes) = (
      after_log course.entries part,
      inr (stopped stop part how),
      joined held part (stop_end stop) changes,
    )

-- nothing is stored where there is no path
pub stores_none : (g : Game) (events : List Event) (files : FilesTold) (console : ConsoleTold)
    → Does (Stores None g events) files files console console (Ok DONE)
stores_none g events files console = go files.held refl where
  go : (h : Option Holding)
      → files.held ≡ h
      → IfSome h
      (λ held. Follows (λ _. ⊥) (Stores None g events) held files console console (Ok DONE))
  go None is = tt
  go (Some held) is = (
    talk [],
    ((refl, refl), refl),
    record {
      talked = silent (Finished DONE) console console refl refl;
      names = kept held files.held is;
    },
  )

-- ---- a game that was stopped

module _ {S : Type 0} (Steps : S → Entry → S → Type 0) (first : S)
    (IsWhole : S → List Event → Type 0) (g : Game) (path : Option Bytes) (files : FilesTold)
    (before after : ConsoleTold) where
  pub plays_broken : (stop : Stop)
      → Breaks Steps before after first stop
      → Does (PlaysLog Steps first IsWhole g path) files files before after (Err (Stopped stop))
  plays_broken stop broken = go files.held refl stop broken where
    go : (h : Option Holding)
        → files.held ≡ h
        → (stop : Stop) → Breaks Steps before after first stop
        → IfSome h (λ held. Follows (λ _. ⊥) (PlaysLog Steps first IsWhole g path) held files before
        after (Err (Stopped stop)))
    go None is stop broken = tt
    go (Some held) is Read (unread, t, course) = (
      talk course.entries,
      inr (inl ((t, course.leads), refl)),
      record {
        talked = record { logged = course.log; heard = (unread, course.input) };
        names = kept held files.held is;
      },
    )
    go (Some held) is Write (unread, t, course) = (
      talk course.entries,
      inr (inl ((t, course.leads), refl)),
      record {
        talked = record { logged = course.log; heard = (unread, course.input) };
        names = kept held files.held is;
      },
    )
    go (Some held) is Memory (t, course) = (
      talk course.entries,
      inr (inl ((t, course.leads), refl)),
      record {
        talked = record { logged = course.log; heard = course.input };
        names = kept held files.held is;
      },
    )

-- ---- the call

abbrev pub Against : Bytes → Holding → Refusal → Type 0
Against game held refusal = game_held (held game) ≡ Err (Refused refusal)

-- what is done with a game is what is done with what was read
module _ (Acts : Game → Done → End → Type 0) (Held : Result GameEntry Halt → Done → End → Type 0)
    (game : Bytes) (files mid : FilesTold) (same : mid.held ≡ files.held) where
  -- the game wasn't read
  pub plays_halted : (console : ConsoleTold) (halt : Halt)
      → OpensGame files.held game (Err halt)
      → Runs (Against game) (λ held. Held (game_held (held game))) files mid console console
      (Err halt)
  plays_halted console halt opens = runs_halt files mid same (Against game)
      (λ held. Held (game_held (held game))) console halt (λ held refusal is this. not_opened entry
      game_held files.held game held is halt refusal this opens)

  -- the game that was read was played
  pub plays_runs : (g : Game) (files' : FilesTold) (before after : ConsoleTold) (r : Result ℕ Halt)
      → ((done : Done) (end : End) → Acts g done end → Held (Ok (entry g)) done end)
      → OpensGame files.held game (Ok g)
      → Does (Acts g) mid files' before after r
      → Runs (Against game) (λ held. Held (game_held (held game))) files files' before after r
  plays_runs g files' before after r plays opens does = go files.held refl r
      (subst (λ (h : Option Holding). IfSome h
      (λ held. Follows (λ _. ⊥) (Acts g) held files' before after r)) same does)
    where
      acts : (held : Holding)
          → files.held ≡ Some held
          → (done : Done) (end : End) → Acts g done end
          → Held (game_held (held game)) done end
      acts held is done end act =
          subst (λ (read : Result GameEntry Halt). Held read done end)
          (sym (opened entry game_held files.held game held is g opens)) (plays done end act)

      go : (h : Option Holding)
          → files.held ≡ h
          → (r : Result ℕ Halt)
          → IfSome h (λ held. Follows (λ _. ⊥) (Acts g) held files' before after r)
          → IfSome h (λ held. Follows (Against game held) (Held (game_held (held game))) held
          files' before after r)
      go None is r does = tt
      go (Some held) is (Ok status) (done, act, changes) =
          (done, acts held is done (Finished status) act, changes)
      go (Some held) is (Err (Refused refusal)) (none, changes) = absurd none
      go (Some held) is (Err (Stopped stop)) (done, inl none, changes) = (done, inl none, changes)
      go (Some held) is (Err (Stopped stop)) (done, inr act, changes) =
          (done, inr (acts held is done (stop_end stop) act), changes)

-- ---- how it ends

pub stored_gives : (r : Result ℕ Halt)
    → IfOk r (λ status. status ≡ DONE)
    → IfErr r IsWriteHalt
    → GivesTable r
stored_gives (Ok status) done halts = done
stored_gives (Err (Refused refusal)) done halts = absurd halts
stored_gives (Err (Stopped stop)) done halts = tt

pub table_gives : (r : Result ℕ Halt) → GivesTable r → GivesPlay r
table_gives (Ok status) gives = gives
table_gives (Err (Refused refusal)) gives = absurd gives
table_gives (Err (Stopped stop)) gives = tt

pub table_quiet : (before after : ConsoleTold) (r : Result ℕ Halt)
    → GivesTable r
    → QuietsBy ⊤ ⊤ before after r
table_quiet before after (Ok status) gives = tt
table_quiet before after (Err (Refused refusal)) gives = absurd gives
table_quiet before after (Err (Stopped Read)) gives = tt
table_quiet before after (Err (Stopped Write)) gives = tt
table_quiet before after (Err (Stopped Memory)) gives = tt
