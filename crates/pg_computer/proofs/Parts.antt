-- What a line leaves, and what is allowed.
use Rattle.std.proofs.Common.{◌≡◌, ◌∙◌, ℕ, true, false, not, List, [], ◌∷◌, ◌++◌, Result, Ok, Err}
use Rattle.std.proofs.Common.{if◌then◌else◌, is_ok, refl, sym, subst, inl, inr}
use Rattle.pg_computer.proofs.Common.{Allows, Budget, Closes, Ended, Entry, Event, Game, Heard}
use Rattle.pg_computer.proofs.Common.{Illegal, Leaves, Listens, Look, Notes, Outcome, Play}
use Rattle.pg_computer.proofs.Common.{Position}
use Rattle.pg_computer.proofs.Common.{Recorded, Said, Shows, Side, Skipped, Stalls, TableStage}
use Rattle.pg_computer.proofs.Common.{and_parts, is_over, is_same_side, judged_move, not-true}
use Rattle.pg_computer.proofs.Common.{place}
use Rattle.pg_opponent.specs.Fits.{MayPlay}
use Rattle.pg_playing.specs.Dialogue.{AfterTurn}
use Rattle.pg_playing.specs.declared.bout.Turn.{Turn}
use Rattle.pg_playing.specs.declared.bout.Turn.TheVariants as turns
use Rattle.pg_record.specs.Session.{refusal_of}
use Rattle.pg_computer.specs.Points.{ArePoints, Keeps}
use Rattle.pg_computer.specs.VersusLog.{Steps, is_own, versus_rules}
use Rattle.pg_computer.proofs.Keeping.{chooses_before}
use Rattle.pg_computer.proofs.Standing.{points_more}

-- ---- what is kept

-- a legal point more
pub keeps_more : (old new : Recorded) (v : ℕ)
    → new.game ≡ old.game
    → new.events ≡ old.events ++ Play v ∷ []
    → MayPlay old.game old.events v
    → ArePoints old.game old.events
    → Keeps old new
keeps_more old new v same events may are = (
  same,
  subst (λ (g : Game). ArePoints g new.events) (sym same)
      (subst (λ (es : List Event). ArePoints old.game es) (sym events)
      (points_more old.game old.events are v may)),
)

-- a point that was played
pub played_may : (r : Result Position Illegal) → Ok tt ≡ refusal_of r → is_ok r ≡ true
played_may (Ok p) e = refl
played_may (Err why) e = absurd cc

-- a point that was claimed, or refused
pub points_played : (old new : Recorded) (v : ℕ) (found : Result (Unit {0}) Illegal)
    → found ≡ refusal_of (judged_move old.game (place old.game old.events) v)
    → new.events ≡ (if is_ok found then old.events ++ Play v ∷ [] else old.events)
    → new.game ≡ old.game
    → ArePoints old.game old.events
    → ArePoints new.game new.events
points_played old new v (Ok _) is more same are = (keeps_more old new v same more
    (played_may (judged_move old.game (place old.game old.events) v) is) are).1
points_played old new v (Err why) is more same are =
    subst (λ (g : Game). ArePoints g new.events) (sym same)
    (subst (λ (es : List Event). ArePoints old.game es) (sym more) are)

-- a point that may be claimed isn't refused
pub may_played : (r : Result Position Illegal) (found : Result (Unit {0}) Illegal) (why : Illegal)
    → is_ok r ≡ true
    → found ≡ refusal_of r
    → found ≡ Err why
    → ⊥
may_played (Ok p) found why may is err =
    let both : Ok tt ≡ Err why = sym is ∙ err in cc
may_played (Err other) found why may is err = absurd cc

-- ---- whose turn it is

pub own_going : (side : Side) (g : Game) (events : List Event)
    → is_own side g events ≡ true
    → is_over g (place g events) ≡ false
own_going side g events own = not-true (is_over g (place g events))
    (and_parts (not (is_over g (place g events))) (is_same_side (place g events).turn side) own).0

-- what holds before a change and after it
pub after_turn : (M : Type 0) (turn : Turn) → M → AfterTurn M M turn
after_turn M turns.Moved holds = holds
after_turn M (turns.Noted note) holds = holds
after_turn M turns.Ended holds = holds

-- ---- a finder that may bring no less

module _ (Brings Before : Game → Budget → Outcome → Type 0) (budget : Budget) (look : Look)
    (side : Side) (g : Game)
    (more : (other : Game) (allowed : Budget) (later : Outcome) → Brings other allowed later
    → Before other allowed later) where
  steps_before : (s : TableStage) (entry : Entry) (t : TableStage)
      → Steps Brings budget look side g s entry t
      → Steps Before budget look side g s entry t
  steps_before (Shows events heard) (Said text) t (inl (c, own, chooses, said, leads)) = inl (
    c,
    own,
    chooses_before Brings Before budget more g (place g events) c chooses,
    said,
    leads,
  )
  steps_before (Shows events heard) (Said text) t (inr shown) = inr shown
  steps_before (Shows events heard) (Heard line) t step = absurd step
  steps_before (Shows events heard) (Skipped line) t step = absurd step
  steps_before (Shows events heard) Ended t step = absurd step
  steps_before (Listens events heard) (Said text) t step = absurd step
  steps_before (Listens events heard) (Heard line) t step = step
  steps_before (Listens events heard) (Skipped line) t step = step
  steps_before (Listens events heard) Ended t step = step
  steps_before (Notes events heard note) (Said text) t step = step
  steps_before (Notes events heard note) (Heard line) t step = absurd step
  steps_before (Notes events heard note) (Skipped line) t step = absurd step
  steps_before (Notes events heard note) Ended t step = absurd step
  steps_before (Leaves events) (Said text) t step = step
  steps_before (Leaves events) (Heard line) t step = absurd step
  steps_before (Leaves events) (Skipped line) t step = absurd step
  steps_before (Leaves events) Ended t step = absurd step
  steps_before (Closes events) (Said text) t step = absurd step
  steps_before (Closes events) (Heard line) t step = absurd step
  steps_before (Closes events) (Skipped line) t step = absurd step
  steps_before (Closes events) Ended t step = absurd step
  steps_before (Stalls events) (Said text) t step = absurd step
  steps_before (Stalls events) (Heard line) t step = absurd step
  steps_before (Stalls events) (Skipped line) t step = absurd step
  steps_before (Stalls events) Ended t step = absurd step

  pub versus_allows : (shown : Look) (h : Game)
      → shown ≡ look
      → h ≡ g
      → Allows (versus_rules Before budget look side g) (versus_rules Brings budget shown side h)
  versus_allows shown h looks same = subst (λ (k : Look × Game).
      Allows (versus_rules Before budget look side g) (versus_rules Brings budget k.0 side k.1))
      (λ i. (sym looks i, sym same i))
      (record { same_game = refl; steps = steps_before; holds = λ events are. are })
