-- Solving, put together.
use Rattle.std.proofs.Common.{◌≡◌, ◌≢◌, ◌⊎◌, ◌≤◌, ℕ, nat_lt, Bool, true, false, arith}
use Rattle.std.proofs.Common.{if◌then◌else◌, List, [], ◌∷◌, length, Option, Some, None, Result, Ok}
use Rattle.std.proofs.Common.{Err, refl, sym, ◌∙◌, ap, subst, inl, inr}
use Rattle.std.specs.Prelude.{IfSome}
use Rattle.pg_cli.proofs.Common.{nat_tests, Kind, AvoiderEnforcer, MakerBreaker, MakerMaker}
use Rattle.pg_cli.proofs.Common.{Switching, ConsoleTold, Grows, Bytes, Holding, FilesTold, Said}
use Rattle.pg_cli.proofs.Common.{is_switching, Game, Cert, free_points, start, Expanded, budget}
use Rattle.pg_cli.proofs.Common.{IsLeft, IsLeftOpen, LeavesSearch, Solution, unknown_text, Refusal}
use Rattle.pg_cli.proofs.Common.{UNKNOWN, Solve, Done, End, Finished, Failed, Starved, Does}
use Rattle.pg_cli.proofs.Common.{Follows, talk, stop_end, OpensGame, game_held, Delivers, Halt}
use Rattle.pg_cli.proofs.Common.{Refused, Stopped, follows_more, kept, talked_texts}
use Rattle.pg_files.specs.GameFile.{Entry as GameEntry}
use Rattle.pg_pns.specs.Budget.{budget_for, most_for}
use Rattle.pg_cli.specs.Commands.{IsGameHeld}
use Rattle.pg_cli.specs.Run.{Refuses, CarriesOn, Carries}
use Rattle.pg_cli.specs.Solving.{IsLeftBehind, SolvesGame, Solves, Told}
use Rattle.pg_cli.specs.Solving.{result_alone}
use Rattle.pg_cli.proofs.Runs.{carries_halt}
use Rattle.pg_results.specs.Results.{IsFileOf, Shows}

-- what delivers the certificate of what was found solves the game
pub delivers_solution : (images : Bool) (told : Told) (g : Game) (name : Bytes) (positions : ℕ)
    (work : Expanded) (solution : Solution) (c : Cert) (text : Bytes) (texts : List Bytes)
    (files files' : FilesTold) (before after : ConsoleTold) (r : Result ℕ Halt)
    → Shows g solution c
    → IsLeftBehind g positions work solution
    → IsFileOf images g c text
    → texts ≡ told solution c
    → Does (Delivers (name, text) texts) files files' before after r
    → Does (SolvesGame images told g name positions work) files files' before after r
delivers_solution images told g name positions work solution c text texts files files' before after
    r shown left stored is h = follows_more (Delivers (name, text) texts)
    (SolvesGame images told g name positions work) files files' before after r more h
  where
    more : (done : Done) (end : End)
        → Delivers (name, text) texts done end
        → SolvesGame images told g name positions work done end
    more done (Finished status) act = inr (
      solution,
      c,
      shown,
      left,
      text,
      stored,
      subst (λ (t : List Bytes). Delivers (name, text) t done (Finished status)) is act,
    )
    more done Failed act = (
      solution,
      c,
      shown,
      left,
      text,
      stored,
      subst (λ (t : List Bytes). Delivers (name, text) t done Failed) is act,
    )
    more done Starved act = absurd act

-- the question stays open, and that is said
pub stays_open : (images : Bool) (told : Told) (g : Game) (name : Bytes) (positions : ℕ)
    (work : Expanded) (said : Bytes) (files files' : FilesTold) (before after : ConsoleTold)
    → is_switching g.kind ≡ false
    → IsLeftOpen g (budget g positions) work
    → said ≡ unknown_text (budget g positions)
    → files'.held ≡ files.held
    → Grows before.log after.log (Said said ∷ [])
    → after.left ≡ before.left
    → Does (SolvesGame images told g name positions work) files files' before after (Ok UNKNOWN)
stays_open images told g name positions work said files files' before after lines left_open is same
    says left = go files.held same where
      go : (b : Option Holding)
          → files'.held ≡ b
          → IfSome b (λ held. Follows (λ _. ⊥)
          (SolvesGame images told g name positions work) held files' before after (Ok UNKNOWN))
      go None same = tt
      go (Some held) same = (
        talk (Said said ∷ []),
        inl (record {
          on_lines = lines;
          left_open = left_open;
          said = ap (λ (t : Bytes). Said t ∷ []) is;
          stored = refl;
          status_is = refl;
        }),
        record {
          talked = talked_texts (Finished UNKNOWN) before after (said ∷ []) says left;
          names = kept held files'.held same;
        },
      )

-- ---- after the game was read

pub carries_solve : (images : Bool) (g c : Bytes) (positions : ℕ) (played : Game) (work : Expanded)
    (files mid files' : FilesTold) (before after : ConsoleTold) (r : Result ℕ Halt)
    → mid.held ≡ files.held
    → OpensGame files.held g (Ok played)
    → Does (SolvesGame images (result_alone played) played c positions work) mid files' before after
    r
    → Carries (Some (Solve g c (Some positions) images)) work files files' before after r
carries_solve images g c positions played work files mid files' before after r same opens h =
    go files.held opens r (subst (λ (b : Option Holding). IfSome b (λ held.
    Follows (λ _. ⊥) (SolvesGame images (result_alone played) played c positions work) held files'
    before after r)) same h)
  where
    act : (held : Holding)
        → OpensGame (Some held) g (Ok played)
        → (done : Done) (end : End)
        → SolvesGame images (result_alone played) played c positions work done end
        → Solves images (game_held (held g)) c positions work done end
    act held opens done end solves =
        subst (λ (read : Result GameEntry Halt). Solves images read c positions work done end)
        (sym opens) (played, refl, solves)

    go : (b : Option Holding)
        → OpensGame b g (Ok played)
        → (r : Result ℕ Halt) → IfSome b
        (λ held. Follows (λ _. ⊥) (SolvesGame images (result_alone played) played c positions work)
        held files' before after r)
        → IfSome b (λ held. CarriesOn held
        (Some (Solve g c (Some positions) images)) work files' before after r)
    go None opens r h = tt
    go (Some held) opens (Ok status) (done, solves, changes) =
        (done, act held opens done (Finished status) solves, changes)
    go (Some held) opens (Err (Refused refusal)) (none, changes) = absurd none
    go (Some held) opens (Err (Stopped stop)) (done, inl none, changes) = (done, inl none, changes)
    go (Some held) opens (Err (Stopped stop)) (done, inr solves, changes) =
        (done, inr (act held opens done (stop_end stop) solves), changes)

pub halted_solve : (images : Bool) (g c : Bytes) (positions : ℕ) (work : Expanded)
    (files files' : FilesTold) (console : ConsoleTold) (halt : Halt)
    → files'.held ≡ files.held
    → OpensGame files.held g (Err halt)
    → Carries (Some (Solve g c (Some positions) images)) work files files' console console
    (Err halt)
halted_solve images g c positions work files files' console halt same opens = carries_halt files
    files' console same (Some (Solve g c (Some positions) images)) work halt against where
      against : (held : Holding) (refusal : Refusal)
          → files.held ≡ Some held
          → halt ≡ Refused refusal
          → Refuses held (Some (Solve g c (Some positions) images)) refusal
      against held refusal is this = subst (λ (k : Halt). OpensGame (Some held) g (Err k)) this
          (subst (λ (b : Option Holding). OpensGame b g (Err halt)) is opens)

-- ---- counts

within : (free n : ℕ) → budget_for free n ≤ n
within free n = go (nat_lt n (most_for free)) refl where
  go : (b : Bool) → nat_lt n (most_for free) ≡ b → (if b then n else most_for free) ≤ n
  go true is = omega arith
  go false is = let h : most_for free ≤ n = grind (arith, nat_tests, is) in h

switching_or : (kind : Kind) → (kind ≡ Switching) ⊎ (kind ≢ Switching)
switching_or MakerBreaker = inr (λ e. cc e)
switching_or MakerMaker = inr (λ e. cc e)
switching_or AvoiderEnforcer = inr (λ e. cc e)
switching_or Switching = inl refl

-- what solving leaves in the work
pub leaves_search : (One : Game → Type 0) (g : Game) (positions : ℕ) (before after : Expanded)
    → One g
    → (g.kind ≢ Switching → IsLeft g (budget g positions) after)
    → (g.kind ≡ Switching → after ≡ before)
    → LeavesSearch One positions before after
leaves_search One g positions before after one left untouched =
    elim (switching_or g.kind) as (λ _. LeavesSearch One positions before after) [
      | inl switching ↦ inl (untouched switching)
      | inr lines ↦ inr (record { game = g; one = one; on_lines = lines; left = left lines })
    ]

-- the game that was read is the one that its name holds
pub game_is_held : (h : Option Holding) (name : Bytes) (g : Game)
    → OpensGame h name (Ok g)
    → IsGameHeld h name g
game_is_held None name g opens = tt
game_is_held (Some held) name g opens = opens

-- no more positions were expanded than may be
pub few_left : (g : Game) (positions most : ℕ) (old new : Expanded)
    → positions ≤ most
    → (g.kind ≢ Switching → IsLeft g (budget g positions) new)
    → (g.kind ≡ Switching → new ≡ old)
    → old.positions ≡ []
    → length new.positions ≤ most
few_left g positions most old new bound left untouched empty =
    elim (switching_or g.kind) as (λ _. length new.positions ≤ most) [
      | inl switching ↦
          let none : new.positions ≡ [] =
          ap (λ (w : Expanded). w.positions) (untouched switching) ∙ empty in
          let e : length new.positions ≡ 0 = ap length none in
          omega (arith, e)
      | inr lines ↦
          let few = (left lines).listed.count in
          let small = within (length (free_points g (start g))) positions in
          omega (arith, few, small, bound)
    ]
