-- Making a game, put together.
use Rattle.std.proofs.Common.{◌≡◌, ◌≢◌, ℕ, Bool, true, false, List, [], ◌∷◌, ◌+◌, ◌<◌, length}
use Rattle.std.proofs.Common.{get_or, take, Option, Some, None, Result, Ok, Err, refl, sym, ◌∙◌, ap}
use Rattle.std.proofs.Common.{subst, inl, inr, if◌then◌else◌}
use Rattle.std.specs.Prelude.{IfErr, IfSome}
use Rattle.pg_cli.proofs.Common.{take_more, sum_by_push, Switching, node_count, Claim, ConsoleTold}
use Rattle.pg_cli.proofs.Common.{Grows, Bytes, Holding, FilesTold, Said, Read, Write, Memory}
use Rattle.pg_cli.proofs.Common.{is_switching, Game, Expanded, budget, IsLeft, Command, Gen, Source}
use Rattle.pg_cli.proofs.Common.{Rows, Bridge, Scatter, Does, Follows, IsWriteHalt, MuteAtMemory}
use Rattle.pg_cli.proofs.Common.{Delivers, Halt, Refused, Stopped, delivers_first, Grows-then}
use Rattle.pg_cli.specs.Commands.{LeavesWork, Quiets, built}
use Rattle.pg_cli.specs.Generating.{IsMade, IsMadeOf, StoresGame, game_file, has_source, searches}
use Rattle.pg_cli.specs.Generating.{size_text, size_texts}
use Rattle.pg_cli.specs.Run.{CarriesOn, Carries}
use Rattle.pg_cli.specs.Solving.{SolvesGame, result_and_counts}
use Rattle.pg_cli.specs.declared.solving.TheConstants.{DEFAULT_POSITIONS}
use Rattle.pg_cli.proofs.Solves.{leaves_search}

-- ---- the game that is made

-- no search is made only for a switching game
unsearched : (which : Source) (c : Bytes) (g : Game)
    → IsMade which g
    → searches which (Some c) ≡ false
    → g.kind ≡ Switching
unsearched (Rows n) c g made none = absurd (cc none)
unsearched (Bridge r) c g made none = made.same_kind
unsearched (Scatter seed n m k) c g made none = absurd (cc none)

searched : (which : Source) (c : Bytes) (g : Game)
    → IsMade which g
    → is_switching g.kind ≡ false
    → searches which (Some c) ≡ true
searched (Rows n) c g made lines = refl
searched (Bridge r) c g made lines =
    let e : is_switching g.kind ≡ true = ap is_switching made.same_kind in
    absurd (cc (e, lines))
searched (Scatter seed n m k) c g made lines = refl

-- ---- the command

module _ (which : Source) (g : Bytes) (c : Option Bytes) where
  built_is : has_source which ≡ true → built (Gen which g c) ≡ Some (Gen which g c)
  built_is has = ap (λ (b : Bool). if b then Some (Gen which g c) else None) has

  -- a fact of the command, or of none
  pub of_built : (P : Option Command → Type 0)
      → has_source which ≡ true
      → P (Some (Gen which g c))
      → P (built (Gen which g c))
  of_built P has p = subst P (sym (built_is has)) p

  pub carries_made : (made : Game) (work : Expanded) (files files' : FilesTold)
      (before after : ConsoleTold) (r : Result ℕ Halt)
      → IsMadeOf which (Some made)
      → Does (StoresGame made g c work) files files' before after r
      → Carries (built (Gen which g c)) work files files' before after r
  carries_made made work files files' before after r (has, is) h =
      of_built (λ (command : Option Command). Carries command work files files' before after r) has
      (go files.held r h)
    where
      go : (b : Option Holding) (r : Result ℕ Halt)
          → IfSome b
          (λ held. Follows (λ _. ⊥) (StoresGame made g c work) held files' before after r)
          → IfSome b (λ held. CarriesOn held (Some (Gen which g c)) work files' before after r)
      go None r h = tt
      go (Some held) (Ok status) (done, act, changes) = (done, (made, is, act), changes)
      go (Some held) (Err (Refused refusal)) (none, changes) = absurd none
      go (Some held) (Err (Stopped stop)) (done, inl none, changes) = (done, inl none, changes)
      go (Some held) (Err (Stopped stop)) (done, inr act, changes) =
          (done, inr (made, is, act), changes)

  -- the run was stopped before the game's size was said
  pub stores_halted : (made : Game) (work : Expanded) (files files' : FilesTold)
      (before after : ConsoleTold) (halt : Halt)
      → Does (Delivers (game_file g made) (size_texts made)) files files' before after (Err halt)
      → Does (StoresGame made g c work) files files' before after (Err halt)
  stores_halted made work files files' before after halt h = go c where
    go : (c : Option Bytes) → Does (StoresGame made g c work) files files' before after (Err halt)
    go None = h
    go (Some name) = delivers_first
        (SolvesGame false (result_and_counts made work) made name DEFAULT_POSITIONS work)
        (game_file g made) (size_texts made) files files' before after halt h

-- behind the game's size nothing was said where memory was wanting
pub quiet_then : (which : Source) (g c : Bytes) (made : Game) (before mid after : ConsoleTold)
    (r : Result ℕ Halt)
    → IsMade which made
    → Grows before.log mid.log (Said (size_text made.field) ∷ [])
    → MuteAtMemory mid after r
    → IfErr r IsWriteHalt
    → Quiets (Some (Gen which g (Some c))) before after r
quiet_then which g c made before mid after (Ok status) is says mute write = tt
quiet_then which g c made before mid after (Err (Refused refusal)) is says mute write = absurd write
quiet_then which g c made before mid after (Err (Stopped Read)) is says mute write = absurd write
quiet_then which g c made before mid after (Err (Stopped Write)) is says mute write = tt
quiet_then which g c made before mid after (Err (Stopped Memory)) is says mute write = inr (
  made,
  is,
  Grows-then before.log mid.log after.log (Said (size_text made.field) ∷ []) [] says mute,
)

pub work_left : (which : Source) (g c : Bytes) (made : Game) (before after : Expanded)
    → IsMade which made
    → (made.kind ≡ Switching → after ≡ before)
    → (made.kind ≢ Switching → IsLeft made (budget made DEFAULT_POSITIONS) after)
    → (told : Option Holding) → LeavesWork told (Some (Gen which g (Some c))) before after
work_left which g c made before after is untouched left told = (
  (λ none. untouched (unsearched which c made is none)),
  leaves_search (IsMade which) made DEFAULT_POSITIONS before after is left untouched,
)
