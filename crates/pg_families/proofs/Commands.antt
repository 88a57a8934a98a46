-- Commands of families, put together.
use Rattle.std.proofs.Common.{◌≡◌, ℕ, Option, Some, None, Result, Ok, Err, refl, subst, inl, inr}
use Rattle.std.specs.Prelude.{IfErr, IfSome}
use Rattle.pg_families.proofs.Common.{ConsoleTold, Holding, FilesTold, Refusal, Done, End, Finished}
use Rattle.pg_families.proofs.Common.{Does, Follows, stop_end, IsPlayHalt, IsTalkHalt, Runs, Halt}
use Rattle.pg_families.proofs.Common.{Refused, Stopped}

-- work on files and a console that refuses nothing, behind reading that changes nothing
pub runs_does : (Against : Holding → Refusal → Type 0) (Act : Holding → Done → End → Type 0)
    (Acts : Done → End → Type 0) (files mid files' : FilesTold) (before after : ConsoleTold)
    (r : Result ℕ Halt)
    → mid.held ≡ files.held
    → ((held : Holding) → files.held ≡ Some held
    → (done : Done) (end : End) → Acts done end
    → Act held done end)
    → Does Acts mid files' before after r
    → Runs Against Act files files' before after r
runs_does Against Act Acts files mid files' before after r same acts does =
    go files.held refl r (subst (λ (h : Option Holding).
    IfSome h (λ held. Follows (λ _. ⊥) Acts held files' before after r)) same does)
  where
    go : (h : Option Holding)
        → files.held ≡ h
        → (r : Result ℕ Halt) → IfSome h (λ held. Follows (λ _. ⊥) Acts held files' before after r)
        → IfSome h (λ held. Follows (Against held) (Act held) held files' before after r)
    go None is r does = tt
    go (Some held) is (Ok status) (done, act, changes) =
        (done, acts held is done (Finished status) act, changes)
    go (Some held) is (Err (Refused refusal)) (none, changes) = absurd none
    go (Some held) is (Err (Stopped stop)) (done, inl none, changes) = (done, inl none, changes)
    go (Some held) is (Err (Stopped stop)) (done, inr act, changes) =
        (done, inr (acts held is done (stop_end stop) act), changes)

-- a play that is under way is stopped by a failed call alone
pub play_halts : (r : Result ℕ Halt) → IfErr r IsTalkHalt → IfErr r IsPlayHalt
play_halts (Ok status) halts = tt
play_halts (Err (Refused refusal)) halts = absurd halts
play_halts (Err (Stopped stop)) halts = tt
