-- What a review said in time stays said where more is said.
use Rattle.std.proofs.Common.{ℕ, ◌-◌, List, [], ◌∷◌, ◌++◌, map, take, Option, Some, None, sym}
use Rattle.std.proofs.Common.{subst, append_assoc, inl, inr}
use Rattle.pg_cli.proofs.Common.{Game, ConsoleTold, Grows, Bytes, Holding, Entry, Said, Expanded}
use Rattle.pg_cli.proofs.Common.{IsOfNames, IsReached, SaysAtLeast, loss_texts, LeavesSearch}
use Rattle.pg_cli.proofs.Common.{Grows-then, Halt, Refused, Stopped, refusal_text, Command, Solve}
use Rattle.pg_cli.proofs.Common.{Check, Play, Gen, Report, OfFamily, Record, Review}
use Rattle.pg_sessions.proofs.Standing.{leaves-more}
use Rattle.pg_cli.specs.Commands.{SpeaksInTime}
use Rattle.pg_results.specs.Ending.{Ends}

module _ (before mid after : ConsoleTold) (halt : Halt) (status : ℕ)
    (ends : Ends halt mid after status) where
  says_more : (texts : List Bytes) → SaysAtLeast texts before mid → SaysAtLeast texts before after
  says_more texts (entries, grows) = go halt ends where
    go : (halt : Halt) → Ends halt mid after status → SaysAtLeast texts before after
    go (Refused refusal) (inl (is, says, left, calm)) =
        let last = Said (refusal_text refusal) ∷ [] in (
          entries ++ last,
          subst (λ (es : List Entry). Grows before.log after.log es)
              (append_assoc (map Said texts) entries last)
              (Grows-then before.log mid.log after.log (map Said texts ++ entries) last grows says),
        )
    go (Refused refusal) (inr (is, quiet, left, rose)) = (
      entries,
      subst (λ (l : Option (List Entry)). Grows before.log l (map Said texts ++ entries))
          (sym quiet) grows,
    )
    go (Stopped stop) (is, same) =
        subst (λ (c : ConsoleTold). SaysAtLeast texts before c) (sym same) (entries, grows)

  reached_more : (told : Option Holding) (g r : Bytes) (here : Game)
      → IsOfNames (IsReached before mid) told g r here
      → IsOfNames (IsReached before after) told g r here
  reached_more None g r here is = tt
  reached_more (Some held) g r here (game, reads, (moves, stand, reached)) =
      let texts = loss_texts game (take (reached.along.made - 1) moves) in (
        game,
        reads,
        (moves, stand, record { along = reached.along; said = says_more texts reached.said }),
      )

  still_in_time : (told : Option Holding) (g r : Bytes) (positions : ℕ) (work work' : Expanded)
      → LeavesSearch (IsOfNames (IsReached before mid) told g r) positions work work'
      → LeavesSearch (IsOfNames (IsReached before after) told g r) positions work work'
  still_in_time told g r positions work work' left = leaves-more
      (IsOfNames (IsReached before mid) told g r) (IsOfNames (IsReached before after) told g r)
      positions work work' (reached_more told g r) left

-- what ended a command is said behind what it said in time
pub in_time_early : (told : Option Holding) (command : Option Command) (work work' : Expanded)
    (before mid after : ConsoleTold) (halt : Halt) (status : ℕ)
    → SpeaksInTime told command work work' before mid
    → Ends halt mid after status
    → SpeaksInTime told command work work' before after
in_time_early told None work work' before mid after halt status in_time ends = tt
in_time_early told
    (Some (Solve g c positions images)) work work' before mid after halt status in_time ends = tt
in_time_early told (Some (Check g c)) work work' before mid after halt status in_time ends = tt
in_time_early told (Some (Play g c side)) work work' before mid after halt status in_time ends = tt
in_time_early told (Some (Gen which g c)) work work' before mid after halt status in_time ends = tt
in_time_early told (Some (Report g c)) work work' before mid after halt status in_time ends = tt
in_time_early told
    (Some (OfFamily family task g c)) work work' before mid after halt status in_time ends = tt
in_time_early told (Some (Record g r)) work work' before mid after halt status in_time ends = tt
in_time_early told (Some (Review g r None)) work work' before mid after halt status in_time ends =
    still_in_time before mid after halt status ends told g r _ work work' in_time
in_time_early told
    (Some (Review g r (Some positions))) work work' before mid after halt status in_time ends =
    still_in_time before mid after halt status ends told g r positions work work' in_time
