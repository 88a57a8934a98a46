-- A play, put together.
use Rattle.std.proofs.Common.{◌≡◌, ◌≢◌, ℕ, List, [], ◌∷◌, Option, Result, Ok, Err, refl, sym, ap}
use Rattle.std.proofs.Common.{subst, inl, inr, IfOk}
use Rattle.std.specs.Prelude.{IsTrue, IfErr}
use Rattle.pg_talk.proofs.Common.{Goal, Side, Bytes, ConsoleTold, Grows, Entry, Said, Stop, Read}
use Rattle.pg_talk.proofs.Common.{Write, Memory, reaches, Position, claim_text, DONE}
use Rattle.pg_talk.specs.Contender.{Contender}
use Rattle.pg_talk.specs.Dialogue.{At, Over}
use Rattle.pg_talk.specs.Done.{Performs, stop_end}
use Rattle.pg_talk.specs.Hearing.{Hearing}
use Rattle.pg_talk.specs.Playing.{IsPlay}
use Rattle.pg_talk.specs.Talk.{BreaksOff, Talks}
use Rattle.pg_talk.specs.declared.halt.Halt.{Halt}
use Rattle.pg_talk.specs.declared.halt.Halt.TheVariants.{Stopped}
use Rattle.pg_talk.proofs.Runs.{silent}
use Rattle.pg_talk.proofs.Speaking.{Grows-then}
use Rattle.pg_talk.proofs.Talking.{said_before}

-- work that was stopped before anything was said or heard
pub nothing_played : (player : Contender) (before after : ConsoleTold) (stop : Stop)
    → after.log ≡ before.log
    → after.left ≡ before.left
    → Performs (λ _. ⊥) (IsPlay player) before after (Err (Stopped stop))
nothing_played player before after stop same left =
    ([], inl refl, silent (stop_end stop) before after same left)

module _ (player : Contender) (before mid after : ConsoleTold) where
  -- the claim is said, and then the side is played
  plays_on : (last : Position) (r : Result ℕ Stop)
      → Grows before.log mid.log (Said (claim_text player.side player.goal) ∷ [])
      → mid.left ≡ before.left
      → r ≢ Err Memory
      → IfOk r (λ status.
      status ≡ DONE → IsTrue (reaches player.side player.goal (player.contest.rules.outcome last)))
      → Talks player.contest player.side mid after (At player.position 0) r
      (λ status. Over last status)
      → (r' : Result ℕ Halt) → IfOk r (λ status. r' ≡ Ok status)
      → IfErr r (λ stop. r' ≡ Err (Stopped stop))
      → Performs (λ _. ⊥) (IsPlay player) before after r'
  plays_on last r claimed quiet fed reached talks r' ok err = go r fed reached talks ok err where
    first : Bytes
    first = claim_text player.side player.goal

    heard_too : (others : List Entry) (unread : Option Bytes)
        → Hearing mid.left others unread
        → Hearing before.left (Said first ∷ others) unread
    heard_too others unread heard = said_before before.left first others unread
        (subst (λ (l : Option Bytes). Hearing l others unread) quiet heard)

    off : (stop : Stop)
        → stop ≢ Memory
        → BreaksOff player.contest player.side mid after (At player.position 0)
        → Performs (λ _. ⊥) (IsPlay player) before after (Err (Stopped stop))
    off Memory fed b = absurd (fed refl)
    off Read fed b = (
      Said first ∷ b.talk.entries,
      inr (record {
        others = b.talk.entries;
        said = refl;
        dialogue = (b.stage, b.unended, b.talk.leads);
      }),
      record {
        logged = Grows-then before.log mid.log after.log
            (Said first ∷ []) b.talk.entries claimed b.talk.log;
        heard = (b.unread, heard_too b.talk.entries b.unread b.talk.input);
      },
    )
    off Write fed b = (
      Said first ∷ b.talk.entries,
      inr (record {
        others = b.talk.entries;
        said = refl;
        dialogue = (b.stage, b.unended, b.talk.leads);
      }),
      record {
        logged = Grows-then before.log mid.log after.log
            (Said first ∷ []) b.talk.entries claimed b.talk.log;
        heard = (b.unread, heard_too b.talk.entries b.unread b.talk.input);
      },
    )

    go : (r : Result ℕ Stop)
        → r ≢ Err Memory
        → IfOk r
        (λ status. status ≡ DONE
        → IsTrue (reaches player.side player.goal (player.contest.rules.outcome last)))
        → Talks player.contest player.side mid after (At player.position 0) r
        (λ status. Over last status)
        → IfOk r (λ status. r' ≡ Ok status)
        → IfErr r (λ stop. r' ≡ Err (Stopped stop))
        → Performs (λ _. ⊥) (IsPlay player) before after r'
    go (Ok status) fed reached talk ok err =
        subst (λ (r : Result ℕ Halt). Performs (λ _. ⊥) (IsPlay player) before after r) (sym ok) (
          Said first ∷ talk.entries,
          record {
            others = talk.entries;
            said = refl;
            last = last;
            dialogue = talk.leads;
            reached = reached;
          },
          record {
            logged = Grows-then before.log mid.log after.log
                (Said first ∷ []) talk.entries claimed talk.log;
            heard = heard_too talk.entries after.left talk.input;
          },
        )
    go (Err stop) fed reached b ok err =
        subst (λ (r : Result ℕ Halt). Performs (λ _. ⊥) (IsPlay player) before after r) (sym err)
        (off stop (λ same. fed (ap (λ (s : Stop). Err s) same)) b)

  -- the claim is said by the words of the player
  pub plays_claim : (side : Side) (claimed : Goal)
      → side ≡ player.side
      → claimed ≡ player.goal
      → Grows before.log mid.log (Said (claim_text side claimed) ∷ [])
      → mid.left ≡ before.left
      → (last : Position) (r : Result ℕ Stop) → r ≢ Err Memory
      → IfOk r (λ status.
      status ≡ DONE → IsTrue (reaches player.side player.goal (player.contest.rules.outcome last)))
      → Talks player.contest player.side mid after (At player.position 0) r
      (λ status. Over last status)
      → (r' : Result ℕ Halt) → IfOk r (λ status. r' ≡ Ok status)
      → IfErr r (λ stop. r' ≡ Err (Stopped stop))
      → Performs (λ _. ⊥) (IsPlay player) before after r'
  plays_claim side claimed own aim says quiet last r fed reached talks r' ok err =
      let says_own =
      subst (λ (s : Side). Grows before.log mid.log (Said (claim_text s claimed) ∷ [])) own says in
      let says_claim =
      subst (λ (k : Goal). Grows before.log mid.log (Said (claim_text player.side k) ∷ [])) aim
      says_own in
      plays_on last r says_claim quiet fed reached talks r' ok err
