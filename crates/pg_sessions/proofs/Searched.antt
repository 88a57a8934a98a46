-- Which positions of a review were searched, and what was said before that.
use Rattle.std.proofs.Common.{◌≡◌, ◌∙◌, ℕ, suc, ◌+◌, ◌-◌, ◌<◌, ◌≤◌, List, [], ◌++◌, length, take}
use Rattle.std.proofs.Common.{drop, map, refl, sym, ap, subst, inl, inr, arith, append_assoc}
use Rattle.pg_sessions.proofs.Common.{cases_order, append-nil, map-append, take-append-drop}
use Rattle.pg_sessions.proofs.Common.{take-take, Cert, start, Game, Position, ConsoleTold, Grows}
use Rattle.pg_sessions.proofs.Common.{Bytes, Entry, Said, Expanded, position_after, LeavesSearch}
use Rattle.pg_sessions.proofs.Common.{lost_text}
use Rattle.pg_sessions.proofs.LossLaws.{told_append}
use Rattle.pg_sessions.proofs.Standing.{leaves-more, leaves-then}
use Rattle.pg_sessions.specs.Along.{IsAlong, IsReached, SaysAtLeast}
use Rattle.pg_sessions.specs.Known.{HaveNodes, IsKnownThere, IsSolvedBy}
use Rattle.pg_sessions.specs.Losses.{Loss, losses, losses_from}
use Rattle.pg_sessions.specs.Review.{IsDecided, IsGameAt, IsKnownBy, IsUntold, loss_texts}
use Rattle.pg_sessions.specs.declared.known.Known.{Known}

-- ---- the work

-- the game stands at a position after so many of the moves or fewer
abbrev pub IsAmong : Game → List ℕ → ℕ → Game → Type 0
IsAmong g moves most here =
    (made : ℕ) × (made ≤ most) × IsGameAt g (position_after g (take made moves)) here

module _ (g : Game) (moves : List ℕ) (positions : ℕ) where
  -- one position more was decided, or wasn't searched
  pub among-next : (k : ℕ) (next : Game) (first between after : Expanded)
      → IsGameAt g (position_after g (take (k + 1) moves)) next
      → LeavesSearch (IsAmong g moves k) positions first between
      → LeavesSearch (λ (here : Game). here ≡ next) positions between after
      → LeavesSearch (IsAmong g moves (k + 1)) positions first after
  among-next k next first between after stands before now =
      leaves-then (IsAmong g moves (k + 1)) positions first between after
      (leaves-more (IsAmong g moves k) (IsAmong g moves (k + 1)) positions first between
      (λ here one. let low = one.1 in (one.0, omega (arith, low), one.2)) before)
      (leaves-more (λ (here : Game). here ≡ next) (IsAmong g moves (k + 1)) positions between after
      (λ here same. (
        k + 1,
        omega arith,
        subst (λ (it : Game). IsGameAt g (position_after g (take (k + 1) moves)) it)
            (sym same) stands,
      )) now)

  -- the first position was decided
  pub among-first : (first after : Expanded) → IsGameAt g (start g) g
      → LeavesSearch (λ (here : Game). here ≡ g) positions first after
      → LeavesSearch (IsAmong g moves 0) positions first after
  among-first first after stands now = leaves-more (λ (here : Game). here ≡ g)
      (IsAmong g moves 0) positions first after (λ here same. (
        0,
        omega arith,
        subst (λ (it : Game). IsGameAt g (start g) it) (sym same) stands,
      )) now

  pub left-along : (most : ℕ) (first after : Expanded) → most ≤ length moves
      → LeavesSearch (IsAmong g moves most) positions first after
      → LeavesSearch (IsAlong g moves) positions first after
  left-along most first after few left = leaves-more (IsAmong g moves most)
      (IsAlong g moves) positions first after (λ here one. let low = one.1 in record {
        made = one.0;
        within = omega (arith, low, few);
        stands = one.2;
      }) left

-- ---- what was said

-- the losses of the first moves are said first
first-texts : (g : Game) (moves : List ℕ) (j : ℕ)
    → (rest : List Bytes) × (loss_texts g moves ≡ loss_texts g (take j moves) ++ rest)
first-texts g moves j =
    let text = λ (l : Loss). lost_text l.number l.point g.kind l.before l.after in
    let rest =
    losses_from g (position_after g (take j moves)) (0 + length (take j moves)) (drop j moves) in
    let whole : losses g (start g) moves ≡ losses g (start g) (take j moves) ++ rest =
    ap (losses g (start g)) (sym (take-append-drop j moves))
    ∙ told_append g (start g) (take j moves) (drop j moves) in
    (map text rest, ap (map text) whole ∙ map-append text (losses g (start g) (take j moves)) rest)

module _ (g : Game) (moves : List ℕ) (before after : ConsoleTold) where
  says-fewer : (j k : ℕ) (behind : List Bytes) → j ≤ k
      → Grows before.log after.log (map Said (loss_texts g (take k moves) ++ behind))
      → SaysAtLeast (loss_texts g (take j moves)) before after
  says-fewer j k behind low said =
      let first = first-texts g (take k moves) j in
      let shorter : take j (take k moves) ≡ take j moves = take-take j k moves low in
      let same : loss_texts g (take k moves) ≡ loss_texts g (take j moves) ++ first.0 =
      first.1 ∙ ap (λ (ms : List ℕ). loss_texts g ms ++ first.0) shorter in
      let whole : loss_texts g (take k moves) ++ behind
      ≡ loss_texts g (take j moves) ++ (first.0 ++ behind) =
      ap (λ (ts : List Bytes). ts ++ behind) same
      ∙ append_assoc (loss_texts g (take j moves)) first.0 behind in (
        map Said (first.0 ++ behind),
        subst (λ (es : List Entry). Grows before.log after.log es)
            (ap (map Said) whole
            ∙ map-append Said (loss_texts g (take j moves)) (first.0 ++ behind)) said,
      )

  -- before the position of the last search the losses of the moves that lead there were said
  pub in-time : (positions k most : ℕ) (behind : List Bytes) (first last : Expanded)
      → most ≤ k + 1 → most ≤ length moves
      → Grows before.log after.log (map Said (loss_texts g (take k moves) ++ behind))
      → LeavesSearch (IsAmong g moves most) positions first last
      → LeavesSearch (IsReached before after g moves) positions first last
  in-time positions k most behind first last near few said left = leaves-more (IsAmong g moves most)
      (IsReached before after g moves) positions first last (λ here one.
      let low = one.1 in
      record {
        along = record { made = one.0; within = omega (arith, low, few); stands = one.2 };
        said = says-fewer (one.0 - 1) k behind (omega (arith, low, near)) said;
      }) left

  -- the same where nothing was said behind them
  pub in-time-so-far : (positions k most : ℕ) (first last : Expanded)
      → most ≤ k + 1 → most ≤ length moves
      → Grows before.log after.log (map Said (loss_texts g (take k moves)))
      → LeavesSearch (IsAmong g moves most) positions first last
      → LeavesSearch (IsReached before after g moves) positions first last
  in-time-so-far positions k most first last near few said left =
      in-time positions k most [] first last near few
      (subst (λ (ts : List Bytes). Grows before.log after.log (map Said ts))
      (sym (append-nil (loss_texts g (take k moves)))) said) left

-- ---- what is decided

module _ (g : Game) (moves : List ℕ) (positions : ℕ) where
  -- what solving finds where the game stands
  pub known-here : (k : ℕ) (here : Game) (c : Cert)
      → IsGameAt g (position_after g (take k moves)) here → IsSolvedBy here positions c
      → IsKnownBy g moves positions k c
  known-here k here c stands solved = record {
    from = k;
    earlier = omega arith;
    here = here;
    stands = stands;
    solved = solved;
    shows = inl refl;
  }

  -- what is known after one move more
  pub known-next : (k : ℕ) (next : Game) (p : Position) (before now : Known)
      → IsGameAt g (position_after g (take (k + 1) moves)) next
      → p ≡ position_after g (take (k + 1) moves)
      → IsKnownBy g moves positions k before.certificate
      → IsKnownThere next positions p before now
      → IsKnownBy g moves positions (k + 1) now.certificate
  known-next k next p before now stands there known (inr solved) =
      known-here (k + 1) next now.certificate stands solved
  known-next k next p before now stands there known (inl (same, have)) =
      let low = known.earlier in
      subst (λ (it : Known). IsKnownBy g moves positions (k + 1) it.certificate) (sym same)
      (record {
        from = known.from;
        earlier = omega (arith, low);
        here = known.here;
        stands = known.stands;
        solved = known.solved;
        shows = inr (subst (λ (q : Position). HaveNodes q before.certificate) there have);
      })

  -- all positions up to one are decided
  pub decided-more : (k : ℕ) (c : Cert) → ((n : ℕ) → n < k → IsDecided g moves positions n)
      → IsKnownBy g moves positions k c → (n : ℕ) → n < k + 1 → IsDecided g moves positions n
  decided-more k c decided known n low =
      elim (cases_order n k) as (λ _. IsDecided g moves positions n) [
        | inl same ↦ subst (λ (m : ℕ). IsDecided g moves positions m) (sym same) (c, known)
        | inr apart ↦ elim apart as (λ _. IsDecided g moves positions n) [
          | inl below ↦ decided n below
          | inr above ↦ absurd (omega (arith, low, above))
        ]
      ]

  -- the certificate at hand doesn't tell the value after one move more
  pub untold-next : (k made : ℕ) (p : Position) (c : Cert)
      → made ≡ suc k
      → p ≡ position_after g (take made moves)
      → IsKnownBy g moves positions k c
      → (HaveNodes p c → ⊥)
      → IsUntold g moves positions made
  untold-next k made p c next there known none =
      let so : IsUntold g moves positions (suc k) = (
        c,
        known,
        λ have. none
            (subst (λ (q : Position). HaveNodes q c)
            (sym (there ∙ ap (λ (n : ℕ). position_after g (take n moves)) next)) have),
      ) in
      subst (λ (n : ℕ). IsUntold g moves positions n) (sym next) so
