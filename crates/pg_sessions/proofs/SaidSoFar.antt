-- What a review has said, move by move.
use Rattle.std.proofs.Common.{◌≡◌, ◌∙◌, ℕ, ◌+◌, ◌-◌, ◌<◌, ◌≤◌, Bool, true, false, List, [], ◌∷◌}
use Rattle.std.proofs.Common.{◌++◌, length, take, drop, get_or, map, Option, Ok, Err, refl, sym, ap}
use Rattle.std.proofs.Common.{subst, inl, inr, arith, if◌then◌else◌}
use Rattle.pg_sessions.proofs.Common.{length-take-le, map-append, take-append-drop, take_all}
use Rattle.pg_sessions.proofs.Common.{take_more, Kind, Score, Side, IsPosition-played}
use Rattle.pg_sessions.proofs.Common.{IsPosition-start, is_switching, field_points, after}
use Rattle.pg_sessions.proofs.Common.{point_count, start, IsPosition, IsLegalPlay, is_free, value}
use Rattle.pg_sessions.proofs.Common.{Field, Game, Position, ConsoleTold, Grows, Bytes, Entry, Said}
use Rattle.pg_sessions.proofs.Common.{Stop, Read, Write, Memory, Expanded, legal-first, played-more}
use Rattle.pg_sessions.proofs.Common.{position_after, budget, IsLeftOpen, talked_texts}
use Rattle.pg_sessions.proofs.Common.{Grows-nothing, Grows-then, Finished, Performs, SaysFirst}
use Rattle.pg_sessions.proofs.Common.{stop_end, Stopped, lost_text, reviewed_text, unknown_at_text}
use Rattle.pg_sessions.proofs.Common.{DONE, UNKNOWN}
use Rattle.pg_sessions.proofs.LossLaws.{told_append, told_more}
use Rattle.pg_sessions.proofs.Standing.{after-at, at-after, legal-at, start-at}
use Rattle.pg_sessions.specs.Losses.{Loss, loses_value, loss_at, losses, losses_from}
use Rattle.pg_sessions.specs.Review.{IsDecided, IsGameAt, IsUntold, ReviewsMoves, loss_texts}
use Rattle.pg_sessions.specs.Saying.{move_texts}

-- the texts of one loss, or of none
once-told : (kind : Kind) (b : Bool) (l : Loss)
    → map (λ (l : Loss). lost_text l.number l.point kind l.before l.after)
    (if b then l ∷ [] else [])
    ≡ (if b then lost_text l.number l.point kind l.before l.after ∷ [] else [])
once-told kind true l = refl
once-told kind false l = refl

-- texts were said, and then one
pub one-behind : (log mid after : Option (List Entry)) (texts : List Bytes) (text : Bytes)
    → Grows log mid (map Said texts) → Grows mid after (Said text ∷ [])
    → Grows log after (map Said (texts ++ text ∷ []))
one-behind log mid after texts text first last = subst (λ (es : List Entry). Grows log after es)
    (sym (map-append Said texts (text ∷ []))) (Grows-then log mid after _ _ first last)

module _ (g : Game) (moves : List ℕ) (legal : IsLegalPlay g (start g) moves) where
  -- the position after the first moves
  abbrev pub there : ℕ → Position
  there k = position_after g (take k moves)

  pub position-there : (k : ℕ) → IsPosition g (there k)
  position-there k = IsPosition-played g (start g) (take k moves) (IsPosition-start g)
      (legal-first g (start g) k moves legal)

  pub after-there : (k v : ℕ)
      → k < length moves
      → v ≡ get_or moves k 0
      → there (k + 1) ≡ after g (there k) v
  after-there k v low is =
      let more : take (k + 1) moves ≡ take k moves ++ v ∷ [] =
      take_more moves k 0 low ∙ ap (λ (u : ℕ). take k moves ++ u ∷ []) (sym is) in
      ap (position_after g) more ∙ played-more g (start g) (take k moves) v

  -- the texts of the losses of one move more
  pub texts-more : (k v : ℕ)
      → k < length moves
      → v ≡ get_or moves k 0
      → loss_texts g (take (k + 1) moves) ≡ loss_texts g (take k moves)
      ++ move_texts g.kind (there k).turn k v (value g (there k)) (value g (after g (there k) v))
  texts-more k v low is =
      let text = λ (l : Loss). lost_text l.number l.point g.kind l.before l.after in
      let first = losses g (start g) (take k moves) in
      let more : take (k + 1) moves ≡ take k moves ++ v ∷ [] =
      take_more moves k 0 low ∙ ap (λ (u : ℕ). take k moves ++ u ∷ []) (sym is) in
      let few : length (take k moves) ≡ k = length-take-le k moves (omega (arith, low)) in
      let listed : losses g (start g) (take (k + 1) moves) ≡ first ++ loss_at g (there k) k v =
      ap (losses g (start g)) more
      ∙ (told_more g (start g) (take k moves) v
      ∙ ap (λ (n : ℕ). first ++ loss_at g (there k) n v) few) in
      ap (map text) listed
      ∙ (map-append text first (loss_at g (there k) k v)
      ∙ ap (λ (ts : List Bytes). map text first ++ ts)
      (once-told g.kind (loses_value g (there k) v) (record {
        number = k;
        point = v;
        before = value g (there k);
        after = value g (after g (there k) v);
      })))

  -- the losses of the first moves are the first losses
  pub says-first : (k : ℕ) → SaysFirst (loss_texts g moves) (map Said (loss_texts g (take k moves)))
  says-first k =
      let text = λ (l : Loss). lost_text l.number l.point g.kind l.before l.after in
      let rest = losses_from g (there k) (0 + length (take k moves)) (drop k moves) in
      let whole : losses g (start g) moves ≡ losses g (start g) (take k moves) ++ rest =
      ap (losses g (start g)) (sym (take-append-drop k moves))
      ∙ told_append g (start g) (take k moves) (drop k moves) in (
        loss_texts g (take k moves),
        map text rest,
        ap (map text) whole ∙ map-append text (losses g (start g) (take k moves)) rest,
        refl,
      )

  module _ (positions : ℕ) (work : Expanded) (before after : ConsoleTold)
      (left : after.left ≡ before.left) where
    -- a call has failed or memory was wanting after the first losses were said
    pub cut-short : (k : ℕ) (stop : Stop)
        → Grows before.log after.log (map Said (loss_texts g (take k moves)))
        → Performs (λ _. ⊥) (ReviewsMoves g moves positions work) before after (Err (Stopped stop))
    cut-short k Read said = (
      map Said (loss_texts g (take k moves)),
      inr (says-first k),
      talked_texts (stop_end Read) before after (loss_texts g (take k moves)) said left,
    )
    cut-short k Write said = (
      map Said (loss_texts g (take k moves)),
      inr (says-first k),
      talked_texts (stop_end Write) before after (loss_texts g (take k moves)) said left,
    )
    cut-short k Memory said = (
      map Said (loss_texts g (take k moves)),
      inr (says-first k),
      talked_texts (stop_end Memory) before after (loss_texts g (take k moves)) said left,
    )

    -- a position stays open
    pub stays-open : (k made : ℕ) (here : Game) (count : ℕ) (mid : Option (List Entry))
        → k ≡ made - 1
        → made ≤ length moves
        → IsGameAt g (there made) here
        → is_switching here.kind ≡ false
        → ((n : ℕ) → n < made → IsDecided g moves positions n)
        → IsUntold g moves positions made
        → IsLeftOpen here (budget here positions) work
        → count ≡ budget here positions
        → Grows before.log mid (map Said (loss_texts g (take k moves)))
        → Grows mid after.log (Said (unknown_at_text made count) ∷ [])
        → Performs (λ _. ⊥) (ReviewsMoves g moves positions work) before after (Ok UNKNOWN)
    stays-open k made here count mid one within stands lines decided untold unsettled few first
        last =
        let texts = loss_texts g (take k moves) ++ unknown_at_text made count ∷ [] in
        let due =
        loss_texts g (take (made - 1) moves) ++ unknown_at_text made (budget here positions) ∷ [] in
        let same : texts ≡ due =
        ap (λ (n : ℕ). loss_texts g (take n moves) ++ unknown_at_text made count ∷ []) one
        ∙ ap (λ (n : ℕ). loss_texts g (take (made - 1) moves) ++ unknown_at_text made n ∷ []) few in
        let said : Grows before.log after.log (map Said due) =
        subst (λ (ts : List Bytes). Grows before.log after.log (map Said ts)) same
        (one-behind before.log mid after.log (loss_texts g (take k moves))
        (unknown_at_text made count) first last) in (
          map Said due,
          inr (record {
            on_lines = ap is_switching (sym stands.same_kind) ∙ lines;
            made = made;
            within = within;
            decided = decided;
            untold = untold;
            here = here;
            stands = stands;
            left_open = unsettled;
            said = refl;
            status_is = refl;
          }),
          talked_texts (Finished UNKNOWN) before after due said left,
        )

    -- all moves were reviewed
    pub reviewed : (k : ℕ) (mid : Option (List Entry))
        → k ≡ length moves
        → ((n : ℕ) → n ≤ length moves → IsDecided g moves positions n)
        → Grows before.log mid (map Said (loss_texts g (take k moves)))
        → Grows mid after.log (Said (reviewed_text k) ∷ [])
        → Performs (λ _. ⊥) (ReviewsMoves g moves positions work) before after (Ok DONE)
    reviewed k mid all decided first last =
        let whole : take k moves ≡ moves = take_all k moves (omega (arith, all)) in
        let due = loss_texts g moves ++ reviewed_text (length moves) ∷ [] in
        let same : loss_texts g (take k moves) ++ reviewed_text k ∷ [] ≡ due =
        ap (λ (ms : List ℕ). loss_texts g ms ++ reviewed_text k ∷ []) whole
        ∙ ap (λ (n : ℕ). loss_texts g moves ++ reviewed_text n ∷ []) all in
        let said : Grows before.log after.log (map Said due) =
        subst (λ (ts : List Bytes). Grows before.log after.log (map Said ts)) same
        (one-behind before.log mid after.log (loss_texts g (take k moves))
        (reviewed_text k) first last) in (
          map Said due,
          inl (record { decided = decided; said = refl; status_is = refl }),
          talked_texts (Finished DONE) before after due said left,
        )

  -- nothing is said before the first move
  pub none-yet : (log after : Option (List Entry))
      → after ≡ log
      → Grows log after (map Said (loss_texts g (take 0 moves)))
  unfolding losses
  none-yet log after same =
      subst (λ (l : Option (List Entry)). Grows log l []) (sym same) (Grows-nothing log)

  -- what is said of one move more
  pub said-more : (k v number : ℕ) (kind : Kind) (mover : Side) (old new : Score)
      (log mid end : Option (List Entry))
      → k < length moves
      → v ≡ get_or moves k 0
      → number ≡ k
      → kind ≡ g.kind
      → mover ≡ (there k).turn
      → old ≡ value g (there k)
      → new ≡ value g (there (k + 1))
      → Grows log mid (map Said (loss_texts g (take k moves)))
      → Grows mid end (map Said (move_texts kind mover number v old new))
      → Grows log end (map Said (loss_texts g (take (k + 1) moves)))
  said-more k v number kind mover old new log mid end low is same_number same_kind same_mover was
      now first last =
      let next : new ≡ value g (after g (there k) v) =
      now ∙ ap (value g) (after-there k v low is) in
      let due =
      move_texts g.kind (there k).turn k v (value g (there k)) (value g (after g (there k) v)) in
      let same : move_texts kind mover number v old new ≡ due =
      rw (same_number, same_kind, same_mover, was, next) refl in
      let both = Grows-then log mid end _ _ first
      (subst (λ (ts : List Bytes). Grows mid end (map Said ts)) same last) in
      subst (λ (es : List Entry). Grows log end es)
      (sym (map-append Said (loss_texts g (take k moves)) due)
      ∙ ap (map Said) (sym (texts-more k v low is))) both

  -- where the game stands after one move more
  pub stands-more : (k : ℕ) (here next : Game)
      → k < length moves
      → g.bias ≡ 1
      → IsGameAt g (there k) here
      → IsGameAt here (after here (start here) (get_or moves k 0)) next
      → IsGameAt g (there (k + 1)) next
  stands-more k here next low one stands moved =
      subst (λ (p : Position). IsGameAt g p next) (sym (after-there k (get_or moves k 0) low refl))
      (at-after g here next (there k) (get_or moves k 0) stands (position-there k) one moved)

  -- a move where the game stands leads to the position after one move more
  pub goes-on : (k v : ℕ) (here : Game) → k < length moves → v ≡ get_or moves k 0 → g.bias ≡ 1
      → IsGameAt g (there k) here → after here (start here) v ≡ there (k + 1)
  goes-on k v here low is one stands =
      after-at g here (there k) v stands (position-there k) one ∙ sym (after-there k v low is)

  -- the move may be played where the game stands
  pub may-play : (k : ℕ) (here : Game)
      → k < length moves
      → g.bias ≡ 1
      → IsGameAt g (there k) here
      → (get_or moves k 0 < point_count here) × (is_free (start here) (get_or moves k 0) ≡ true)
  may-play k here low one stands =
      let may = legal-at g (start g) moves k legal low in (
        subst (λ (f : Field). get_or moves k 0 < field_points f) (sym stands.same_field) may.0,
        subst (λ (p : Position). is_free p (get_or moves k 0) ≡ true)
            (sym (start-at g here (there k) stands (position-there k) one)) may.1,
      )

-- a log that didn't change
pub still : (log mid after : Option (List Entry)) (entries : List Entry)
    → Grows log mid entries
    → after ≡ mid
    → Grows log after entries
still log mid after entries grows same =
    subst (λ (l : Option (List Entry)). Grows log l entries) (sym same) grows

-- a game has the marks of its own position
pub at-start : (g : Game) → IsGameAt g (start g) g
at-start g = record {
  same_kind = refl;
  same_field = refl;
  same_x = refl;
  same_y = refl;
  same_turn = refl;
  same_bias = refl;
}
