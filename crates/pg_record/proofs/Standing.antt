-- Events one by one: what stands, and that it is a legal play.
use Rattle.std.proofs.Common.{◌≡◌, ◌∙◌, ℕ, zero, suc, ◌+◌, ◌-◌, ◌<◌, ◌≤◌, Bool, true, false, cond}
use Rattle.std.proofs.Common.{List, [], ◌∷◌, ◌++◌, length, take, get_or, refl, ap, arith, Ok, Err}
use Rattle.std.proofs.Common.{is_ok}
use Rattle.std.specs.Prelude.{nat_lt}
use Rattle.pg_record.proofs.Common.{ltb-true, length_push, length-take-le, take_at, Game, Position}
use Rattle.pg_record.proofs.Common.{Range, Taken, Over, point_count, after, start, IsPosition}
use Rattle.pg_record.proofs.Common.{IsLegalPlay, played, IsPosition-start, IsPosition-played}
use Rattle.pg_game.specs.Position.{is_free}
use Rattle.pg_game.specs.Game.{is_over}
use Rattle.pg_record.specs.declared.event.Event.{Event}
use Rattle.pg_record.specs.declared.event.Event.TheVariants.{Play, Back}
use Rattle.pg_record.specs.Replay.{with_event, standing_after, standing, position_after, MayFollow}
use Rattle.pg_record.specs.Replay.{AreAllowed, IsRecord}

-- ---- one event more

pub standing-append : (moves : List ℕ) (es fs : List Event)
    → standing_after moves (es ++ fs) ≡ standing_after (standing_after moves es) fs
standing-append moves [] fs = refl
standing-append moves (e ∷ es) fs = standing-append (with_event moves e) es fs

pub standing-more : (es : List Event) (e : Event)
    → standing (es ++ e ∷ []) ≡ with_event (standing es) e
unfolding standing
standing-more es e = standing-append [] es (e ∷ [])

pub allowed-more : (g : Game) (moves : List ℕ) (es : List Event) (e : Event)
    → AreAllowed g moves es
    → MayFollow g (standing_after moves es) e
    → AreAllowed g moves (es ++ e ∷ [])
allowed-more g moves [] e h last = (last, tt)
allowed-more g moves (d ∷ es) e h last = (h.0, allowed-more g (with_event moves d) es e h.1 last)

-- an event adds a move at most
one-more : (moves : List ℕ) (e : Event) → length (with_event moves e) ≤ length moves + 1
one-more moves (Play v) = omega (arith, length_push moves v)
one-more moves Back = omega (arith, length-take-le (length moves - 1) moves (omega arith))

few_after : (moves : List ℕ) (es : List Event)
    → length (standing_after moves es) ≤ length moves + length es
few_after moves [] = omega arith
few_after moves (e ∷ es) = omega (arith, one-more moves e, few_after (with_event moves e) es)

pub few-standing : (es : List Event) → length (standing es) ≤ length es
unfolding standing
few-standing es = omega (arith, few_after [] es)

-- ---- legal plays

pub legal-more : (g : Game) (p : Position) (moves : List ℕ) (v : ℕ)
    → IsLegalPlay g p moves
    → is_over g (played g p moves) ≡ false
    → v < point_count g
    → is_free (played g p moves) v ≡ true
    → IsLegalPlay g p (moves ++ v ∷ [])
legal-more g p [] v h going within free = (going, within, free, tt)
legal-more g p (u ∷ moves) v h going within free =
    (h.0, h.1, h.2, legal-more g (after g p u) moves v h.3 going within free)

pub played-more : (g : Game) (p : Position) (moves : List ℕ) (v : ℕ)
    → played g p (moves ++ v ∷ []) ≡ after g (played g p moves) v
played-more g p [] v = refl
played-more g p (u ∷ moves) v = played-more g (after g p u) moves v

pub legal-first : (g : Game) (p : Position) (n : ℕ) (moves : List ℕ)
    → IsLegalPlay g p moves
    → IsLegalPlay g p (take n moves)
legal-first g p zero moves h = tt
legal-first g p (suc n) [] h = tt
legal-first g p (suc n) (v ∷ moves) h = (h.0, h.1, h.2, legal-first g (after g p v) n moves h.3)

-- what a move that isn't refused is
accepted : (within over free : Bool) (p : Position)
    → is_ok (cond within (cond over (Err Over) (cond free (Ok p) (Err Taken))) (Err Range)) ≡ true
    → (within ≡ true) × (over ≡ false) × (free ≡ true)
accepted false over free p e = absurd cc
accepted true true free p e = absurd cc
accepted true false false p e = absurd cc
accepted true false true p e = (refl, refl, refl)

-- an event keeps the play legal
legal-event : (g : Game) (moves : List ℕ) (e : Event)
    → MayFollow g moves e
    → IsLegalPlay g (start g) moves
    → IsLegalPlay g (start g) (with_event moves e)
legal-event g moves (Play v) may legal =
    let p = position_after g moves in
    let parts = accepted (nat_lt v (point_count g)) (is_over g p) (is_free p v) (after g p v) may in
    legal-more g (start g) moves v legal parts.1 (ltb-true v (point_count g) parts.0) parts.2
legal-event g moves Back may legal = legal-first g (start g) (length moves - 1) moves legal

legal_after : (g : Game) (moves : List ℕ) (es : List Event)
    → AreAllowed g moves es
    → IsLegalPlay g (start g) moves
    → IsLegalPlay g (start g) (standing_after moves es)
legal_after g moves [] h legal = legal
legal_after g moves (e ∷ es) h legal =
    legal_after g (with_event moves e) es h.1 (legal-event g moves e h.0 legal)

pub legal-standing : (g : Game) (es : List Event)
    → IsRecord g es
    → IsLegalPlay g (start g) (standing es)
unfolding standing
legal-standing g es h = legal_after g [] es h.allowed tt

pub position-standing : (g : Game) (es : List Event)
    → IsRecord g es
    → IsPosition g (position_after g (standing es))
position-standing g es h =
    IsPosition-played g (start g) (standing es) (IsPosition-start g) (legal-standing g es h)

-- the points of a legal play are the game's
pub legal-point : (g : Game) (p : Position) (moves : List ℕ) (i : ℕ)
    → IsLegalPlay g p moves
    → i < length moves
    → get_or moves i 0 < point_count g
legal-point g p [] i h low = absurd (omega (arith, low))
legal-point g p (v ∷ moves) zero h low = h.1
legal-point g p (v ∷ moves) (suc i) h low =
    legal-point g (after g p v) moves i h.3 (omega (arith, low))

-- a record with one event more
pub record-more : (g : Game) (es : List Event) (e : Event)
    → IsRecord g es
    → length es < 10000
    → MayFollow g (standing es) e
    → IsRecord g (es ++ e ∷ [])
unfolding standing
record-more g es e h few may = record {
  allowed = allowed-more g [] es e h.allowed may;
  few = omega (arith, length_push es e, few);
}

-- ---- undoing

-- the list without its last member, where that was added
pub without-last : (moves : List ℕ) (v : ℕ)
    → take (length (moves ++ v ∷ []) - 1) (moves ++ v ∷ []) ≡ moves
without-last moves v =
    take_at moves (v ∷ []) (length (moves ++ v ∷ []) - 1) (omega (arith, length_push moves v))

pub back-undoes : (before since : List Event) (v : ℕ)
    → standing (before ++ Play v ∷ since) ≡ standing (before ++ Play v ∷ [])
    → standing ((before ++ Play v ∷ since) ++ Back ∷ []) ≡ standing before
back-undoes before since v same =
    standing-more (before ++ Play v ∷ since) Back
    ∙ ap (λ (ms : List ℕ). take (length ms - 1) ms) (same ∙ standing-more before (Play v))
    ∙ without-last (standing before) v
