-- What a session keeps when it is opened, and after each event.
use Rattle.std.proofs.Common.{◌≡◌, ◌∙◌, ℕ, ◌-◌, ◌<◌, ◌≤◌, true, List, [], ◌∷◌, ◌++◌, length, take}
use Rattle.std.proofs.Common.{refl, sym, ap, subst, arith, is_ok, Result, Ok, Err}
use Rattle.pg_record.proofs.Common.{Game, Position, Illegal, judged_move}
use Rattle.pg_record.specs.declared.event.Event.{Event}
use Rattle.pg_record.specs.declared.event.Event.TheVariants.{Play, Back}
use Rattle.pg_record.specs.declared.table.Table.{Table}
use Rattle.pg_record.specs.Replay.{position_after, standing}
use Rattle.pg_record.specs.Session.{refusal_of, IsTableAfter, IsSession}
use Rattle.pg_record.proofs.Standing.{standing-more, record-more}

none-stands : standing [] ≡ []
unfolding standing
none-stands = refl

pub session-open : (g : Game) (events : List Event) (moves : List ℕ) (t : Table)
    (event_room move_room : ℕ)
    → events ≡ []
    → moves ≡ []
    → IsTableAfter g [] t
    → 10000 ≤ event_room
    → 10000 ≤ move_room
    → IsSession g events moves t event_room move_room
session-open g events moves t event_room move_room no_events no_moves fits events_fit moves_fit =
    let stands : standing events ≡ [] = ap standing no_events ∙ none-stands in
    record {
      legal = rw no_events (record { allowed = tt; few = omega arith });
      same = no_moves ∙ sym stands;
      fits = rw stands fits;
      events_fit = events_fit;
      moves_fit = moves_fit;
    }

-- a move that wasn't refused
pub not-refused : (r : Result Position Illegal) → Ok tt ≡ refusal_of r → is_ok r ≡ true
not-refused (Ok p) e = refl
not-refused (Err why) e = absurd cc

module _ (g : Game) (events next_events : List Event) (moves next_moves : List ℕ) (t next : Table)
    (event_room move_room next_event_room next_move_room : ℕ) where
  pub session-play : (v : ℕ)
      → IsSession g events moves t event_room move_room
      → length events < 10000
      → is_ok (judged_move g (position_after g moves) v) ≡ true
      → next_events ≡ events ++ Play v ∷ []
      → next_moves ≡ moves ++ v ∷ []
      → IsTableAfter g (moves ++ v ∷ []) next
      → event_room ≤ next_event_room
      → move_room ≤ next_move_room
      → IsSession g next_events next_moves next next_event_room next_move_room
  session-play v h room legal more_events more_moves fits event_grows move_grows =
      let stands : standing next_events ≡ moves ++ v ∷ [] = ap standing more_events
      ∙ (standing-more events (Play v) ∙ ap (λ (ms : List ℕ). ms ++ v ∷ []) (sym h.same)) in
      let may : is_ok (judged_move g (position_after g (standing events)) v) ≡ true =
      subst (λ (ms : List ℕ). is_ok (judged_move g (position_after g ms) v) ≡ true) h.same legal in
      record {
        legal = rw more_events (record-more g events (Play v) h.legal room may);
        same = more_moves ∙ sym stands;
        fits = rw stands fits;
        events_fit = omega (arith, h.events_fit, event_grows);
        moves_fit = omega (arith, h.moves_fit, move_grows);
      }

  pub session-back : IsSession g events moves t event_room move_room
      → length events < 10000
      → 0 < length moves
      → next_events ≡ events ++ Back ∷ []
      → next_moves ≡ take (length moves - 1) moves
      → IsTableAfter g (take (length moves - 1) moves) next
      → event_room ≤ next_event_room
      → move_room ≤ next_move_room
      → IsSession g next_events next_moves next next_event_room next_move_room
  session-back h room some more_events fewer_moves fits event_grows move_grows =
      let stands : standing next_events ≡ take (length moves - 1) moves = ap standing more_events
      ∙ (standing-more events Back ∙ ap (λ (ms : List ℕ). take (length ms - 1) ms) (sym h.same)) in
      let may : 0 < length (standing events) = subst (λ (ms : List ℕ). 0 < length ms) h.same some in
      record {
        legal = rw more_events (record-more g events Back h.legal room may);
        same = fewer_moves ∙ sym stands;
        fits = rw stands fits;
        events_fit = omega (arith, h.events_fit, event_grows);
        moves_fit = omega (arith, h.moves_fit, move_grows);
      }
