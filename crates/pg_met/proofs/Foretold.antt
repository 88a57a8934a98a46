-- What the weights of an expansion tell of the positions after it.
use Rattle.std.specs.Prelude.{Option, Some, None}
use Rattle.std.proofs.Common.{◌≡◌, ◌≢◌, ◌<◌, ◌∙◌, ℕ, Bool, true, false, sym, subst}
use Rattle.pg_met.proofs.Common.{Body, Game, IsPosition, Position, Score, Threat, View, after}
use Rattle.pg_met.proofs.Common.{answer_for, is_free, is_over, point_count}
use Rattle.pg_met.specs.Prelude.{Cache, IsQuestion, Switching}
use Rattle.pg_met.specs.declared.table.Expansion.{Expansion}
use Rattle.pg_met.specs.Met.{IsLeafOf}
use Rattle.pg_met.specs.Reading.{IsExpansion, IsMoveAt}
use Rattle.pg_leaf.specs.Ahead.{IsAhead, IsKnownAt, IsMoveOf, IsTold}
use Rattle.pg_leaf.proofs.Foreseeing.{known-after}
use Rattle.pg_leaf.specs.declared.ahead.Told.{Told}
use Rattle.pg_leaf.specs.declared.ahead.Told.TheVariants.{Attack, Open, Decided}
use Rattle.pg_threat.specs.Search.{points_of_line}
use Rattle.pg_threat.specs.declared.line.ThreatLine.{ThreatLine}
use Rattle.pg_threat.proofs.Boards.{at_same}

module _ (g : Game) (t : Score) (e : Expansion) (b : View) (cache : Cache)
    (x : IsExpansion g t e b cache) where
  -- a move of the position that is expanded is one of the board's
  pub expansion-move : (v : ℕ) (q : Position)
      → IsMoveAt g e.position v
      → q ≡ after g e.position v
      → IsMoveOf b q v
  expansion-move v q moves leads =
      let games : b.game ≡ g = x.reads.stands.game in
      let places : b.stand.position ≡ e.position = x.reads.stands.position in
      record {
        lines = subst (λ (h : Game). h.kind ≢ Switching) (sym games) x.reads.asked.lines;
        position = at_same IsPosition g b.game e.position b.stand.position games places
            x.reads.position;
        going = at_same (λ h r. is_over h r ≡ false) g b.game e.position b.stand.position games
            places x.going;
        range = subst (λ (h : Game). v < point_count h) (sym games) moves.point;
        free = subst (λ (r : Position). is_free r v ≡ true) (sym places) moves.free;
        leads = leads ∙ sym (λ i. after (games i) (places i) v);
      }

  -- what is known of the next side's threat lines is so after the move
  pub known-move : (v : ℕ) (q : Position)
      → IsMoveAt g e.position v
      → q ≡ after g e.position v
      → IsKnownAt g q e.ahead.next
  known-move v q moves leads = subst (λ (h : Game). IsKnownAt h q e.ahead.next)
      x.reads.stands.game
      (known-after b q v (expansion-move v q moves leads) e.ahead.next x.ahead.next)

  -- what is told is so in the game that is asked about
  pub told-at : (q : Position) (told : Told)
      → ((s : Score) → IsQuestion b.game.kind s → IsAhead s b e.ahead → IsTold b.game s q told)
      → IsTold g t q told
  told-at q told h =
      let games : b.game ≡ g = x.reads.stands.game in
      subst (λ (k : Game). IsTold k t q told) games
      (h t (subst (λ (k : Game). IsQuestion k.kind t) (sym games) x.reads.asked.question) x.ahead)

  -- as a leaf
  pub open-leaf : (q : Position) (told : Told)
      → told ≡ Open
      → IsTold g t q told
      → IsLeafOf g t q None
  open-leaf q told is h =
      let none = subst (λ (k : Told). IsTold g t q k) is h in
      record { answer = sym none; body = tt }

  pub decided-leaf : (q : Position) (told : Told) (answer : Bool) (body : Body)
      → told ≡ Decided answer body
      → IsTold g t q told
      → IsLeafOf g t q (Some (answer, body))
  decided-leaf q told answer body is h =
      let some = subst (λ (k : Told). IsTold g t q k) is h in
      record { answer = sym some.0; body = some.1 }

  pub attack-leaf : (q : Position) (told : Told) (line : ThreatLine) (found : Option (Bool × Body))
      → told ≡ Attack line
      → found ≡ Some (answer_for q.turn, Threat (points_of_line line))
      → IsTold g t q told
      → IsLeafOf g t q found
  attack-leaf q told line found is same h =
      let some = subst (λ (k : Told). IsTold g t q k) is h in
      subst (λ (f : Option (Bool × Body)). IsLeafOf g t q f) (sym same)
      (record { answer = sym some.0; body = some.1 })
