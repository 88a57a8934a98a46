use Rattle.std.proofs.Common.{◌≡◌, ◌∙◌, ◌++◌, ◌∷◌, [], ℕ, Bool, true, not}
use Rattle.std.proofs.Common.{List, Some, refl, sym, ap, subst, slice_get}
use Rattle.std.proofs.lemmas.Bool.{not-false, not-true}
use Rattle.std.specs.Prelude.{if◌then◌else◌}
use Rattle.pg_game.proofs.Members.{list_any-one}
use Rattle.pg_met.proofs.Common.{Position, cond-false, cond-true, false≢true, list_any, at_contains}
use Rattle.pg_met.proofs.Common.{equal_positions, equal_positions-decides}
use Rattle.pg_met.specs.Met.{IsMeeting}
use Rattle.pg_met.specs.MetList.{MetList}
use Rattle.pg_met.proofs.met.Met.meet.Goals as goal

-- the list after an insertion
inserted : (q : Position) (old new : List Position) (place : ℕ) (b : Bool)
    → b ≡ not (list_any (equal_positions q) old)
    → new ≡ (if list_any (equal_positions q) old then old else old ++ q ∷ [])
    → ((k : Position) × (slice_get new place ≡ Some k) × (equal_positions q k ≡ true))
    → IsMeeting q old new place b
inserted q old new place b added keys stored = record {
  at = stored.1 ∙ ap Some (sym ((equal_positions-decides q stored.0).0 stored.2));
  known = λ off. keys ∙ cond-true _ _ _ (not-false _ (sym added ∙ off));
  added = λ on. keys ∙ cond-false _ _ _ (not-true _ (sym added ∙ on));
  fresh = λ on k was. absurd (false≢true (sym (not-true _ (sym added ∙ on))
      ∙ list_any-one (equal_positions q) old q (at_contains old k q was)
      ((equal_positions-decides q q).1 refl)));
}

pub returns : goal.returns
returns c = subst (λ (m : MetList). IsMeeting c.args.q m.items c.insert_full.new.self.keys
    c.in_ok-place.place c.in_ok-place.is_new) c.self.view_is
    (inserted c.args.q c.self.inside.members.keys c.insert_full.new.self.keys
    c.in_ok-place.place c.in_ok-place.is_new c.in_ok-place.ensures.added
    c.in_ok-place.ensures.keys c.in_ok-place.ensures.stored)
