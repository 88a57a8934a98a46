use Rattle.std.proofs.Common.{◌≡◌, ◌∙◌, ◌++◌, [], ◌∷◌, ℕ, List, length, true, is_ok, ap, sym, subst}
use Rattle.std.proofs.Common.{arith, rules}
use Rattle.pg_record.proofs.Common.{vec_len, start, judged_move, IsLegalPlay}
use Rattle.pg_record.specs.Replay.{position_after}
use Rattle.pg_record.specs.Session.{IsTableAfter}
use Rattle.pg_record.proofs.Sessions.{not-refused, session-play}
use Rattle.pg_record.proofs.Standing.{few-standing, legal-standing}
use Rattle.pg_record.proofs.session.Session.play.Goals as goal

pub play-requires-clause-legal : goal.play-requires-clause-legal
play-requires-clause-legal c =
    let g = c.self.inside.game.now in
    subst (λ (ms : List ℕ). IsLegalPlay g (start g) ms)
    (sym (c.as_slice.ensures.value ∙ c.self.invariant.same))
    (legal-standing g c.self.inside.events.items c.self.invariant.legal)

pub unreachable-requires : goal.unreachable-requires
unreachable-requires c =
    let len : vec_len c.self.inside.moves ≡ length c.self.inside.moves.items = search rules in
    omega (
      arith,
      c.in_default.ensures.full,
      c.self.invariant.moves_fit,
      len,
      ap (λ (ms : List ℕ). length ms) c.self.invariant.same,
      few-standing c.self.inside.events.items,
      c.requires,
      ap (λ s. length s.events) c.self.view_is,
    )

pub invariant_of-self-2 : goal.invariant_of-self-2
invariant_of-self-2 c =
    let g = c.self.inside.game.now in
    let legal : is_ok (judged_move g (position_after g c.self.inside.moves.items) c.args.v) ≡ true =
    subst (λ (ms : List ℕ). is_ok (judged_move g (position_after g ms) c.args.v) ≡ true)
    c.as_slice.ensures.value
    (not-refused (judged_move g (position_after g c.as_slice.result.now) c.args.v)
    c.in_ok-play.ensures.result) in
    let fits : IsTableAfter g (c.self.inside.moves.items ++ c.args.v ∷ []) c.play.new.self =
    subst (λ (ms : List ℕ). IsTableAfter g (ms ++ c.args.v ∷ []) c.play.new.self)
    c.as_slice.ensures.value c.in_ok-play.ensures.played in
    session-play g c.self.inside.events.items c.push-2.new.self.items c.self.inside.moves.items
    c.push.new.self.items c.self.inside.table c.play.new.self _ _ _ _ c.args.v c.self.invariant
    (omega (arith, c.requires, ap (λ s. length s.events) c.self.view_is)) legal
    c.in-Ok-push.ensures.items c.in-Ok.ensures.items fits (omega (arith, c.push-2.ensures.capacity))
    (omega (arith, c.push.ensures.capacity))
