use Rattle.std.proofs.Common.{◌≡◌, ◌∙◌, ℕ, List, ap, sym, subst}
use Rattle.pg_record.proofs.Common.{Position, start, IsPosition, IsLegalPlay}
use Rattle.pg_record.specs.Replay.{position_after, standing}
use Rattle.pg_record.proofs.Standing.{legal-standing, position-standing}
use Rattle.pg_record.proofs.session.Session.position.Goals as goal

pub position-requires-clause-legal : goal.position-requires-clause-legal
position-requires-clause-legal c =
    let g = c.self.inside.game.now in
    subst (λ (ms : List ℕ). IsLegalPlay g (start g) ms)
    (sym (c.as_slice.ensures.value ∙ c.self.invariant.same))
    (legal-standing g c.self.inside.events.items c.self.invariant.legal)

pub returns-clause-fits : goal.returns-clause-fits
returns-clause-fits c =
    let g = c.self.inside.game.now in
    let now : c.position.result ≡ position_after g (standing c.self.inside.events.items) =
    c.position.ensures ∙ ap (position_after g) (c.as_slice.ensures.value ∙ c.self.invariant.same) in
    subst (λ s. IsPosition s.game c.position.result) c.self.view_is
    (subst (λ (p : Position). IsPosition g p) (sym now)
    (position-standing g c.self.inside.events.items c.self.invariant.legal))

pub returns-clause-legal : goal.returns-clause-legal
returns-clause-legal c =
    subst (λ s. IsLegalPlay s.game (start s.game) (standing s.events)) c.self.view_is
    (legal-standing c.self.inside.game.now c.self.inside.events.items c.self.invariant.legal)
