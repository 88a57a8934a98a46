use Rattle.std.proofs.Common.{◌≡◌, ◌∙◌, ℕ, ◌-◌, ◌<◌, List, length, take, ap, subst, arith, rules}
use Rattle.pg_record.proofs.Common.{vec_len, nat_tests}
use Rattle.pg_record.specs.Session.{IsTableAfter}
use Rattle.pg_record.proofs.Sessions.{session-back}
use Rattle.pg_record.proofs.session.Session.back.Goals as goal

pub invariant_of-self : goal.invariant_of-self
invariant_of-self c =
    let len : vec_len c.self.inside.moves ≡ length c.self.inside.moves.items = search rules in
    let some : 0 < length c.self.inside.moves.items =
    grind (arith, nat_tests, len, c.is_empty.ensures, c.if-is_empty.false) in
    let fewer : c.truncate.new.self.items
    ≡ take (length c.self.inside.moves.items - 1) c.self.inside.moves.items =
    c.truncate.ensures.items
    ∙ ap (λ n. take (n - 1) c.self.inside.moves.items) (c.len.ensures ∙ len) in
    let fits : IsTableAfter c.self.inside.game.now
    (take (length c.self.inside.moves.items - 1) c.self.inside.moves.items) c.undo.new.self = subst
    (λ (ms : List ℕ). IsTableAfter c.self.inside.game.now (take (length ms - 1) ms) c.undo.new.self)
    c.as_slice.ensures.value c.undo.ensures in
    session-back c.self.inside.game.now c.self.inside.events.items c.push.new.self.items
    c.self.inside.moves.items c.truncate.new.self.items c.self.inside.table c.undo.new.self _ _ _ _
    c.self.invariant (omega (arith, c.requires, ap (λ s. length s.events) c.self.view_is)) some
    c.in-Ok.ensures.items fewer fits (omega (arith, c.push.ensures.capacity))
    (omega (arith, c.truncate.ensures.capacity))
