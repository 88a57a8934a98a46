use Rattle.std.proofs.Common.{◌≡◌, ℕ, List, length, ap, arith, rules}
use Rattle.std.specs.Vec.{vec_len}
use Rattle.pg_record.proofs.Standing.{few-standing}
use Rattle.pg_record.proofs.session.Session.standing.Goals as goal

pub overflow_cast-result : goal.overflow_cast-result
overflow_cast-result c =
    let len : vec_len c.self.inside.moves ≡ length c.self.inside.moves.items = search rules in
    omega (
      arith,
      c.len.ensures,
      len,
      ap (λ (ms : List ℕ). length ms) c.self.invariant.same,
      few-standing c.self.inside.events.items,
      c.self.invariant.legal.few,
    )
