use Rattle.std.proofs.Common.{inl}
use Rattle.pg_computer.proofs.Parts.{versus_allows}
use Rattle.pg_computer.proofs.moving.OpponentBout.tell.Goals as goal

pub returns-in_ok-text-clause-prints : goal.returns-in_ok-text-clause-prints
returns-in_ok-text-clause-prints g c =
    let takes = rw c.is_own.ensures.kept at c.in_ok-text.ensures.takes in
    λ heard. inl (takes heard)

pub returns-in_ok-text-clause-allows : goal.returns-in_ok-text-clause-allows
returns-in_ok-text-clause-allows g c =
    let it = c.args.self.now in
    let grows = rw c.is_own.ensures.kept at c.in_ok-text.ensures.grows in
    versus_allows (g.S.Finder.brings c.take_own.new.finder) (g.S.Finder.brings it.finder.now)
    it.budget it.table.look it.side it.table.game.now c.in_ok-text.ensures.same
    c.take_own.new.table.look c.take_own.new.table.game.now grows.1 grows.0
