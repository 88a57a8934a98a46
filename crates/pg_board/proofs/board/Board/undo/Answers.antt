use Rattle.std.proofs.Common.{◌≡◌, ℕ, ◌+◌, ◌≤◌, List, [], ◌∷◌, ◌++◌, length, reverse, arith, rules}
use Rattle.std.proofs.Common.{ap, ◌∙◌, sym, subst}
use Rattle.pg_board.proofs.Common.{reverse-append, length-reverse, vec_len, vec_capacity, present}
use Rattle.pg_board.proofs.Common.{Cells}
use Rattle.pg_board.specs.Fits.{Rules, AreFit, stand_of, earlier_of}
use Rattle.pg_board.proofs.Fitting.{fit-first, fit-played, fit-before}
use Rattle.pg_board.proofs.Earlier.{earlier-more, length-earlier}
use Rattle.pg_board.proofs.board.Board.undo.Goals as goal

pub unreachable-requires : goal.unreachable-requires
unreachable-requires c =
    let len : vec_len c.self.inside.plays ≡ length c.self.inside.plays.items = search rules in
    let none : vec_len c.self.inside.plays ≡ 0 = c.in_default.ensures.cases.0 in
    let earlier =
    length-earlier c.self.inside.layout c.self.inside.trail (reverse c.self.inside.plays.items) in
    let same = length-reverse c.self.inside.plays.items in
    let seen : length c.args.self.now.earlier ≡ length (reverse c.self.inside.plays.items) =
    ap (λ v. length v.earlier) (sym c.self.view_is) ∙ earlier in
    omega (arith, c.requires)

pub undo_play-requires : goal.undo_play-requires
undo_play-requires c =
    let r : Rules = record { bias = c.self.inside.game.now.bias; shape = c.self.inside.layout } in
    let items : c.self.inside.plays.items ≡ c.pop.new.self.items ++ c.in-Some.play ∷ [] =
    c.in-Some.ensures.items in
    let was : reverse c.self.inside.plays.items ≡ c.in-Some.play ∷ reverse c.pop.new.self.items =
    ap reverse items ∙ reverse-append c.pop.new.self.items (c.in-Some.play ∷ []) in
    let fit : AreFit r c.self.inside.trail c.self.inside.rings.live_x c.self.inside.rings.live_y
    c.self.inside.rings.free (c.in-Some.play ∷ reverse c.pop.new.self.items) = subst
    (AreFit r c.self.inside.trail c.self.inside.rings.live_x c.self.inside.rings.live_y
    c.self.inside.rings.free) was c.self.invariant.fit in
    record {
      played = fit-played r _ _ _ _ c.in-Some.play _ fit;
      before = fit-first r _ _ _ _ _ (fit-before r _ _ _ _ c.in-Some.play _ fit);
    }

pub invariant_of-self : goal.invariant_of-self
invariant_of-self c =
    let r : Rules = record { bias = c.self.inside.game.now.bias; shape = c.self.inside.layout } in
    let items : c.self.inside.plays.items ≡ c.pop.new.self.items ++ c.in-Some.play ∷ [] =
    c.in-Some.ensures.items in
    let was : reverse c.self.inside.plays.items ≡ c.in-Some.play ∷ reverse c.pop.new.self.items =
    ap reverse items ∙ reverse-append c.pop.new.self.items (c.in-Some.play ∷ []) in
    let fit : AreFit r c.self.inside.trail c.self.inside.rings.live_x c.self.inside.rings.live_y
    c.self.inside.rings.free (c.in-Some.play ∷ reverse c.pop.new.self.items) = subst
    (AreFit r c.self.inside.trail c.self.inside.rings.live_x c.self.inside.rings.live_y
    c.self.inside.rings.free) was c.self.invariant.fit in
    let played = fit-played r _ _ _ _ c.in-Some.play _ fit in
    let back = c.undo_play.ensures in
    let more : length (present c.undo_play.new.rings.free)
    ≡ length (present c.self.inside.rings.free) + 1 =
    ap (λ (ls : List (List ℕ)). length (present ls)) back.free ∙ played.one_more in
    let room : length (reverse c.self.inside.plays.items)
    + length (present c.self.inside.rings.free) ≤ vec_capacity c.self.inside.plays =
    c.self.invariant.places in
    record {
      has_lines = c.self.invariant.has_lines;
      layout = c.self.invariant.layout;
      fit = rw (back.trail, back.live_x, back.live_y, back.free)
          (fit-before r _ _ _ _ c.in-Some.play (reverse c.pop.new.self.items) fit);
      places = (let lengths = ap length was in omega (arith, room, c.pop.ensures.capacity));
    }

pub returns-clause-earlier : goal.returns-clause-earlier
returns-clause-earlier c =
    let items : c.self.inside.plays.items ≡ c.pop.new.self.items ++ c.in-Some.play ∷ [] =
    c.in-Some.ensures.items in
    let was : reverse c.self.inside.plays.items ≡ c.in-Some.play ∷ reverse c.pop.new.self.items =
    ap reverse items ∙ reverse-append c.pop.new.self.items (c.in-Some.play ∷ []) in
    ap (λ v. v.earlier) (sym c.self.view_is)
    ∙ (ap (earlier_of c.self.inside.layout c.self.inside.trail) was
    ∙ (earlier-more c.self.inside.layout c.self.inside.trail c.in-Some.play
    (reverse c.pop.new.self.items)
    ∙ ap (λ (t : Cells). earlier_of c.self.inside.layout t (reverse c.pop.new.self.items)
    ++ stand_of c.self.inside.layout t ∷ []) (sym c.undo_play.ensures.trail)))
