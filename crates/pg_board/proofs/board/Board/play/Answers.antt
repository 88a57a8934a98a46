use Rattle.std.proofs.Common.{◌≡◌, ℕ, ◌+◌, ◌<◌, ◌≤◌, [], ◌∷◌, ◌++◌, true, length, reverse, arith}
use Rattle.std.proofs.Common.{ap, ◌∙◌, sym, subst}
use Rattle.pg_board.proofs.Common.{reverse-append, length-reverse, vec_capacity, is_free, after}
use Rattle.pg_board.proofs.Common.{present, Cells, back_to}
use Rattle.pg_board.specs.Shape.{Shape, shape_of, degree_in}
use Rattle.pg_board.proofs.Judging.{degree-of}
use Rattle.pg_board.specs.declared.plays.Played.{Played}
use Rattle.pg_board.specs.Fits.{Rules, PlaysBack, stand_of, earlier_of}
use Rattle.pg_board.proofs.Fitting.{fit-first, fit-more}
use Rattle.pg_board.proofs.Earlier.{earlier-more}
use Rattle.pg_board.proofs.board.Board.play.Goals as goal

pub play_point-requires : goal.play_point-requires
play_point-requires c =
    let shape : c.self.inside.layout ≡ shape_of c.args.self.now.game =
    c.self.invariant.layout ∙ ap (λ v. shape_of v.game) c.self.view_is in
    record {
      fits = fit-first _ _ _ _ _ _ c.self.invariant.fit;
      range = subst (λ (s : Shape). c.args.v < s.points) (sym shape) c.requires.range;
      «open» = subst (λ v. is_free v.stand.position c.args.v ≡ true)
          (sym c.self.view_is) c.requires.free;
    }

pub invariant_of-self : goal.invariant_of-self
invariant_of-self c =
    let r : Rules = record { bias = c.self.inside.game.now.bias; shape = c.self.inside.layout } in
    let play : Played = record { point = c.args.v; level = c.level-level.result } in
    let items : c.push.new.self.items ≡ c.self.inside.plays.items ++ play ∷ [] =
    c.in-Ok.ensures.items in
    let now : reverse c.push.new.self.items ≡ play ∷ reverse c.self.inside.plays.items =
    ap reverse items ∙ reverse-append c.self.inside.plays.items (play ∷ []) in
    let leads = c.play_point.ensures in
    let back : PlaysBack r c.self.inside.trail c.self.inside.rings.live_x c.self.inside.rings.live_y
    c.self.inside.rings.free c.play_point.new.trail c.play_point.new.rings.live_x
    c.play_point.new.rings.live_y c.play_point.new.rings.free play = subst
    (λ (n : ℕ). PlaysBack r c.self.inside.trail c.self.inside.rings.live_x
    c.self.inside.rings.live_y c.self.inside.rings.free c.play_point.new.trail
    c.play_point.new.rings.live_x c.play_point.new.rings.live_y c.play_point.new.rings.free
    (record { point = c.args.v; level = n })) (sym c.level-level.ensures) leads.back in
    let room : length (reverse c.self.inside.plays.items)
    + length (present c.self.inside.rings.free) ≤ vec_capacity c.self.inside.plays =
    c.self.invariant.places in
    record {
      has_lines = c.self.invariant.has_lines;
      layout = c.self.invariant.layout;
      fit = rw now
          (fit-more r _ _ _ _ _ _ _ _ play
          (reverse c.self.inside.plays.items) c.self.invariant.fit leads.fits back);
      places = (let lengths = ap length now in
          let was = length-reverse c.self.inside.plays.items in
          omega (arith, room, leads.one_fewer, c.push.ensures.capacity));
    }

pub returns-clause-position : goal.returns-clause-position
returns-clause-position c =
    c.play_point.ensures.position ∙ ap (λ v. after v.game v.stand.position c.args.v) c.self.view_is

pub returns-clause-entries : goal.returns-clause-entries
returns-clause-entries c =
    let shape : c.self.inside.layout ≡ shape_of c.args.self.now.game =
    c.self.invariant.layout ∙ ap (λ v. shape_of v.game) c.self.view_is in
    let few = c.play_point.ensures.entries in
    let degree_is =
    ap (λ s. degree_in s c.args.v) shape ∙ degree-of c.args.self.now.game c.args.v in
    let level = ap (λ v. length v.stand.trail.entries) c.self.view_is in
    omega (arith, few, degree_is, level)

pub returns-clause-earlier : goal.returns-clause-earlier
returns-clause-earlier c =
    let play : Played = record { point = c.args.v; level = c.level-level.result } in
    let items : c.push.new.self.items ≡ c.self.inside.plays.items ++ play ∷ [] =
    c.in-Ok.ensures.items in
    let now : reverse c.push.new.self.items ≡ play ∷ reverse c.self.inside.plays.items =
    ap reverse items ∙ reverse-append c.self.inside.plays.items (play ∷ []) in
    let back : back_to c.level-level.result c.play_point.new.trail ≡ c.self.inside.trail =
    ap (λ n. back_to n c.play_point.new.trail) c.level-level.ensures
    ∙ c.play_point.ensures.back.trail in
    ap (earlier_of c.self.inside.layout c.play_point.new.trail) now
    ∙ (earlier-more c.self.inside.layout c.play_point.new.trail play
    (reverse c.self.inside.plays.items)
    ∙ (ap (λ (t : Cells). earlier_of c.self.inside.layout t (reverse c.self.inside.plays.items)
    ++ stand_of c.self.inside.layout t ∷ []) back
    ∙ ap (λ v. v.earlier ++ v.stand ∷ []) c.self.view_is))
