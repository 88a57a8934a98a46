use Rattle.std.proofs.Common.{◌∙◌, arith, inl, refl, subst, sym}
use Rattle.pg_sessions.proofs.Common.{false≢true, point_count-le, IsPosition-after}
use Rattle.pg_sessions.proofs.Common.{IsPosition-start, start, IsPosition, Position}
use Rattle.pg_sessions.specs.Known.{HaveNodes}
use Rattle.pg_sessions.proofs.Standing.{known-kept, leaves-one, next-at}
use Rattle.pg_sessions.proofs.playing.play.Goals as goal

pub after-next-requires : goal.after-next-requires
after-next-requires c =
    let within = c.requires.within in
    omega (arith, within, point_count-le c.args.game.now)

pub stand_at-requires : goal.stand_at-requires
stand_at-requires c =
    let g = c.args.game.now in
    subst (IsPosition g)
    (sym (next-at g c.start.result c.after-next.result c.args.point c.start.ensures
    c.after-next.ensures))
    (IsPosition-after g (start g) c.args.point
    (IsPosition-start g) c.requires.within c.requires.free)

pub returns-then-holds_at-clause-known : goal.returns-then-holds_at-clause-known
returns-then-holds_at-clause-known c =
    let g = c.args.game.now in
    let same = next-at g c.start.result c.after-next.result c.args.point c.start.ensures
    c.after-next.ensures in
    λ _. known-kept g c.stand_at.new.game c.after-next.result c.args.known.now c.stand_at.ensures
    (subst (IsPosition g) (sym same)
    (IsPosition-after g (start g) c.args.point (IsPosition-start g) c.requires.within
    c.requires.free)) c.requires.single c.requires.known (c.holds_at.ensures.0 c.if-holds_at.true)

pub returns-then-holds_at-clause-found : goal.returns-then-holds_at-clause-found
returns-then-holds_at-clause-found c =
    let g = c.args.game.now in
    let same = next-at g c.start.result c.after-next.result c.args.point c.start.ensures
    c.after-next.ensures in
    λ _. inl (
      refl,
      subst (λ (p : Position). HaveNodes p c.args.known.now.certificate) same
          (c.holds_at.ensures.0 c.if-holds_at.true),
    )

pub returns-in_default-clause-untold : goal.returns-in_default-clause-untold
returns-in_default-clause-untold c =
    let g = c.args.game.now in
    let same = next-at g c.start.result c.after-next.result c.args.point c.start.ensures
    c.after-next.ensures in
    λ _ have. false≢true (sym c.if-holds_at.false
    ∙ c.holds_at.ensures.1
    (subst (λ (p : Position). HaveNodes p c.args.known.now.certificate) (sym same) have))

pub returns-in_err-found-clause-work : goal.returns-in_err-found-clause-work
returns-in_err-found-clause-work c = leaves-one c.stand_at.new.game c.args.positions c.args.work.now
    c.decide.new.work c.decide.ensures.work c.decide.ensures.untouched

pub returns-in_default-clause-work : goal.returns-in_default-clause-work
returns-in_default-clause-work c = leaves-one c.stand_at.new.game c.args.positions c.args.work.now
    c.decide.new.work c.decide.ensures.work c.decide.ensures.untouched

pub returns-clause-work : goal.returns-clause-work
returns-clause-work c = leaves-one c.stand_at.new.game c.args.positions c.args.work.now
    c.decide.new.work c.decide.ensures.work c.decide.ensures.untouched
