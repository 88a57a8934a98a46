use Rattle.std.proofs.Common.{◌≡◌, ◌+◌, ◌++◌, ◌∷◌, [], List, length, take, refl, sym, ap, ◌∙◌}
use Rattle.std.proofs.Common.{subst}
use Rattle.pg_unfold.proofs.Common.{take_all, take_more, slice_get_read, ImageClaim}
use Rattle.pg_unfold.specs.Gathered.{IsFull}
use Rattle.pg_unfold.specs.Layouts.{AreLaid, IsLaidNext, LaysNext}
use Rattle.pg_unfold.specs.declared.laying.Laid.{Laid}
use Rattle.pg_unfold.proofs.Layouts.{laid-more, laid-none}
use Rattle.pg_unfold.proofs.Rooms.{counted-large}
use Rattle.pg_unfold.proofs.laying.lay_out_claims.Goals as goal

pub loop-i-init : goal.loop-i-init
loop-i-init c =
    let start : Laid = record { layouts = c.new.result; room = 200000 } in
    laid-none start c.new.ensures.items refl

pub loop-i-preserved : goal.loop-i-preserved
loop-i-preserved c =
    let cs = c.args.claims.now in
    let i = c.loop-i.i in
    let claim : ImageClaim = c.index-claims-i.result in
    let new : Laid = c.lay_out_next.new.laid in
    let next : IsLaidNext claim c.loop-i.laid new =
    subst (LaysNext claim c.loop-i.laid new) c.in_default-full.is c.in-Ok.ensures in
    let more : AreLaid (take i cs ++ claim ∷ []) new =
    laid-more (take i cs) claim c.loop-i.laid new c.loop-i.invariant next in
    let same : take i cs ++ claim ∷ [] ≡ take (i + 1) cs =
    ap (λ (x : ImageClaim). take i cs ++ x ∷ []) c.index-claims-i.is
    ∙ sym (take_more cs i claim c.loop-i-test.true) in
    subst (λ (xs : List ImageClaim). AreLaid xs new) same more

pub returns-in-Some : goal.returns-in-Some
returns-in-Some c =
    let cs = c.args.claims.now in
    let claim : ImageClaim = c.index-claims-i.result in
    let full : IsFull claim c.loop-i.laid.room c.in-Some.last =
    subst (LaysNext claim c.loop-i.laid c.lay_out_next.new.laid) c.in-Some.is c.in-Ok.ensures in
    let at =
    slice_get_read cs (length cs) c.loop-i.i claim refl c.loop-i-test.true c.index-claims-i.is in (
      refl,
      counted-large cs c.loop-i.i c.in-Some.last claim c.loop-i.laid.room
          c.loop-i.invariant.counted at full.at full.much,
    )

pub returns : goal.returns
returns c = subst (λ (xs : List ImageClaim). AreLaid xs c.loop-i.laid)
    (take_all c.loop-i.i c.args.claims.now c.loop-i-test.false) c.loop-i.invariant
