use Rattle.std.proofs.Common.{◌≡◌, ◌+◌, ◌++◌, ◌∷◌, [], List, length, take, refl, sym, ap, ◌∙◌}
use Rattle.std.proofs.Common.{subst}
use Rattle.pg_unfold.proofs.Common.{take_all, take_more, slice_get_read, ImageClaim}
use Rattle.pg_unfold.specs.Gathered.{AreGathered, IsFull, IsGatheredNext, TakesNext}
use Rattle.pg_unfold.specs.declared.unfolding.Gathered.{Gathered}
use Rattle.pg_unfold.proofs.ClaimsGathered.{gathered-none, gathered-more, too_large}
use Rattle.pg_unfold.proofs.unfolding.unfold_claims.Goals as goal

pub loop-i-init : goal.loop-i-init
loop-i-init c =
    let start : Gathered = record {
      claims = c.new.result;
      sources = c.new-2.result;
      room = 200000;
    } in
    gathered-none c.args.g.now start c.new.ensures.items c.new-2.ensures.items refl

pub loop-i-preserved : goal.loop-i-preserved
loop-i-preserved c =
    let g = c.args.g.now in
    let cs = c.args.claims.now in
    let i = c.loop-i.i in
    let claim : ImageClaim = c.index-claims-i.result in
    let new : Gathered = c.unfold_next.new.gathered in
    let next : IsGatheredNext g claim c.loop-i.gathered new =
    subst (TakesNext g claim c.loop-i.gathered new) c.in_default-full.is c.in-Ok.ensures in
    let more : AreGathered g (take i cs ++ claim ∷ []) new =
    gathered-more g (take i cs) claim c.loop-i.gathered new c.loop-i.invariant next in
    let same : take i cs ++ claim ∷ [] ≡ take (i + 1) cs =
    ap (λ (x : ImageClaim). take i cs ++ x ∷ []) c.index-claims-i.is
    ∙ sym (take_more cs i claim c.loop-i-test.true) in
    subst (λ (xs : List ImageClaim). AreGathered g xs new) same more

pub returns-in-Some : goal.returns-in-Some
returns-in-Some c =
    let g = c.args.g.now in
    let cs = c.args.claims.now in
    let claim : ImageClaim = c.index-claims-i.result in
    let full : IsFull claim c.loop-i.gathered.room c.in-Some.last = subst
    (TakesNext g claim c.loop-i.gathered c.unfold_next.new.gathered) c.in-Some.is c.in-Ok.ensures in
    let at =
    slice_get_read cs (length cs) c.loop-i.i claim refl c.loop-i-test.true c.index-claims-i.is in (
      refl,
      too_large g cs c.loop-i.i c.in-Some.last claim c.loop-i.gathered c.loop-i.invariant at full.at
          full.much,
    )

pub returns : goal.returns
returns c = subst (λ (xs : List ImageClaim). AreGathered c.args.g.now xs c.loop-i.gathered)
    (take_all c.loop-i.i c.args.claims.now c.loop-i-test.false) c.loop-i.invariant
