use Rattle.std.proofs.Common.{◌≡◌, ◌+◌, ◌-◌, ◌++◌, ◌∷◌, [], List, length, take, refl, sym, ap, ◌∙◌}
use Rattle.std.proofs.Common.{subst, arith, rules}
use Rattle.pg_unfold.proofs.Common.{both_ways, false≢true, take_all, take_more, slice_get_read}
use Rattle.pg_unfold.proofs.Common.{ImageClaim}
use Rattle.pg_unfold.specs.Flaws.{HaveRoom}
use Rattle.pg_unfold.specs.Gathered.{AreCounted}
use Rattle.pg_unfold.proofs.Rooms.{counted-none, counted-more, counted-room, counted-full}
use Rattle.pg_unfold.proofs.room.has_room.Goals as goal

pub loop-claim-init : goal.loop-claim-init
loop-claim-init c = counted-none

pub loop-claim-preserved : goal.loop-claim-preserved
loop-claim-preserved c =
    let cs = c.as_slice-claims.result.now in
    let i = c.loop-claim.claim-index in
    let claim : ImageClaim = c.claim-item.result in
    let fits = c.is_few.ensures.0 (search rules) in
    let more = counted-more (take i cs) claim c.in_ok-size.size c.loop-claim.room
    (c.loop-claim.room - c.in_ok-size.size) c.loop-claim.invariant c.in_ok-size.ensures
    (omega (arith, fits)) (omega (arith, fits)) in
    let same : take i cs ++ claim ∷ [] ≡ take (i + 1) cs =
    ap (λ (x : ImageClaim). take i cs ++ x ∷ []) c.claim-item.is
    ∙ sym (take_more cs i claim c.loop-claim-test.true) in
    subst (λ (xs : List ImageClaim). AreCounted xs (c.loop-claim.room - c.in_ok-size.size)) same
    more

pub returns-then-not-is_few : goal.returns-then-not-is_few
returns-then-not-is_few c =
    let cs = c.as_slice-claims.result.now in
    let claim : ImageClaim = c.claim-item.result in
    let at = slice_get_read cs
    (length cs) c.loop-claim.claim-index claim refl c.loop-claim-test.true c.claim-item.is in (
      (λ on. absurd (false≢true on)),
      λ room. absurd
          (counted-full cs c.loop-claim.claim-index claim c.in_ok-size.size c.loop-claim.room
          c.loop-claim.invariant at c.in_ok-size.ensures
          (λ both. let on = c.is_few.ensures.1 both in both_ways _ c.if-not-is_few.true on)
          (subst HaveRoom (sym c.as_slice-claims.ensures) room)),
    )

pub returns : goal.returns
returns c =
    let cs = c.as_slice-claims.result.now in
    let whole : AreCounted cs c.loop-claim.room =
    subst (λ (xs : List ImageClaim). AreCounted xs c.loop-claim.room)
    (take_all c.loop-claim.claim-index cs c.loop-claim-test.false) c.loop-claim.invariant in (
      (λ on. subst HaveRoom c.as_slice-claims.ensures (counted-room cs c.loop-claim.room whole)),
      λ room. refl,
    )
