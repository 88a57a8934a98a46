-- Claims that are unfolded one after the other.
use Rattle.std.proofs.Common.{◌≡◌, ℕ, ◌+◌, ◌≤◌, true, List, [], ◌∷◌, ◌++◌, map, length, sum, Some}
use Rattle.std.proofs.Common.{slice_get, take, suc, refl, sym, ap, ◌∙◌, subst, arith}
use Rattle.pg_unfold.proofs.Common.{map_push, All-push, All-nil, sum_by_push, IsClaim, IsOfVersion}
use Rattle.pg_unfold.proofs.Common.{IsWithinLimits, has_body, node_count, Cert, Claim, Two, Body}
use Rattle.pg_unfold.proofs.Common.{Game, IsImageWithinLimits, ImageCert, ImageClaim, board_of}
use Rattle.pg_unfold.proofs.Common.{sum-through}
use Rattle.std.specs.List.{All as Each}
use Rattle.pg_cert.specs.declared.cert.Version.{Version}
use Rattle.pg_unfold.specs.Flaws.{HasSize, HaveRoom, IsFirstTooLarge}
use Rattle.pg_unfold.specs.Gathered.{IsGatheredNext, IsTooMuch, AreGathered}
use Rattle.pg_unfold.specs.Unfolded.{IsCopied, IsUnfolded, AreUnfolded}
use Rattle.pg_unfold.specs.declared.unfolding.Gathered.{Gathered}
use Rattle.pg_unfold.proofs.ClaimSteps.{zip-length}
use Rattle.pg_unfold.proofs.CopySteps.{push-zip}
use Rattle.pg_unfold.proofs.Rooms.{counted-large, counted-room}

pub unfolded-push : (g : Game) (cs : List ImageClaim) (claims : List Claim)
    (sources : List (List ℕ)) (c : ImageClaim) (claim : Claim) (origins : List ℕ)
    → AreUnfolded g cs claims sources
    → IsUnfolded g c claim origins
    → AreUnfolded g (cs ++ c ∷ []) (claims ++ claim ∷ []) (sources ++ origins ∷ [])
unfolded-push g [] [] [] c claim origins h now = (now, tt)
unfolded-push g [] [] (o ∷ os) c claim origins h now = absurd h
unfolded-push g [] (d ∷ ds) [] c claim origins h now = absurd h
unfolded-push g [] (d ∷ ds) (o ∷ os) c claim origins h now = absurd h
unfolded-push g (b ∷ bs) [] [] c claim origins h now = absurd h
unfolded-push g (b ∷ bs) [] (o ∷ os) c claim origins h now = absurd h
unfolded-push g (b ∷ bs) (d ∷ ds) [] c claim origins h now = absurd h
unfolded-push g (b ∷ bs) (d ∷ ds) (o ∷ os) c claim origins h now =
    (h.0, unfolded-push g bs ds os c claim origins h.1 now)

pub unfolded-length : (g : Game) (cs : List ImageClaim) (claims : List Claim)
    (sources : List (List ℕ))
    → AreUnfolded g cs claims sources
    → length claims ≡ length cs
unfolded-length g [] [] [] h = refl
unfolded-length g [] [] (o ∷ os) h = absurd h
unfolded-length g [] (d ∷ ds) [] h = absurd h
unfolded-length g [] (d ∷ ds) (o ∷ os) h = absurd h
unfolded-length g (b ∷ bs) [] [] h = absurd h
unfolded-length g (b ∷ bs) [] (o ∷ os) h = absurd h
unfolded-length g (b ∷ bs) (d ∷ ds) [] h = absurd h
unfolded-length g (b ∷ bs) (d ∷ ds) (o ∷ os) h = ap suc (unfolded-length g bs ds os h.1)

HasSize-unfolded : (g : Game) (c : ImageClaim) (claim : Claim) (origins : List ℕ)
    → IsUnfolded g c claim origins
    → HasSize c (length claim.nodes)
HasSize-unfolded g c claim origins h = record {
  copies = h.copies;
  are = h.are;
  counted = zip-length (IsCopied (board_of g.field) c.nodes h.copies) h.copies claim.nodes h.nodes;
}

module _ (g : Game) where
  pub gathered-none : (gathered : Gathered)
      → gathered.claims.items ≡ []
      → gathered.sources.items ≡ []
      → gathered.room ≡ 200000
      → AreGathered g [] gathered
  gathered-none gathered claims sources room = record {
    unfolded = subst (λ ds. AreUnfolded g [] ds gathered.sources.items) (sym claims)
        (subst (AreUnfolded g [] []) (sym sources) tt);
    limits = subst (Each IsClaim) (sym claims) (All-nil IsClaim);
    counted = record {
      sizes = [];
      are = tt;
      each = All-nil (λ size. size ≤ 100000);
      together = omega (arith, room);
    };
    lengths = ap (map (λ (claim : Claim). length claim.nodes)) (sym claims);
  }

  pub gathered-more : (cs : List ImageClaim) (c : ImageClaim) (old new : Gathered)
      → AreGathered g cs old
      → IsGatheredNext g c old new
      → AreGathered g (cs ++ c ∷ []) new
  gathered-more cs c old new h now =
      let size = length now.claim.nodes in
      let more = sum_by_push (λ (n : ℕ). n) h.counted.sizes size in
      let before = h.counted.together in
      let room = now.room in
      record {
        unfolded = subst (λ ds. AreUnfolded g (cs ++ c ∷ []) ds new.sources.items) (sym now.claims)
            (subst (AreUnfolded g (cs ++ c ∷ []) (old.claims.items ++ now.claim ∷ []))
            (sym now.sources) (unfolded-push g cs old.claims.items old.sources.items c now.claim
            now.origins h.unfolded now.taken.unfolded));
        limits = subst (Each IsClaim) (sym now.claims)
            (All-push IsClaim old.claims.items now.claim h.limits now.taken.limits);
        counted = record {
          sizes = h.counted.sizes ++ size ∷ [];
          are = push-zip HasSize cs h.counted.sizes c size h.counted.are
              (HasSize-unfolded g c now.claim now.origins now.taken.unfolded);
          each = All-push (λ n. n ≤ 100000) h.counted.sizes size h.counted.each now.taken.few;
          together = omega (arith, more, before, room);
        };
        lengths = ap (λ ns. ns ++ size ∷ []) h.lengths
            ∙ sym (map_push (λ (claim : Claim). length claim.nodes) old.claims.items now.claim)
            ∙ ap (map (λ (claim : Claim). length claim.nodes)) (sym now.claims);
      }

  pub room-of : (cs : List ImageClaim) (gathered : Gathered)
      → AreGathered g cs gathered
      → HaveRoom cs
  room-of cs gathered h = counted-room cs gathered.room h.counted

  pub too_large : (claims : List ImageClaim) (i node : ℕ) (c : ImageClaim) (gathered : Gathered)
      → AreGathered g (take i claims) gathered
      → slice_get claims i ≡ Some c
      → node + 1 ≡ length c.nodes
      → IsTooMuch c gathered.room
      → IsFirstTooLarge claims i node
  too_large claims i node c gathered h = counted-large claims i node c gathered.room h.counted

  of_second : (body : Body) → has_body Two body ≡ true
  of_second body = refl

  pub within-gathered : (c : ImageCert)
      → IsImageWithinLimits c
      → (gathered : Gathered) → AreGathered g c.claims gathered
      → (cert : Cert) → cert.version ≡ Two
      → cert.claims ≡ gathered.claims.items
      → IsWithinLimits cert
  within-gathered c limits gathered h cert version claims =
      let count = ap length claims
      ∙ unfolded-length g c.claims gathered.claims.items gathered.sources.items h.unfolded in
      let some = limits.some in
      let few = limits.few in
      let all = h.counted.together in
      let total : node_count cert.claims ≡ sum h.counted.sizes = ap node_count claims
      ∙ sym
      (sum-through (λ (claim : Claim). length claim.nodes) (λ (n : ℕ). n) gathered.claims.items)
      ∙ ap sum (sym h.lengths) in
      record {
        some = omega (arith, count, some);
        few = omega (arith, count, few);
        claims = subst (Each IsClaim) (sym claims) h.limits;
        nodes = omega (arith, total, all);
        bodies = subst (λ (v : Version). Each (IsOfVersion v) cert.claims) (sym version)
            (λ k d lt. λ j e inside. refl);
      }
