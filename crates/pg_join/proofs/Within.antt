-- What passes the tests is within the limits of the format.
use Rattle.std.proofs.Common.{◌≡◌, ℕ, ◌+◌, ◌<◌, ◌≤◌, Bool, true, ◌&&◌, List, [], ◌∷◌, length, arith}
use Rattle.std.specs.Prelude.{nat_lt, sum_by}
use Rattle.pg_base.specs.declared.pair.Pair.{Pair}
use Rattle.pg_cert.specs.Limits.{IsPair, IsReply}
use Rattle.pg_cert.specs.declared.reply.Reply.{Reply}
use Rattle.pg_image.specs.Limits.{IsImageClaim, image_node_count}
use Rattle.pg_image.specs.declared.cert.ImageClaim.{ImageClaim}
use Rattle.pg_join.proofs.Common.{All, AllPass-from_list_all, and_parts, ltb-true}
use Rattle.pg_join.proofs.Tests.{are_pairs, are_points, are_replies}

pub points_within : (points : List ℕ) → are_points points ≡ true → All (λ v. v < 1024) points
points_within points e = λ k d low.
    ltb-true _ 1024 (AllPass-from_list_all (λ v. nat_lt v 1024) points e k d low)

pub pairs_within : (pairs : List Pair) → are_pairs pairs ≡ true → All IsPair pairs
pairs_within pairs e = λ k d low.
    let p = and_parts _ _ (AllPass-from_list_all
    (λ (p : Pair). nat_lt p.a 1024 && nat_lt p.b 1024) pairs e k d low) in
    (ltb-true _ 1024 p.0, ltb-true _ 1024 p.1)

pub replies_within : (replies : List Reply) → are_replies replies ≡ true → All IsReply replies
replies_within replies e = λ k d low.
    let p = and_parts _ _ (AllPass-from_list_all
    (λ (r : Reply). nat_lt r.point 1024 && nat_lt r.child 100000) replies e k d low) in
    (ltb-true _ 1024 p.0, ltb-true _ 100000 p.1)

-- one claim or two have few enough nodes together
pub few_together : (claims : List ImageClaim)
    → length claims ≤ 2
    → All IsImageClaim claims
    → image_node_count claims ≤ 200000
few_together [] few each = omega arith
few_together (a ∷ []) few each =
    let one = (each 0 a (omega arith)).few in
    omega (arith, one)
few_together (a ∷ b ∷ []) few each =
    let one = (each 0 a (omega arith)).few in
    let two = (each 1 a (omega arith)).few in
    omega (arith, one, two)
few_together (a ∷ b ∷ c ∷ cs) few each = absurd (omega (arith, few))
