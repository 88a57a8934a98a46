-- The image of a set of points.
use Rattle.std.proofs.Common.{◌≡◌, ℕ, ◌<◌, true, map, refl, sym, ◌∙◌, subst, inl, inr, eqb}
use Rattle.std.proofs.Common.{eqb-true, eq-eqb, lt-ltb}
use Rattle.pg_maps.proofs.Common.{cases_Bool, and_from, and_parts, both_ways, Contains, FinSet}
use Rattle.pg_maps.proofs.Common.{contains, contains-from_list_nat, nat_cmp, AreBelow, members}
use Rattle.pg_maps.proofs.Common.{same_points, list_any-one, member-from_any}
use Rattle.pg_base.proofs.MemberLemmas.{has-points_below}
use Rattle.pg_maps.specs.Images.{image_set}
use Rattle.pg_maps.proofs.ImageLines.{is_in}
use Rattle.pg_maps.proofs.Criteria.{Contains-map, Contains-map-from}

pub member_of : (s : FinSet nat_cmp) (v : ℕ)
    → v < 1024
    → contains s v ≡ true
    → Contains (members s) v
member_of s v small on =
    let found = member-from_any (λ y. eqb y v) (members s)
    (has-points_below s 1024 v ∙ and_from _ _ on (lt-ltb v 1024 small)) in
    subst (λ u. Contains (members s) u) (eqb-true found.0 v found.2) found.1

pub of_member : (s : FinSet nat_cmp) (v : ℕ) → Contains (members s) v → contains s v ≡ true
of_member s v c =
    (and_parts (contains s v) _ (sym (has-points_below s 1024 v)
    ∙ list_any-one (λ y. eqb y v) (members s) v c (eq-eqb v v refl))).0

pub in_image : (f : ℕ → ℕ) (s : FinSet nat_cmp) (w : ℕ)
    → contains (image_set f s) w ≡ is_in (map f (members s)) w
in_image f s w = contains-from_list_nat (map f (members s)) w

-- a set that has the image of each member, and nothing else, is the image
pub image_set-from : (f : ℕ → ℕ) (s image : FinSet nat_cmp)
    → AreBelow s 1024
    → ((v : ℕ) → contains s v ≡ true → contains image (f v) ≡ true)
    → ((w : ℕ) → contains image w ≡ true → (v : ℕ) × (contains s v ≡ true) × (f v ≡ w))
    → image ≡ image_set f s
image_set-from f s image below into from = same_points image (image_set f s) same
  where
    there : (w : ℕ) → contains image w ≡ true → contains (image_set f s) w ≡ true
    there w on =
        let was = from w on in
        in_image f s w
        ∙ list_any-one (λ y. eqb y w) (map f (members s)) (f was.0)
        (Contains-map f (members s) was.0 (member_of s was.0 (below was.0 was.1) was.1))
        (eq-eqb (f was.0) w was.2)

    back : (w : ℕ) → contains (image_set f s) w ≡ true → contains image w ≡ true
    back w on =
        let found =
        member-from_any (λ y. eqb y w) (map f (members s)) (sym (in_image f s w) ∙ on) in
        let was = Contains-map-from f (members s) found.0 found.1 in
        subst (λ u. contains image u ≡ true) (was.2 ∙ eqb-true found.0 w found.2)
        (into was.0 (of_member s was.0 was.1))

    same : (w : ℕ) → contains image w ≡ contains (image_set f s) w
    same w = elim (cases_Bool (contains image w)) [
      | inl on ↦ on ∙ sym (there w on)
      | inr off ↦ elim (cases_Bool (contains (image_set f s) w)) [
        | inl on ↦ absurd (both_ways _ off (back w on))
        | inr also ↦ off ∙ sym also
      ]
    ]
