-- Images of nodes within the limits of the format are within them.
use Rattle.std.proofs.Common.{◌≡◌, ℕ, ◌%◌, ◌<◌, true, false, List, [], ◌∷◌, map, Option, eqb}
use Rattle.std.proofs.Common.{eqb-true, sym, ap, ◌∙◌, subst, inl, inr, arith}
use Rattle.pg_unfold.proofs.Common.{FinSet, contains, AllZip, nat_cmp, cases_Bool, length-map}
use Rattle.pg_unfold.proofs.Common.{All-cons, All-head, All-tail, All-weaker, All-map, All-nil}
use Rattle.pg_unfold.proofs.Common.{All-permutation, members, Grid, Side, ArePoints, IsReply}
use Rattle.pg_unfold.proofs.Common.{IsPair, IsBody, IsTurn, IsNode, position_of, Body, Over, Move}
use Rattle.pg_unfold.proofs.Common.{Pairs, Potential, Trees, Cuts, Threat, Weaker, Node, Reply}
use Rattle.pg_unfold.proofs.Common.{Position, member-from_any, reverse_of, AreInverse, image_on}
use Rattle.pg_unfold.proofs.Common.{image_pair, image_position, image_set, GridMap}
use Rattle.pg_unfold.proofs.Common.{Contains-map-from, of_member, in_image}
use Rattle.std.specs.List.{All as Each}
use Rattle.pg_cert.specs.declared.node.Body.TheVariants.{All}
use Rattle.pg_unfold.specs.Marks.{IsBoardMap}
use Rattle.pg_unfold.specs.Unfolded.{IsReplyImage, IsBodyImage}
use Rattle.pg_unfold.proofs.BoardMaps.{AreInverse-board}
use Rattle.pg_unfold.proofs.Sorting.{rising-ascend, keys-pairs}

-- a member of the image is the image of a member
image-from : (f : ℕ → ℕ) (s : FinSet nat_cmp) (w : ℕ)
    → contains (image_set f s) w ≡ true
    → (v : ℕ) × (contains s v ≡ true) × (f v ≡ w)
image-from f s w on =
    let found = member-from_any (λ y. eqb y w) (map f (members s)) (sym (in_image f s w) ∙ on) in
    let was = Contains-map-from f (members s) found.0 found.1 in
    (was.0, of_member s was.0 was.1, was.2 ∙ eqb-true found.0 w found.2)

module _ (f back : ℕ → ℕ) (inverse : AreInverse 1024 f back) (B : ℕ → ℕ → Type 0)
    (low : (child place : ℕ) → B child place → place < 100000) where
  points-image : (s : FinSet nat_cmp) → ArePoints s → ArePoints (image_set f s)
  points-image s are w on =
      let was = image-from f s w on in
      let there = inverse.range was.0 (are was.0 was.1) in
      let e = was.2 in
      omega (arith, there, e)

  apart-image : (s t : FinSet nat_cmp)
      → ArePoints s
      → ArePoints t
      → ((v : ℕ) → contains s v ≡ true → contains t v ≡ false)
      → (w : ℕ) → contains (image_set f s) w ≡ true
      → contains (image_set f t) w ≡ false
  apart-image s t are too apart w on = elim (cases_Bool (contains (image_set f t) w)) [
    | inl also ↦
        let a = image-from f s w on in
        let b = image-from f t w also in
        let same : a.0 ≡ b.0 = sym (inverse.undone a.0 (are a.0 a.1))
        ∙ ap back (a.2 ∙ sym b.2)
        ∙ inverse.undone b.0 (too b.0 b.1) in
        let off : contains t b.0 ≡ false = subst (λ v. contains t v ≡ false) same (apart a.0 a.1) in
        let on_it = b.1 in
        absurd cc
    | inr off ↦ off
  ]

  replies-image : (rs images : List Reply)
      → Each IsReply rs
      → AllZip (IsReplyImage f B) rs images
      → Each IsReply images
  replies-image [] [] are h = All-nil IsReply
  replies-image [] (y ∷ ys) are h = absurd h
  replies-image (x ∷ xs) [] are h = absurd h
  replies-image (x ∷ xs) (y ∷ ys) are h =
      let there = inverse.range x.point (All-head IsReply x xs are).0 in
      let point = h.0.point in
      All-cons IsReply y ys (omega (arith, there, point), low x.child y.child h.0.child)
      (replies-image xs ys (All-tail IsReply x xs are) h.1)

  pub body-limits : (body image : Body) → IsBody body → IsBodyImage f B body image → IsBody image
  body-limits Over image is h = subst IsBody (sym h) tt
  body-limits (Move point child) image is h =
      subst IsBody (sym h.2) (inverse.range point is.0, low child h.0 h.1)
  body-limits (All rs) image is h = subst IsBody (sym h.2) (
    All-permutation IsReply h.1.mapped h.0 h.1.same (replies-image rs h.1.mapped is.0 h.1.each),
    rising-ascend 0 (map (λ r. r.point) h.0) (λ k d lt. omega arith) (keys-pairs h.0 h.1.ascending),
  )
  body-limits (Pairs pairs) image is h = subst IsBody (sym h)
      (All-map IsPair (image_pair f) pairs (All-weaker IsPair (λ p. IsPair (image_pair f p))
      (λ p both. (inverse.range p.a both.0, inverse.range p.b both.1)) pairs is))
  body-limits Potential image is h = subst IsBody (sym h) tt
  body-limits (Trees with_e first second) image is h =
      subst IsBody (sym h) (points-image first is.0, points-image second is.1)
  body-limits (Cuts with_e first second) image is h =
      subst IsBody (sym h) (points-image first is.0, points-image second is.1)
  body-limits (Threat points) image is h = subst IsBody (sym h) (
    All-map (λ p. p < 1024) f points
        (All-weaker (λ p. p < 1024) (λ p. f p < 1024) (λ p lt. inverse.range p lt) points is.0),
    ap (λ n. n % 2) (length-map points f) ∙ is.1,
  )
  body-limits (Weaker child) image is h = subst IsBody (sym h.2) (low child h.0 h.1)

  node-limits : (source image : Node)
      → IsNode source
      → position_of image ≡ image_position f (position_of source)
      → IsBodyImage f B source.body image.body
      → IsNode image
  node-limits source image is position body =
      let x : image.x ≡ image_set f source.x = ap (λ (p : Position). p.x) position in
      let y : image.y ≡ image_set f source.y = ap (λ (p : Position). p.y) position in
      let turn : image.turn ≡ source.turn = ap (λ (p : Position). p.turn) position in
      let left : image.left ≡ source.left = ap (λ (p : Position). p.left) position in
      record {
        x = subst ArePoints (sym x) (points-image source.x is.x);
        y = subst ArePoints (sym y) (points-image source.y is.y);
        apart = subst (λ (s : FinSet nat_cmp).
            (v : ℕ) → contains s v ≡ true → contains image.y v ≡ false) (sym x)
            (subst (λ (t : FinSet nat_cmp). (v : ℕ) → contains (image_set f source.x) v ≡ true
            → contains t v ≡ false) (sym y) (apart-image source.x source.y is.x is.y is.apart));
        turn = subst (λ (t : Side). IsTurn t image.left) (sym turn)
            (subst (IsTurn source.turn) (sym left) is.turn);
        body = body-limits source.body image.body is.body body;
      }

pub IsNode-image : (board : Option Grid) (m : GridMap)
    → IsBoardMap board m
    → (B : ℕ → ℕ → Type 0) → ((child place : ℕ) → B child place → place < 100000)
    → (source image : Node) → IsNode source
    → position_of image ≡ image_position (image_on board m) (position_of source)
    → IsBodyImage (image_on board m) B source.body image.body
    → IsNode image
IsNode-image board m is B low source image limits position body =
    node-limits (image_on board m) (image_on board (reverse_of m))
    (AreInverse-board board m is) B low source image limits position body
