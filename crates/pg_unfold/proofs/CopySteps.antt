-- The copies of nodes, one after the other.
use Rattle.std.proofs.Common.{◌≡◌, ℕ, suc, ◌+◌, ◌/◌, ◌%◌, Bool, false, List, [], ◌∷◌, ◌++◌, map}
use Rattle.std.proofs.Common.{Option, Some, slice_get, refl, sym, ap, ◌∙◌, subst, add-one}
use Rattle.pg_unfold.proofs.Common.{AllZip, Contains, map_push, Grid, position_of, Body, Over, Move}
use Rattle.pg_unfold.proofs.Common.{Pairs, Potential, Trees, Cuts, Threat, Weaker, Node, Reply}
use Rattle.pg_unfold.proofs.Common.{Contains-head, Contains-tail, ImageNode, Plain, numbered}
use Rattle.pg_unfold.proofs.Common.{number_of, image_on, image_position, IsMarked}
use Rattle.pg_cert.specs.declared.node.Body.TheVariants.{All}
use Rattle.pg_unfold.specs.Copies.{Copy, NamesChild, IsPlaced}
use Rattle.pg_unfold.specs.Marks.{copy_at, key_of, AreMet, ArePlaces, IsPlaceOf, copies_below}
use Rattle.pg_unfold.specs.Marks.{copies_of, is_kept}
use Rattle.pg_unfold.specs.Unfolded.{IsReplyImage, IsBodyImage, BecomesUnder, IsCopied}
use Rattle.pg_unfold.proofs.Keys.{copy_at-key}
use Rattle.pg_unfold.proofs.Placing.{kept-at, below-kept, below-left}

-- ---- images of bodies, as the numbers of children are read

module _ (f : ℕ → ℕ) (R S : ℕ → ℕ → Type 0) where
  replies-read : (rs images : List Reply)
      → ((child place : ℕ) → Contains (map (λ r. r.child) rs) child → R child place → S child place)
      → AllZip (IsReplyImage f R) rs images
      → AllZip (IsReplyImage f S) rs images
  replies-read [] [] read h = tt
  replies-read [] (y ∷ ys) read h = absurd h
  replies-read (x ∷ xs) [] read h = absurd h
  replies-read (x ∷ xs) (y ∷ ys) read h = (
    record {
      point = h.0.point;
      child = read x.child y.child (Contains-head x.child (map (λ r. r.child) xs)) h.0.child;
    },
    replies-read xs ys
        (λ child place named was. read child place
        (Contains-tail x.child child (map (λ r. r.child) xs) named) was) h.1,
  )

  pub body-read : (body image : Body)
      → ((child place : ℕ) → NamesChild body child → R child place → S child place)
      → IsBodyImage f R body image
      → IsBodyImage f S body image
  body-read Over image read h = h
  body-read (Move point child) image read h = (h.0, read child h.0 refl h.1, h.2)
  body-read (All rs) image read h = (
    h.0,
    record {
      mapped = h.1.mapped;
      each = replies-read rs h.1.mapped read h.1.each;
      same = h.1.same;
      ascending = h.1.ascending;
    },
    h.2,
  )
  body-read (Pairs pairs) image read h = h
  body-read Potential image read h = h
  body-read (Trees with_e first second) image read h = h
  body-read (Cuts with_e first second) image read h = h
  body-read (Threat points) image read h = h
  body-read (Weaker child) image read h = (h.0, read child h.0 refl h.1, h.2)

-- ---- a copy

pub push-zip : {A B : Type 0} (R : A → B → Type 0) (xs : List A) (ys : List B) (x : A) (y : B)
    → AllZip R xs ys
    → R x y
    → AllZip R (xs ++ x ∷ []) (ys ++ y ∷ [])
push-zip R [] [] x y h now = (now, tt)
push-zip R [] (b ∷ ys) x y h now = absurd h
push-zip R (a ∷ xs) [] x y h now = absurd h
push-zip R (a ∷ xs) (b ∷ ys) x y h now = (h.0, push-zip R xs ys x y h.1 now)

module _ (nodes : List ImageNode) (marks : List Bool) (met : AreMet nodes marks) (places : List ℕ)
    (placed : ArePlaces nodes marks places) (key : ℕ) (node : Node) (on : IsMarked marks key)
    (at : slice_get nodes (key / 8) ≡ Some (Plain node)) where
  -- the number of a child that the node names leads to the place where its copy settles
  child-placed : (child place : ℕ)
      → NamesChild node.body child
      → IsPlaceOf places (number_of (numbered (key % 8))) child place
      → BecomesUnder nodes (copies_of nodes marks) (copy_at key) child place
  child-placed child place named read =
      let is = met.sound key on in
      let next : Copy = record { node = child; map = numbered (key % 8) } in
      let there = met.complete next (
        suc is.0,
        (copy_at key, is.1, record { node = Plain node; at = at; holds = (named, refl) }),
      ) in
      subst (λ (c : Copy). IsPlaced nodes (copies_of nodes marks) c place) (copy_at-key next)
      (placed.each (key_of next) place there read)

  pub copied-here : (board : Option Grid) (image : Node)
      → position_of image ≡ image_position (image_on board (numbered (key % 8))) (position_of node)
      → IsBodyImage (image_on board (numbered (key % 8)))
      (IsPlaceOf places (number_of (numbered (key % 8)))) node.body image.body
      → IsCopied board nodes (copies_of nodes marks) (copy_at key) image
  copied-here board image position body = record {
    source = node;
    at = at;
    position = position;
    body = body-read (image_on board (numbered (key % 8)))
        (IsPlaceOf places (number_of (numbered (key % 8))))
        (BecomesUnder nodes (copies_of nodes marks) (copy_at key)) node.body image.body child-placed
        body;
  }

module _ (nodes : List ImageNode) (marks : List Bool) (key : ℕ) where
  pub more-kept : (node : Node)
      → IsMarked marks key
      → slice_get nodes (key / 8) ≡ Some (Plain node)
      → copies_below nodes marks (key + 1) ≡ copies_below nodes marks key ++ copy_at key ∷ []
  more-kept node on at = ap (copies_below nodes marks) (add-one key)
      ∙ below-kept nodes marks key (kept-at nodes marks key node on at)

  pub more-left : is_kept nodes marks key ≡ false
      → copies_below nodes marks (key + 1) ≡ copies_below nodes marks key
  more-left off = ap (copies_below nodes marks) (add-one key) ∙ below-left nodes marks key off

  pub zip-more : {B : Type 0} (R : Copy → B → Type 0) (ys : List B) (y : B) (node : Node)
      → IsMarked marks key
      → slice_get nodes (key / 8) ≡ Some (Plain node)
      → AllZip R (copies_below nodes marks key) ys
      → R (copy_at key) y
      → AllZip R (copies_below nodes marks (key + 1)) (ys ++ y ∷ [])
  zip-more R ys y node on at h now =
      subst (λ cs. AllZip R cs (ys ++ y ∷ [])) (sym (more-kept node on at))
      (push-zip R (copies_below nodes marks key) ys (copy_at key) y h now)

  pub zip-left : {B : Type 0} (R : Copy → B → Type 0) (ys : List B)
      → is_kept nodes marks key ≡ false
      → AllZip R (copies_below nodes marks key) ys
      → AllZip R (copies_below nodes marks (key + 1)) ys
  zip-left R ys off h = subst (λ cs. AllZip R cs ys) (sym (more-left off)) h

  pub origins-more : (os : List ℕ) (node : Node)
      → IsMarked marks key
      → slice_get nodes (key / 8) ≡ Some (Plain node)
      → os ≡ map (λ c. c.node) (copies_below nodes marks key)
      → os ++ key / 8 ∷ [] ≡ map (λ c. c.node) (copies_below nodes marks (key + 1))
  origins-more os node on at e = ap (λ xs. xs ++ key / 8 ∷ []) e
      ∙ sym (map_push (λ (c : Copy). c.node) (copies_below nodes marks key) (copy_at key))
      ∙ ap (map (λ (c : Copy). c.node)) (sym (more-kept node on at))

  pub origins-left : (os : List ℕ)
      → is_kept nodes marks key ≡ false
      → os ≡ map (λ c. c.node) (copies_below nodes marks key)
      → os ≡ map (λ c. c.node) (copies_below nodes marks (key + 1))
  origins-left os off e = e ∙ ap (map (λ (c : Copy). c.node)) (sym (more-left off))
