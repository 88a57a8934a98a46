-- The shapes of items in their order.
use Rattle.std.proofs.Common.{◌≡◌, ◌∙◌, List, ◌∷◌, ◌++◌, ap, append_assoc}
use Rattle.std.specs.List.{flat_map}
use Rattle.std.proofs.lemmas.Grind.{flat_map-append}
use Rattle.std.proofs.lemmas.List.Concat.{flat_map-cons}
use Rattle.pg_picture.specs.declared.paint.Paint.TheVariants as paints
use Rattle.pg_draw.proofs.Common.{Words, Item, Look, Scene, at, MARGIN}
use Rattle.pg_draw.specs.Laws.{IsDrawnBetween, last_shapes}
use Rattle.pg_draw.specs.Pictures.{picture_of}
use Rattle.pg_draw.specs.Shapes.{courses_of, item_shapes}
use Rattle.pg_draw.specs.declared.measures.TheConstants.{HEADING_DOWN}

parts_of : {A B : Type 0} (f : A → List B) (before after : List A) (x : A) (last : List B)
    → flat_map f (before ++ x ∷ after) ++ last
    ≡ flat_map f before ++ (f x ++ (flat_map f after ++ last))
parts_of f before after x last = ap (λ xs. xs ++ last) (flat_map-append f before (x ∷ after)
    ∙ ap (λ xs. flat_map f before ++ xs) (flat_map-cons f x after))
    ∙ append_assoc (flat_map f before) (f x ++ flat_map f after) last
    ∙ ap (λ xs. flat_map f before ++ xs) (append_assoc (f x) (flat_map f after) last)

pub drawn_between : (look : Look) (scene : Scene) (before after : List Item) (item : Item)
    → scene.items ≡ before ++ item ∷ after
    → IsDrawnBetween look scene before item after
unfolding picture_of
drawn_between look scene before after item is =
    let f = item_shapes look.numbers scene.board (courses_of scene.board) in
    ap (λ xs. Words (at MARGIN HEADING_DOWN) scene.title paints.Heading ∷ xs)
    (ap (λ (all : List Item). flat_map f all ++ last_shapes look scene) is
    ∙ parts_of f before after item (last_shapes look scene))
