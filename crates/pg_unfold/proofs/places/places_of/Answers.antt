use Rattle.pg_unfold.proofs.Common.{Vec, slice_get_read, Image, numbered, number_of, followed_by}
use mir.Val.{bool_byte}
use Rattle.std.proofs.Common.{◌≡◌, ℕ, ◌+◌, ◌*◌, ◌/◌, ◌%◌, ◌<◌, List, length, cond, get_or, true}
use Rattle.std.proofs.Common.{false, Bool, Some, slice_get, refl, sym, ap, ◌∙◌, subst, arith, rules}
use Rattle.pg_unfold.specs.Marks.{ArePlacedBelow}
use Rattle.pg_unfold.proofs.Placing.{below-length}
use Rattle.pg_unfold.proofs.PlaceSteps.{placed-more_plain, placed-more_image}
use Rattle.pg_unfold.proofs.places.places_of.Goals as goal
use Rattle.pg_unfold.proofs.places.places_of.Goals.{in-Plain+in_ok-push-in-Plain}
use Rattle.pg_unfold.proofs.places.places_of.Goals.{in-Image+in_ok-push-in-Image}

byte : (b : Bool) → bool_byte b ≡ cond b 1 0
byte true = refl
byte false = refl

few : (b : Bool) → ◌<◌ (cond b 1 0) 2
few true = omega arith
few false = omega arith

pub overflow_add-count : goal.overflow_add-count
overflow_add-count c =
    let less = below-length c.args.nodes.now c.args.marks.now c.loop-key.key in
    let bit = few (get_or c.args.marks.now c.loop-key.key false) in
    omega (
      arith,
      less,
      bit,
      c.loop-key.invariant.placed.count_is,
      c.from-count.ensures ∙ byte (get_or c.args.marks.now c.loop-key.key false),
      c.requires.met.whole,
      c.requires.few,
    )

pub index-place-requires : goal.index-place-requires
index-place-requires c =
    let at = slice_get_read c.args.nodes.now (length c.args.nodes.now) (c.loop-key.key / 8)
    c.index-nodes-key.result refl (omega (arith, c.requires.met.whole)) c.index-nodes-key.is in
    let below : c.in-Image.child < c.loop-key.key / 8 = c.requires.earlier (c.loop-key.key / 8)
    (Image c.in-Image.x c.in-Image.y c.in-Image.turn c.in-Image.left c.in-Image.map
    c.in-Image.child) (at ∙ ap Some c.in-Image.is) in
    omega (arith, below, c.loop-key.invariant.len, c.number.ensures.few)

pub loop-key-preserved : goal.loop-key-preserved
loop-key-preserved c =
    let nodes = c.args.nodes.now in
    let marks = c.args.marks.now in
    let key = c.loop-key.key in
    let at = slice_get_read nodes (length nodes) (key / 8) c.index-nodes-key.result refl
    (omega (arith, c.requires.met.whole)) c.index-nodes-key.is in
    let places : List ℕ = c.loop-key.places.items in
    elim c.match-nodes-key.branch [
      | in-Plain+in_ok-push-in-Plain w ↦ record {
        len = search rules;
        placed = placed-more_plain nodes marks c.requires.met places c.match-nodes-key.places.items
            key c.loop-key.count c.loop-key.invariant.placed w.in-Plain.field-0
            (at ∙ ap Some w.in-Plain.is) (omega arith) c.match-nodes-key.count
            (w.count-is
            ∙ ap (λ n. c.loop-key.count + n) (w.from-count.ensures ∙ byte (get_or marks key false)))
            (ap (λ (v : Vec ℕ). v.items) w.places-is ∙ w.in_ok-push-in-Plain.ensures.items);
      }
      | in-Image+in_ok-push-in-Image w ↦ record {
        len = search rules;
        placed =
            let below : w.in-Image.child < key / 8 = c.requires.earlier (key / 8)
            (Image w.in-Image.x w.in-Image.y w.in-Image.turn w.in-Image.left w.in-Image.map
            w.in-Image.child) (at ∙ ap Some w.in-Image.is) in
            let number : w.number.result
            ≡ number_of (followed_by w.in-Image.map (numbered (key % 8))) = w.number.ensures.number
            ∙ ap number_of
            (w.followed_by-both.ensures ∙ ap (followed_by w.in-Image.map) w.map_at.ensures) in
            let lt : 8 * w.in-Image.child + w.number.result < length places =
            omega (arith, below, c.loop-key.invariant.placed.size, w.number.ensures.few) in
            let found =
            slice_get_read places (length places) (8 * w.in-Image.child + w.number.result)
            w.index-place.result.now refl lt w.index-place.ensures in
            subst (λ (n : ℕ). ArePlacedBelow nodes marks c.match-nodes-key.places.items (key + 1) n)
            (sym w.count-is)
            (placed-more_image nodes marks c.requires.met places c.match-nodes-key.places.items key
            c.loop-key.count c.loop-key.invariant.placed w.in-Image.x w.in-Image.y w.in-Image.turn
            w.in-Image.left w.in-Image.map w.in-Image.child
            (at ∙ ap Some w.in-Image.is) w.index-place.result.now (subst (λ (n : ℕ).
            slice_get places (8 * w.in-Image.child + n) ≡ Some w.index-place.result.now) number
            found) (ap (λ (v : Vec ℕ). v.items) w.places-is ∙ w.in_ok-push-in-Image.ensures.items));
      }
    ]

pub returns : goal.returns
returns c =
    let e : c.loop-key.key ≡ length c.args.marks.now = omega arith in
    let placed : ArePlacedBelow c.args.nodes.now c.args.marks.now c.loop-key.places.items
    (length c.args.marks.now) c.loop-key.count = subst (λ (k : ℕ). ArePlacedBelow c.args.nodes.now
    c.args.marks.now c.loop-key.places.items k c.loop-key.count) e c.loop-key.invariant.placed in
    record {
      places = record { whole = placed.size; each = placed.each };
      count = placed.count_is;
    }
