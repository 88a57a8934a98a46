-- What a scan makes of the parts of a picture's text.
use Rattle.std.proofs.Common.{◌≡◌, ℕ, zero, suc, ◌+◌, ◌<◌, ◌%◌, ◌/◌, ◌==◌, ◌&&◌, nat_le, nat_lt}
use Rattle.std.proofs.Common.{Bool, true, false, if◌then◌else◌, List, [], ◌∷◌, ◌++◌, codes, decimal}
use Rattle.std.proofs.Common.{Option, Some, None, refl, ap, ◌∙◌, arith, lt-ltb}
use Rattle.std.specs.List.{flat_map}
use Rattle.std.specs.Fmt.{digits_onto, digit_glyph, digits}
use Rattle.pg_base.specs.Texts.{Bytes}
use Rattle.pg_picture.specs.Svg.{Attribute, attribute_text, begun, class_name, copy_text, escaped}
use Rattle.pg_picture.specs.Svg.{escaped_byte, filled, ground_text, head, inside_of, lone, lowered}
use Rattle.pg_picture.specs.Svg.{numbered}
use Rattle.pg_picture.specs.Svg.{painted, path_of, picture_text, place_text, shape_text}
use Rattle.pg_picture.specs.Svg.{shift_of, size_attributes}
use Rattle.pg_picture.specs.Tags.{CloseInOrder, Scan, next, scan}
use Rattle.pg_picture.specs.Tags.Scan.{Between, Begun, Opening, Within, Quoted, Closing}
use Rattle.pg_picture.specs.declared.paint.Paint.{Paint}
use Rattle.pg_picture.specs.declared.paint.Paint.TheVariants.{Free, OfX, OfY, Terminal, Vertex}
use Rattle.pg_picture.specs.declared.paint.Paint.TheVariants.{Line, Edge, EdgeOfX, EdgeOfY, Pair}
use Rattle.pg_picture.specs.declared.paint.Paint.TheVariants.{First, Second, Extra, Step, Answer}
use Rattle.pg_picture.specs.declared.paint.Paint.TheVariants.{Move, Reply, Fault, Corner, Number}
use Rattle.pg_picture.specs.declared.paint.Paint.TheVariants.{Plate, Mark, Weight, Legend, Heading}
use Rattle.pg_picture.specs.declared.picture.Picture.{Picture}
use Rattle.pg_picture.specs.declared.shape.Place.{Place}
use Rattle.pg_picture.specs.declared.shape.Shape.{Shape}
use Rattle.pg_picture.specs.declared.shape.Shape.TheVariants.{Square, Disc, Stroke, Bow, Words}
use Rattle.pg_picture.specs.declared.style.TheConstants.{NAME_SPACE, STYLE}

scan-append : (s : Scan) (a b : Bytes) → scan s (a ++ b) ≡ scan (scan s a) b
scan-append s [] b = refl
scan-append s (c ∷ cs) b = scan-append (next s c) cs b

-- a text and one behind it
through : (s t u : Scan) (a b : Bytes) → scan s a ≡ t → scan t b ≡ u → scan s (a ++ b) ≡ u
through s t u a b p q = scan-append s a b ∙ ap (λ x. scan x b) p ∙ q

-- ---- values

-- a text that may stand between quotation marks
record IsValue (t : Bytes) : Type 0 where
  stays : (name : Bytes) (tags : List Bytes) → scan (Quoted name tags) t ≡ Quoted name tags

values : (a b : Bytes) → IsValue a → IsValue b → IsValue (a ++ b)
values a b p q = record {
  stays = λ name tags. through (Quoted name tags) (Quoted name tags) (Quoted name tags) a b
      (p.stays name tags) (q.stays name tags);
}

no_sign : (d k : ℕ) → d < 10 → k < 48 → ((48 + d) == k) ≡ false
no_sign d k small low = grind arith

no_bracket : (d : ℕ) → d < 10 → ((48 + d) == 60) ≡ false
no_bracket d small = grind arith

glyph-value : (d : ℕ) (after : Bytes)
    → d < 10
    → IsValue after
    → IsValue (digit_glyph false d ∷ after)
glyph-value d after small v =
    let digit : nat_lt d 10 ≡ true = lt-ltb d 10 small in
    record {
      stays = λ name tags. rw (digit, no_sign d 34 small (omega arith), no_bracket d small)
          (v.stays name tags);
    }

digits-value : (k n : ℕ) (after : Bytes) → IsValue after → IsValue (digits_onto k 10 false n after)
digits-value zero n after v = v
digits-value (suc k) n after v =
    let more : IsValue (digit_glyph false (n % 10) ∷ after) =
    glyph-value (n % 10) after (omega arith) v in
    elim (n / 10 == 0) as (λ b. IsValue (if b
    then digit_glyph false (n % 10) ∷ after
    else digits_onto k 10 false (n / 10) (digit_glyph false (n % 10) ∷ after))) [
      | true ↦ more
      | false ↦ digits-value k (n / 10) (digit_glyph false (n % 10) ∷ after) more
    ]

decimal-value : (n : ℕ) → IsValue (decimal n)
unfolding digits
decimal-value n = digits-value 64 n [] (record { stays = λ name tags. refl })

class-value : (paint : Paint) → IsValue (class_name paint)
unfolding class_name
class-value Free = record { stays = λ name tags. refl }
class-value OfX = record { stays = λ name tags. refl }
class-value OfY = record { stays = λ name tags. refl }
class-value Terminal = record { stays = λ name tags. refl }
class-value Vertex = record { stays = λ name tags. refl }
class-value Line = record { stays = λ name tags. refl }
class-value Edge = record { stays = λ name tags. refl }
class-value EdgeOfX = record { stays = λ name tags. refl }
class-value EdgeOfY = record { stays = λ name tags. refl }
class-value (Pair hue) = values (codes "pair-") (decimal (hue % 8)) (record {
  stays = λ name tags. refl;
}) (decimal-value (hue % 8))
class-value First = record { stays = λ name tags. refl }
class-value Second = record { stays = λ name tags. refl }
class-value Extra = record { stays = λ name tags. refl }
class-value Step = record { stays = λ name tags. refl }
class-value Answer = record { stays = λ name tags. refl }
class-value Move = record { stays = λ name tags. refl }
class-value Reply = record { stays = λ name tags. refl }
class-value Fault = record { stays = λ name tags. refl }
class-value Corner = record { stays = λ name tags. refl }
class-value Number = record { stays = λ name tags. refl }
class-value Plate = record { stays = λ name tags. refl }
class-value Mark = record { stays = λ name tags. refl }
class-value Weight = record { stays = λ name tags. refl }
class-value Legend = record { stays = λ name tags. refl }
class-value Heading = record { stays = λ name tags. refl }

place-value : (p : Place) → IsValue (place_text p)
place-value p = values (decimal p.across) (codes " " ++ decimal p.down) (decimal-value p.across)
    (values (codes " ") (decimal p.down) (record {
      stays = λ name tags. refl;
    }) (decimal-value p.down))

-- ---- attributes

-- an attribute that may stand in a tag
record IsFit (a : Attribute) : Type 0 where
  name : (tag : Bytes) (tags : List Bytes) → scan (Within tag tags) a.name ≡ Within tag tags
  value : IsValue a.value

-- a tag with an attribute more
attribute-stays : (a : Attribute)
    → IsFit a
    → (tag : Bytes) (tags : List Bytes)
    → scan (Within tag tags) (attribute_text a) ≡ Within tag tags
unfolding attribute_text
attribute-stays a fit tag tags = through (Within tag tags) (Within tag tags)
    (Within tag tags) a.name (codes "=\"" ++ (a.value ++ codes "\"")) (fit.name tag tags)
    (through (Quoted tag tags) (Quoted tag tags) (Within tag tags) a.value (codes "\"")
    (fit.value.stays tag tags) refl)

-- the first attribute of a tag
attribute-begins : (a : Attribute)
    → IsFit a
    → (tag : Bytes) (tags : List Bytes)
    → scan (Opening tag tags) (attribute_text a) ≡ Within tag tags
unfolding attribute_text
attribute-begins a fit tag tags = through (Within tag tags) (Within tag tags)
    (Within tag tags) a.name (codes "=\"" ++ (a.value ++ codes "\"")) (fit.name tag tags)
    (through (Quoted tag tags) (Quoted tag tags) (Within tag tags) a.value (codes "\"")
    (fit.value.stays tag tags) refl)

data AreFit : List Attribute → Type 0 where
  none : AreFit []
  also : {a : Attribute} {rest : List Attribute} → IsFit a → AreFit rest → AreFit (a ∷ rest)

attributes-stay : (rest : List Attribute)
    → AreFit rest
    → (tag : Bytes) (tags : List Bytes)
    → scan (Within tag tags) (flat_map attribute_text rest) ≡ Within tag tags
attributes-stay [] fit tag tags = refl
attributes-stay (a ∷ rest) (AreFit.also first fit) tag tags = through (Within tag tags)
    (Within tag tags) (Within tag tags) (attribute_text a) (flat_map attribute_text rest)
    (attribute-stays a first tag tags) (attributes-stay rest fit tag tags)

-- ---- tags

-- a name that a tag may have
record IsName (name : Bytes) : Type 0 where
  opens : (tags : List Bytes) → scan (Begun tags) name ≡ Opening name tags
  closes : (tags : List Bytes) → scan (Closing name tags) (name ++ codes ">\n") ≡ Between tags

-- a tag with attributes, but for its end
begun-within : (name : Bytes) (a : Attribute) (rest : List Attribute) (tags : List Bytes)
    → IsName name
    → IsFit a
    → AreFit rest
    → scan (Between tags) (begun name (a ∷ rest)) ≡ Within name tags
begun-within name a rest tags named first fit = through (Begun tags) (Opening name tags)
    (Within name tags) name (attribute_text a ++ flat_map attribute_text rest) (named.opens tags)
    (through (Opening name tags) (Within name tags) (Within name tags) (attribute_text a)
    (flat_map attribute_text rest) (attribute-begins a first name tags)
    (attributes-stay rest fit name tags))

-- a text between tags, after which the same tags are open
record IsWhole (t : Bytes) : Type 0 where
  whole : (tags : List Bytes) → scan (Between tags) t ≡ Between tags

wholes : (a b : Bytes) → IsWhole a → IsWhole b → IsWhole (a ++ b)
wholes a b p q = record {
  whole = λ tags. through (Between tags) (Between tags) (Between tags) a b (p.whole tags)
      (q.whole tags);
}

lone-whole : (name : Bytes) (a : Attribute) (rest : List Attribute)
    → IsName name
    → IsFit a
    → AreFit rest
    → IsWhole (lone name (a ∷ rest))
lone-whole name a rest named first fit = record {
  whole = λ tags. through (Between tags) (Within name tags) (Between tags) (begun name (a ∷ rest))
      (codes "/>\n") (begun-within name a rest tags named first fit) refl;
}

-- what stands in a tag, and the tag that closes it
inside-whole : (name inside : Bytes) (tags : List Bytes)
    → IsName name
    → IsWhole inside
    → scan (Between (name ∷ tags)) (inside ++ (codes "</" ++ (name ++ codes ">\n"))) ≡ Between tags
inside-whole name inside tags named whole =
    through (Between (name ∷ tags)) (Between (name ∷ tags)) (Between tags) inside
    (codes "</" ++ (name ++ codes ">\n")) (whole.whole (name ∷ tags)) (named.closes tags)

filled-whole : (name : Bytes) (a : Attribute) (rest : List Attribute) (inside : Bytes)
    → IsName name
    → IsFit a
    → AreFit rest
    → IsWhole inside
    → IsWhole (filled name (a ∷ rest) inside)
filled-whole name a rest inside named first fit whole = record {
  whole = λ tags. through (Between tags) (Within name tags) (Between tags) (begun name (a ∷ rest))
      (codes ">" ++ (inside ++ (codes "</" ++ (name ++ codes ">\n"))))
      (begun-within name a rest tags named first fit) (inside-whole name inside tags named whole);
}

plain-whole : (name inside : Bytes) → IsName name → IsWhole inside → IsWhole (filled name [] inside)
plain-whole name inside named whole = record {
  whole = λ tags. through (Between tags) (Opening name tags) (Between tags) (begun name [])
      (codes ">" ++ (inside ++ (codes "</" ++ (name ++ codes ">\n"))))
      (through (Begun tags) (Opening name tags) (Opening name tags) name [] (named.opens tags) refl)
      (inside-whole name inside tags named whole);
}

-- ---- words

choice : (b : Bool) (t u : Bytes) → IsWhole t → IsWhole u → IsWhole (if b then t else u)
choice true t u p q = p
choice false t u p q = q

other_byte : ℕ → Bytes
other_byte c = if c == 62
    then codes "&gt;"
    else if c == 34
    then codes "&quot;"
    else if nat_le 32 c && nat_lt c 127
    then c ∷ []
    else codes "?"

other-whole : (c : ℕ) → (c == 60) ≡ false → IsWhole (other_byte c)
unfolding other_byte
other-whole c e =
    choice (c == 62) _ _ (record { whole = λ tags. refl }) (choice (c == 34) _ _ (record {
      whole = λ tags. refl;
    }) (choice (nat_le 32 c && nat_lt c 127) (c ∷ []) _ (record {
      whole = λ tags. rw e refl;
    }) (record { whole = λ tags. refl })))

bracket-whole : (c : ℕ) (b : Bool)
    → (c == 60) ≡ b
    → IsWhole (if b then codes "&lt;" else other_byte c)
bracket-whole c true e = record { whole = λ tags. refl }
bracket-whole c false e = other-whole c e

escaped_byte-whole : (c : ℕ) → IsWhole (escaped_byte c)
unfolding other_byte
escaped_byte-whole c =
    choice (c == 38) _ _ (record { whole = λ tags. refl }) (bracket-whole c (c == 60) refl)

escaped-whole : (words : Bytes) → IsWhole (escaped words)
escaped-whole [] = record { whole = λ tags. refl }
escaped-whole (c ∷ cs) =
    wholes (escaped_byte c) (escaped cs) (escaped_byte-whole c) (escaped-whole cs)

-- ---- shapes

number-fit : (name : Bytes) (n : ℕ)
    → ((tag : Bytes) (tags : List Bytes) → scan (Within tag tags) name ≡ Within tag tags)
    → IsFit (numbered name n)
number-fit name n named = record { name = named; value = decimal-value n }

paint-fit : (paint : Paint) → IsFit (painted paint)
paint-fit paint = record { name = λ tag tags. refl; value = class-value paint }

lowered-fit : IsFit lowered
lowered-fit = record { name = λ tag tags. refl; value = record { stays = λ name tags. refl } }

path-fit : (from bend to : Place) → IsFit (path_of from bend to)
path-fit from bend to = record {
  name = λ tag tags. refl;
  value = values (codes "M") _ (record {
    stays = λ name tags. refl;
  }) (values (place_text from) _ (place-value from) (values (codes "Q") _ (record {
    stays = λ name tags. refl;
  }) (values (place_text bend) _ (place-value bend) (values (codes " ") (place_text to) (record {
    stays = λ name tags. refl;
  }) (place-value to)))));
}

shape-whole : (s : Shape) → IsWhole (shape_text s)
unfolding shape_text
shape-whole (Square corner side paint) = lone-whole (codes "rect") (painted paint) _ (record {
  opens = λ tags. refl;
  closes = λ tags. refl;
}) (paint-fit paint)
    (AreFit.also (number-fit (codes "x") corner.across (λ tag tags. refl))
    (AreFit.also (number-fit (codes "y") corner.down (λ tag tags. refl))
    (AreFit.also (number-fit (codes "width") side (λ tag tags. refl))
    (AreFit.also (number-fit (codes "height") side (λ tag tags. refl)) AreFit.none))))
shape-whole (Disc centre radius paint) = lone-whole (codes "circle") (painted paint) _ (record {
  opens = λ tags. refl;
  closes = λ tags. refl;
}) (paint-fit paint)
    (AreFit.also (number-fit (codes "cx") centre.across (λ tag tags. refl))
    (AreFit.also (number-fit (codes "cy") centre.down (λ tag tags. refl))
    (AreFit.also (number-fit (codes "r") radius (λ tag tags. refl)) AreFit.none)))
shape-whole (Stroke from to paint) = lone-whole (codes "line") (painted paint) _ (record {
  opens = λ tags. refl;
  closes = λ tags. refl;
}) (paint-fit paint)
    (AreFit.also (number-fit (codes "x1") from.across (λ tag tags. refl))
    (AreFit.also (number-fit (codes "y1") from.down (λ tag tags. refl))
    (AreFit.also (number-fit (codes "x2") to.across (λ tag tags. refl))
    (AreFit.also (number-fit (codes "y2") to.down (λ tag tags. refl)) AreFit.none))))
shape-whole (Bow from bend to paint) = lone-whole (codes "path") (painted paint) _ (record {
  opens = λ tags. refl;
  closes = λ tags. refl;
}) (paint-fit paint) (AreFit.also (path-fit from bend to) AreFit.none)
shape-whole (Words at words paint) = filled-whole (codes "text") (painted paint) _ (escaped words)
    (record { opens = λ tags. refl; closes = λ tags. refl }) (paint-fit paint)
    (AreFit.also (number-fit (codes "x") at.across (λ tag tags. refl))
    (AreFit.also (number-fit (codes "y") at.down (λ tag tags. refl))
    (AreFit.also lowered-fit AreFit.none))) (escaped-whole words)

shapes-whole : (ss : List Shape) → IsWhole (flat_map shape_text ss)
shapes-whole [] = record { whole = λ tags. refl }
shapes-whole (s ∷ ss) =
    wholes (shape_text s) (flat_map shape_text ss) (shape-whole s) (shapes-whole ss)

-- ---- copies

shift-fit : (place : Place) → IsFit (shift_of place)
shift-fit place = record {
  name = λ tag tags. refl;
  value = values (codes "translate(") _ (record {
    stays = λ name tags. refl;
  }) (values (place_text place) (codes ")") (place-value place) (record {
    stays = λ name tags. refl;
  }));
}

copy-whole : (ss : List Shape) (place : Place) → IsWhole (copy_text ss place)
unfolding copy_text
copy-whole ss place = filled-whole (codes "g") (shift_of place) [] _
    (record { opens = λ tags. refl; closes = λ tags. refl }) (shift-fit place) AreFit.none
    (wholes (codes "\n") (flat_map shape_text ss) (record {
      whole = λ tags. refl;
    }) (shapes-whole ss))

copies-whole : (ss : List Shape) (places : List Place) → IsWhole (flat_map (copy_text ss) places)
copies-whole ss [] = record { whole = λ tags. refl }
copies-whole ss (place ∷ places) = wholes (copy_text ss place) (flat_map (copy_text ss) places)
    (copy-whole ss place) (copies-whole ss places)

-- ---- pictures

style-whole : IsWhole STYLE.now
style-whole = record { whole = λ tags. refl }

ground-whole : (width height : ℕ) → IsWhole (ground_text width height)
unfolding ground_text
ground-whole width height = lone-whole (codes "rect") (record {
  name = codes "class";
  value = codes "ground";
}) _ (record { opens = λ tags. refl; closes = λ tags. refl }) (record {
  name = λ tag tags. refl;
  value = record { stays = λ name tags. refl };
})
    (AreFit.also (number-fit (codes "width") width (λ tag tags. refl))
    (AreFit.also (number-fit (codes "height") height (λ tag tags. refl)) AreFit.none))

inside_of-whole : (p : Picture) → IsWhole (inside_of p)
unfolding inside_of
inside_of-whole p = wholes (filled (codes "title") [] (escaped p.title)) _
    (plain-whole (codes "title") (escaped p.title) (record {
      opens = λ tags. refl;
      closes = λ tags. refl;
    }) (escaped-whole p.title))
    (wholes (filled (codes "style") [] STYLE.now)
    (ground_text p.width p.height
    ++ (flat_map shape_text p.shapes ++ flat_map (copy_text p.shapes) p.copies))
    (plain-whole (codes "style") STYLE.now (record {
      opens = λ tags. refl;
      closes = λ tags. refl;
    }) style-whole)
    (wholes (ground_text p.width p.height)
    (flat_map shape_text p.shapes ++ flat_map (copy_text p.shapes) p.copies)
    (ground-whole p.width p.height)
    (wholes (flat_map shape_text p.shapes) (flat_map (copy_text p.shapes) p.copies)
    (shapes-whole p.shapes) (copies-whole p.shapes p.copies))))

sizes-fit : (width height : ℕ) (size : Option ℕ) → AreFit (size_attributes width height size)
sizes-fit width height None = AreFit.none
sizes-fit width height (Some size) =
    AreFit.also (number-fit (codes "width") size (λ tag tags. refl))
    (AreFit.also (number-fit (codes "height") _ (λ tag tags. refl)) AreFit.none)

head-within : (width height : ℕ) (size : Option ℕ)
    → scan (Between []) (head width height size) ≡ Within (codes "svg") []
unfolding head
head-within width height size = begun-within (codes "svg") (record {
  name = codes "xmlns";
  value = NAME_SPACE.now;
}) _ [] (record { opens = λ tags. refl; closes = λ tags. refl }) (record {
  name = λ tag tags. refl;
  value = record { stays = λ name tags. refl };
}) (AreFit.also (record {
  name = λ tag tags. refl;
  value = values (codes "0 0 ") _ (record {
    stays = λ name tags. refl;
  }) (values (decimal width) _ (decimal-value width) (values (codes " ") (decimal height) (record {
    stays = λ name tags. refl;
  }) (decimal-value height)));
}) (sizes-fit width height size))

pub picture-closes : (p : Picture) → CloseInOrder (picture_text p)
unfolding picture_text
picture-closes p =
    through (Between []) (Within (codes "svg") []) (Between []) (head p.width p.height p.size)
    (codes ">\n" ++ (inside_of p ++ codes "</svg>\n")) (head-within p.width p.height p.size)
    (through (Between (codes "svg" ∷ [])) (Between (codes "svg" ∷ [])) (Between []) (inside_of p)
    (codes "</svg>\n") ((inside_of-whole p).whole (codes "svg" ∷ [])) refl)
