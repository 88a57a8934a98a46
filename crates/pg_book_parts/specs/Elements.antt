-- Elements of pages: a tag, what is in it, and the tag that closes it.
use Rattle.std.specs.Prelude.{List, [], ◌∷◌, ◌++◌}
use Rattle.pg_base.specs.Texts.{Bytes}
use Rattle.pg_page.specs.declared.attribute.Attribute.{Attribute}
use Rattle.pg_page.specs.declared.piece.Piece.{Piece}
use Rattle.pg_page.specs.declared.piece.Piece.TheVariants as pieces
use Rattle.pg_page.specs.declared.tag.Tag.{Tag}
use Rattle.pg_page.specs.declared.tag.Tag.TheVariants as tags

-- an element
abbrev pub element : Tag → List Attribute → List Piece → List Piece
element tag attributes inside = pieces.Open tag attributes ∷ (inside ++ pieces.Close tag ∷ [])

-- an element with words alone in it
abbrev pub labelled : Tag → List Attribute → Bytes → List Piece
labelled tag attributes words = element tag attributes (pieces.Words words ∷ [])

-- a paragraph
abbrev pub paragraph : Bytes → List Piece
paragraph words = labelled tags.P [] words
