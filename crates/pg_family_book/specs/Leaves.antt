-- The pages of claims, and the book that they make.
use Rattle.std.specs.Prelude.{ℕ, List, [], ◌∷◌, ◌++◌, map, codes, Option, Some, None}
use Rattle.std.specs.List.{flat_map}
use Rattle.pg_base.specs.Texts.{Bytes}
use Rattle.pg_book.specs.Books.{heading_pieces, legend_attributes, legend_heading, legend_link}
use Rattle.pg_book.specs.Books.{metas_pieces, page_attributes, title_pieces, top_pieces}
use Rattle.pg_book.specs.declared.front.TheConstants.{LEGEND, NOTHING_RUNS}
use Rattle.pg_book.specs.declared.sheet.TheConstants.{STYLE}
use Rattle.pg_book_parts.specs.Chapters.{link_pieces, page_id}
use Rattle.pg_book_parts.specs.Elements.{element, labelled, paragraph}
use Rattle.pg_book_parts.specs.Pictures.{shape_pieces, view_text}
use Rattle.pg_book_parts.specs.declared.chapter.Chapter.{Chapter}
use Rattle.pg_page.specs.Html.{page_text, worded}
use Rattle.pg_page.specs.declared.attribute.Attribute.{Attribute}
use Rattle.pg_page.specs.declared.attribute.Name.TheVariants as names
use Rattle.pg_page.specs.declared.piece.Piece.{Piece}
use Rattle.pg_page.specs.declared.piece.Piece.TheVariants as pieces
use Rattle.pg_page.specs.declared.tag.Tag.{Tag}
use Rattle.pg_page.specs.declared.tag.Tag.TheVariants as tags
use Rattle.pg_picture.specs.declared.picture.Picture.{Picture}
use Rattle.pg_family_book.specs.declared.leaf.Leaf.{Leaf}
use Rattle.pg_family_book.specs.declared.leaf.Table.{Table}
use Rattle.pg_family_book.specs.declared.printing.TheConstants.{TABLES}
use Rattle.pg_family_book.specs.declared.tables.TheConstants.{DRAWN}

-- ---- tables and pictures

-- a cell, with the tag of its kind
abbrev pub cell_pieces : Tag → Bytes → List Piece
cell_pieces tag words = labelled tag [] words

-- a row
abbrev pub row_pieces : Tag → List Bytes → List Piece
row_pieces tag cells = element tags.Tr [] (flat_map (cell_pieces tag) cells)

-- a table: the headings of its columns, and its rows
abbrev pub table_pieces : Table → List Piece
table_pieces table = element tags.Table []
    (row_pieces tags.Th table.heads ++ flat_map (row_pieces tags.Td) table.rows)

abbrev pub drawn_attributes : Picture → List Attribute
drawn_attributes p = worded names.ViewBox (view_text p) ∷ worded names.Role (codes "img")
    ∷ worded names.AriaLabel DRAWN.now ∷ []

-- a picture
abbrev pub drawn_pieces : Picture → List Piece
drawn_pieces p = element tags.Svg (drawn_attributes p) (flat_map shape_pieces p.shapes)

-- a picture, if there is one
abbrev pub picture_pieces : Option Picture → List Piece
picture_pieces None = []
picture_pieces (Some p) = drawn_pieces p

-- ---- sections

-- what the one page of the claim of that number is numbered by
abbrev pub chapter_at : ℕ → Chapter
chapter_at i = record { claim = i; count = 1; room = 1 }

-- a link to the legend
abbrev pub away_pieces : List Piece
away_pieces = element tags.P (worded names.Class (codes "leave") ∷ []) legend_link

-- the section of a claim
abbrev pub leaf_pieces : Leaf → List Piece
leaf_pieces leaf = element tags.Section (page_attributes (chapter_at leaf.number) 1)
    (heading_pieces (chapter_at leaf.number) 1
    ++ (picture_pieces leaf.picture
    ++ (flat_map paragraph leaf.words
    ++ (table_pieces leaf.table ++ away_pieces))))

-- what a claim says, with a link to its page
abbrev pub entry_pieces : Leaf → List Piece
entry_pieces leaf = element tags.P []
    (pieces.Words leaf.said ∷ link_pieces (chapter_at leaf.number) 0)

-- ---- the book

-- the style sheet
abbrev pub sheet_words : Bytes
sheet_words = STYLE.now ++ TABLES.now

abbrev pub styled_pieces : List Piece
styled_pieces = pieces.Style sheet_words ∷ []

abbrev pub leaves_head : List Piece
leaves_head = element tags.Head [] (metas_pieces ++ (title_pieces ++ styled_pieces))

abbrev pub leaves_header : List Leaf → List Piece
leaves_header leaves = element tags.Header [] (top_pieces ++ flat_map entry_pieces leaves)

-- what marks, colours and words mean
abbrev pub explained_pieces : Bytes → List Piece
explained_pieces legend = element tags.Section legend_attributes
    (legend_heading ++ (paragraph legend ++ paragraph NOTHING_RUNS.now))

abbrev pub leaves_main : Bytes → List Leaf → List Piece
leaves_main legend leaves =
    element tags.Main [] (flat_map leaf_pieces leaves ++ explained_pieces legend)

abbrev pub leaves_body : Bytes → List Leaf → List Piece
leaves_body legend leaves =
    element tags.Body [] (leaves_header leaves ++ leaves_main legend leaves)

-- the page
abbrev pub leaves_page : Bytes → List Leaf → List Piece
leaves_page legend leaves = element tags.Html (worded names.Lang (codes "en") ∷ [])
    (leaves_head ++ leaves_body legend leaves)

-- its text
abbrev pub leaves_text : Bytes → List Leaf → Bytes
leaves_text legend leaves = page_text (leaves_page legend leaves)

-- ---- identities

-- that of a claim's section
abbrev pub leaf_id : Leaf → Bytes
leaf_id leaf = page_id (chapter_at leaf.number) 1

-- those of all sections
abbrev pub leaves_ids : List Leaf → List Bytes
leaves_ids leaves = map leaf_id leaves ++ LEGEND.now ∷ []
