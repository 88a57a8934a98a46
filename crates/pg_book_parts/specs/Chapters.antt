-- The pages of a claim, their numbers, and links to them.
use Rattle.std.specs.Prelude.{ℕ, ◌+◌, ◌-◌, Bool, true, false, ◌&&◌, nat_lt, nat_le, min, List}
use Rattle.std.specs.Prelude.{[], ◌∷◌, ◌++◌, if◌then◌else◌, codes, decimal}
use Rattle.pg_base.specs.Texts.{Bytes}
use Rattle.pg_page.specs.Html.{worded}
use Rattle.pg_page.specs.declared.attribute.Name.TheVariants as names
use Rattle.pg_page.specs.declared.piece.Piece.{Piece}
use Rattle.pg_page.specs.declared.piece.Piece.TheVariants as pieces
use Rattle.pg_page.specs.declared.tag.Tag.TheVariants as tags
use Rattle.pg_book_parts.specs.Elements.{labelled}
use Rattle.pg_book_parts.specs.declared.chapter.Chapter.{Chapter}
use Rattle.pg_book_parts.specs.declared.chapter.TheConstants.{MISSING}

-- ---- numbers

-- the page of a node, counted from 1: the last node is the root, where one begins to read
abbrev pub page_of : Chapter → ℕ → ℕ
page_of chapter node = chapter.count - node

-- how many pages of the claim are in the book
abbrev pub shown : Chapter → ℕ
shown chapter = min chapter.count chapter.room

-- whether the page of a node is one of them
abbrev pub has_page : Chapter → ℕ → Bool
has_page chapter node = nat_lt node chapter.count && nat_le (page_of chapter node) chapter.room

-- ---- words

-- the number of a page, after that of its claim if it isn't the first
abbrev pub number_text : Chapter → ℕ → Bytes
number_text chapter page =
    (if nat_lt 0 chapter.claim then decimal (chapter.claim + 1) ++ codes "-" else [])
    ++ decimal page

-- the identity of a page's section
abbrev pub page_id : Chapter → ℕ → Bytes
page_id chapter page = codes "p" ++ number_text chapter page

-- ---- links

-- a link to a page, or its number alone
abbrev pub link_by : Chapter → ℕ → Bool → List Piece
link_by chapter page true =
    labelled tags.A (worded names.Href (page_id chapter page) ∷ [])
    (codes "page " ++ number_text chapter page)
link_by chapter page false =
    pieces.Words (MISSING.now ++ number_text chapter page) ∷ []

-- a link to the page of a node if the book has it
abbrev pub link_pieces : Chapter → ℕ → List Piece
link_pieces chapter node = link_by chapter (page_of chapter node) (has_page chapter node)
