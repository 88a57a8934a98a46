-- A certificate as a book: a section for each node, and the text of the page.
use Rattle.std.specs.Prelude.{ℕ, ◌+◌, ◌-◌, Bool, ◌&&◌, ◌==◌, if◌then◌else◌, List, []}
use Rattle.std.specs.Prelude.{◌∷◌, ◌++◌, codes, decimal, length, Option, Some, None, slice_get}
use Rattle.std.specs.List.{flat_map, range_with_len}
use Rattle.percent_encoding.specs.Percent.{percent_encode}
use Rattle.percent_encoding.specs.declared.ascii_set.TheConstants.{NON_ALPHANUMERIC}
use Rattle.pg_base.specs.Texts.{Bytes}
use Rattle.pg_base.specs.declared.goal.Goal.{Goal}
use Rattle.pg_base.specs.declared.goal.Goal.TheVariants.{Draw, Win}
use Rattle.pg_base.specs.declared.kind.Kind.{Kind}
use Rattle.pg_base.specs.declared.side.Side.{Side}
use Rattle.pg_cert.specs.Node.{position_of}
use Rattle.pg_cert.specs.declared.cert.Cert.{Cert}
use Rattle.pg_cert.specs.declared.cert.Claim.{Claim}
use Rattle.pg_cert.specs.declared.node.Body.{Body}
use Rattle.pg_cert.specs.declared.node.Body.TheVariants as bodies
use Rattle.pg_cert.specs.declared.node.Node.{Node}
use Rattle.pg_game.specs.declared.game.Game.{Game}
use Rattle.pg_layout.specs.declared.chart.Chart.{Chart}
use Rattle.pg_page.specs.Html.{page_text, worded}
use Rattle.pg_page.specs.declared.attribute.Attribute.{Attribute}
use Rattle.pg_page.specs.declared.attribute.Name.TheVariants as names
use Rattle.pg_page.specs.declared.piece.Piece.{Piece}
use Rattle.pg_page.specs.declared.piece.Piece.TheVariants as pieces
use Rattle.pg_page.specs.declared.tag.LoneTag.TheVariants as lone
use Rattle.pg_page.specs.declared.tag.Tag.TheVariants as tags
unfoldable use Rattle.pg_picture.specs.Svg.{picture_text}
use Rattle.pg_picture.specs.declared.picture.Picture.{Picture}
use Rattle.pg_captions.specs.Legends.{body_lines}
use Rattle.pg_captions.specs.Words.{side_name}
use Rattle.pg_book_parts.specs.Chapters.{link_pieces, number_text, page_id, shown}
use Rattle.pg_book_parts.specs.Elements.{element, labelled, paragraph}
use Rattle.pg_book_parts.specs.Pictures.{over_pieces, shape_pieces, view_text}
use Rattle.pg_book_parts.specs.Origins.{origin_of, origin_pieces}
use Rattle.pg_book.specs.Scenes.{blank_picture, page_picture}
use Rattle.pg_book.specs.Boards.{layout_of}
use Rattle.pg_book.specs.Depths.{depth_pieces, ordered, room_of}
use Rattle.pg_book.specs.Sentences.{body_pieces}
use Rattle.pg_book_parts.specs.declared.chapter.Chapter.{Chapter}
use Rattle.pg_book_parts.specs.declared.layout.Layout.{Layout}
use Rattle.pg_book.specs.declared.front.TheConstants.{LEGEND, LEGEND_LINKS, LEGEND_MARKS}
use Rattle.pg_book.specs.declared.front.TheConstants.{LEGEND_PAIRS, LEGEND_STEPS, NOTHING_RUNS}
use Rattle.pg_book.specs.declared.front.TheConstants.{TITLE}
use Rattle.pg_book.specs.declared.sheet.TheConstants.{BOARD_BEGUN, BOARD_ENDED, STYLE}

-- ---- pages

abbrev pub svg_attributes : Picture → List Attribute
svg_attributes p = worded names.ViewBox (view_text p) ∷ worded names.Role (codes "group") ∷ []

-- a picture, with what is over it
abbrev pub svg_pieces : Picture → List Piece → List Piece
svg_pieces p over = element tags.Svg (svg_attributes p)
    (flat_map shape_pieces p.shapes ++ over)

-- what takes all choices back
abbrev pub reset_pieces : List Piece
reset_pieces = labelled tags.Button (worded names.Type (codes "reset") ∷ [])
    (codes "Take all back")

-- a picture in a form with what takes all choices back
abbrev pub form_pieces : List Piece → List Piece
form_pieces svg = element tags.Form [] (svg ++ reset_pieces)

-- the picture of a node; if it has choices, in a form that takes them back
abbrev pub board_pieces : Layout → Side → Chapter → ℕ → Body → Picture → List Piece
board_pieces layout side chapter page (bodies.Pairs pairs) picture = form_pieces
    (svg_pieces picture (over_pieces layout side chapter page (bodies.Pairs pairs)))
board_pieces layout side chapter page body picture =
    svg_pieces picture (over_pieces layout side chapter page body)

-- a line of a list
abbrev pub line_pieces : Bytes → List Piece
line_pieces line = labelled tags.Li [] line

-- lines
abbrev pub lines_pieces : List Bytes → List Piece
lines_pieces lines = element tags.Ul [] (flat_map line_pieces lines)

-- what the weights of a node are, if it has any
abbrev pub detail_pieces : Body → List Bytes → List Piece
detail_pieces bodies.Potential lines = lines_pieces lines
detail_pieces _ lines = []

-- a link to the legend
abbrev pub legend_link : List Piece
legend_link = labelled tags.A (worded names.Href LEGEND.now ∷ []) (codes "Legend")

-- links to the first page of the claim, and to the legend
abbrev pub leave_pieces : Chapter → List Piece
leave_pieces chapter = element tags.P (worded names.Class (codes "leave") ∷ [])
    (pieces.Words (codes "Begin again: ") ∷ link_pieces chapter (chapter.count - 1)
    ++ (pieces.Words (codes ". ") ∷ legend_link))

-- whether a page is the first of the book, which is shown before any other is chosen
abbrev pub is_first : Chapter → ℕ → Bool
is_first chapter page = chapter.claim == 0 && page == 1

-- the class of a page's section
abbrev pub page_class : Chapter → ℕ → Bytes
page_class chapter page = if is_first chapter page then codes "first" else codes "later"

-- the attributes of a page's section
abbrev pub page_attributes : Chapter → ℕ → List Attribute
page_attributes chapter page = worded names.Id (page_id chapter page)
    ∷ worded names.Class (page_class chapter page) ∷ []

-- the heading of a page
abbrev pub heading_pieces : Chapter → ℕ → List Piece
heading_pieces chapter page = labelled tags.H2 [] (codes "Page " ++ number_text chapter page)

-- a section with this picture and these lines
abbrev pub page_pieces : Layout → Claim → Chapter → ℕ → Body → Picture → List Bytes → List Piece
page_pieces layout claim chapter page body picture lines = element tags.Section
    (page_attributes chapter page)
    (heading_pieces chapter page
    ++ (origin_pieces layout chapter (origin_of claim chapter page)
    ++ (board_pieces layout claim.side chapter page body picture
    ++ (body_pieces layout claim.side chapter body
    ++ (detail_pieces body lines ++ leave_pieces chapter)))))

-- the section of a node
abbrev pub section_pieces : Game → Layout → Claim → Chapter → ℕ → Node → List Piece
section_pieces g layout claim chapter page node =
    page_pieces layout claim chapter page node.body
    (page_picture g layout.chart claim.side node)
    (body_lines g (position_of node) claim.side node.body)

-- the section of a node, if there is one
abbrev pub section_by : Game → Layout → Claim → Chapter → ℕ → Option Node → List Piece
section_by g layout claim chapter page None = []
section_by g layout claim chapter page (Some node) =
    section_pieces g layout claim chapter page node

-- the section of the node of a page
abbrev pub section_at : Game → Layout → Claim → Chapter → ℕ → List Piece
section_at g layout claim chapter page = section_by g layout claim chapter page
    (slice_get claim.nodes (chapter.count - page))

-- ---- claims

-- the pages of the claim of that number, of so many, in a book of that depth
abbrev pub chapter_of : Game → Option ℕ → ℕ → ℕ → Claim → Chapter
chapter_of g depth claims i claim =
    record { claim = i; count = length claim.nodes; room = room_of g depth claims claim }

-- the sections of a claim, from its root on
abbrev pub sections_pieces : Game → Layout → Claim → Chapter → List Piece
sections_pieces g layout claim chapter =
    flat_map (λ i. section_at g layout claim chapter (i + 1)) (range_with_len 0 (shown chapter))

-- the sections of the claim of that number, if there is one
abbrev pub claim_by : Game → Layout → Option ℕ → ℕ → ℕ → Option Claim → List Piece
claim_by g layout depth claims i None = []
claim_by g layout depth claims i (Some claim) =
    sections_pieces g layout claim (chapter_of g depth claims i claim)

-- the sections of all claims
abbrev pub claims_pieces : Game → Layout → Option ℕ → List Claim → List Piece
claims_pieces g layout depth claims =
    flat_map (λ i. claim_by g layout depth (length claims) i (slice_get claims i))
    (range_with_len 0 (length claims))

-- ---- the front

-- what a side reaches
abbrev pub goal_words : Goal → Bytes
goal_words Win = codes " wins if "
goal_words Draw = codes " doesn't lose if "

-- what a claim says
abbrev pub claim_words : Kind → Claim → Bytes
claim_words kind claim = side_name kind claim.side ++ (goal_words claim.goal
    ++ (side_name kind claim.turn ++ codes " moves first"))

-- what a claim says, and how many pages it has
abbrev pub entry_words : Kind → Claim → Chapter → Bytes
entry_words kind claim chapter = claim_words kind claim ++ (codes ". Pages: "
    ++ (decimal chapter.count ++ (codes ", of which this file has "
    ++ (decimal (shown chapter) ++ codes ". "))))

-- the same with a link to the first page
abbrev pub entry_pieces : Kind → Claim → Chapter → List Piece
entry_pieces kind claim chapter = element tags.P []
    (pieces.Words (entry_words kind claim chapter) ∷ link_pieces chapter (chapter.count - 1))

abbrev pub entry_by : Game → Option ℕ → ℕ → ℕ → Option Claim → List Piece
entry_by g depth claims i None = []
entry_by g depth claims i (Some claim) =
    entry_pieces g.kind claim (chapter_of g depth claims i claim)

-- all claims
abbrev pub entries_pieces : Game → Option ℕ → List Claim → List Piece
entries_pieces g depth claims =
    flat_map (λ i. entry_by g depth (length claims) i (slice_get claims i))
    (range_with_len 0 (length claims))

-- what marks and colours mean
abbrev pub legend_attributes : List Attribute
legend_attributes = worded names.Id LEGEND.now ∷ worded names.Class (codes "later") ∷ []

abbrev pub legend_heading : List Piece
legend_heading = labelled tags.H2 [] (codes "Legend")

abbrev pub legend_pieces : List Piece
legend_pieces = element tags.Section legend_attributes
    (legend_heading ++ (paragraph LEGEND_MARKS.now ++ (paragraph LEGEND_LINKS.now
    ++ (paragraph LEGEND_PAIRS.now
    ++ (paragraph LEGEND_STEPS.now ++ paragraph NOTHING_RUNS.now)))))

-- what is said of the page
abbrev pub meta_pieces : Bytes → Bytes → List Piece
meta_pieces name content =
    pieces.Lone lone.Meta (worded names.Name name ∷ worded names.Content content ∷ []) ∷ []

abbrev pub charset_pieces : List Piece
charset_pieces = pieces.Lone lone.Meta (worded names.Charset (codes "utf-8") ∷ []) ∷ []

-- the rule by which a board with this text is behind all pictures
unfoldable pub board_rule : Bytes → Bytes
board_rule drawn =
    BOARD_BEGUN.now ++ (percent_encode NON_ALPHANUMERIC drawn ++ BOARD_ENDED.now)

-- the style sheet with the picture of a board
unfoldable pub sheet_text : Picture → Bytes
sheet_text board = STYLE.now ++ board_rule (picture_text board)

abbrev pub sheet_pieces : Picture → List Piece
sheet_pieces board = pieces.Style (sheet_text board) ∷ []

abbrev pub title_pieces : List Piece
title_pieces = labelled tags.Title [] TITLE.now

abbrev pub viewport_pieces : List Piece
viewport_pieces = meta_pieces (codes "viewport") (codes "width=device-width, initial-scale=1")

abbrev pub scheme_pieces : List Piece
scheme_pieces = meta_pieces (codes "color-scheme") (codes "light dark")

abbrev pub metas_pieces : List Piece
metas_pieces = charset_pieces ++ (viewport_pieces ++ scheme_pieces)

abbrev pub head_pieces : Picture → List Piece
head_pieces board =
    element tags.Head [] (metas_pieces ++ (title_pieces ++ sheet_pieces board))

-- the title, what the claims say, and how far the book reads on
abbrev pub top_pieces : List Piece
top_pieces = labelled tags.H1 [] TITLE.now

abbrev pub header_pieces : Game → Option ℕ → List Claim → List Piece
header_pieces g depth claims = element tags.Header []
    (top_pieces ++ (entries_pieces g depth claims ++ depth_pieces depth))

-- the sections, and the legend
abbrev pub main_pieces : Game → Layout → Option ℕ → List Claim → List Piece
main_pieces g layout depth claims =
    element tags.Main [] (claims_pieces g layout depth claims ++ legend_pieces)

-- ---- books

-- what is shown
abbrev pub shown_pieces : Game → Layout → Option ℕ → List Claim → List Piece
shown_pieces g layout depth claims =
    element tags.Body [] (header_pieces g depth claims ++ main_pieces g layout depth claims)

-- the tag that opens the page
abbrev pub html_pieces : List Piece
html_pieces = pieces.Open tags.Html (worded names.Lang (codes "en") ∷ []) ∷ []

-- the page of a certificate whose nodes are in their order, and whose moves are named and placed by
-- a layout
abbrev pub book_by : Game → Layout → Option ℕ → Cert → List Piece
book_by g layout depth c = element tags.Html (worded names.Lang (codes "en") ∷ [])
    (head_pieces (blank_picture g layout.chart) ++ shown_pieces g layout depth c.claims)

-- the page of a certificate, with the points at the places of a layout if there is one, and to that
-- depth if there is one
abbrev pub book_pieces : Option Chart → Game → Cert → Option ℕ → List Piece
book_pieces chart g c depth = book_by g (layout_of chart g) depth (ordered g depth c)

-- its text
abbrev pub book_text : Option Chart → Game → Cert → Option ℕ → Bytes
book_text chart g c depth = page_text (book_pieces chart g c depth)
