-- Books of claims are whole, have the sections that they owe, and their links lead to these.
use Rattle.std.proofs.Common.{◌≡◌, ◌∙◌, ℕ, zero, suc, ◌<◌, List, [], ◌∷◌, ◌++◌, map, Option, Some}
use Rattle.std.proofs.Common.{None, refl, sym, ap, subst, arith, true, Bool, false}
use Rattle.std.specs.Prelude.{codes}
use Rattle.std.specs.List.{All, Contains, flat_map}
use Rattle.std.proofs.lemmas.List.Elements.{All-nil, Contains-append_left, Contains-append_right}
use Rattle.pg_base.specs.Texts.{Bytes}
use Rattle.pg_book.proofs.Wholes.{metas-part}
use Rattle.pg_book.specs.Books.{heading_pieces, legend_attributes, legend_heading, legend_link}
use Rattle.pg_book.specs.Books.{metas_pieces, page_attributes, title_pieces, top_pieces}
use Rattle.pg_book.specs.declared.front.TheConstants.{LEGEND, NOTHING_RUNS, TITLE}
use Rattle.pg_book_parts.proofs.Parts.{IsPart, both-parts, each-part, element-part, label-part}
use Rattle.pg_book_parts.proofs.Parts.{leads-one, no-part, plain-part, said-part, style-part}
use Rattle.pg_book_parts.proofs.Parts.{then-part, words-part}
use Rattle.pg_book_parts.proofs.Shown.{paragraph-part, shape-part}
use Rattle.pg_book_parts.specs.Chapters.{link_pieces, number_text, page_id}
use Rattle.pg_book_parts.specs.Elements.{paragraph}
use Rattle.pg_book_parts.specs.Pictures.{shape_pieces}
use Rattle.pg_book_parts.specs.Reading.{section_ids, targets}
use Rattle.pg_game.proofs.Members.{Contains-head, Contains-tail}
use Rattle.pg_page.specs.Events.{IsWhole}
use Rattle.pg_page.specs.Html.{worded}
use Rattle.pg_page.specs.declared.attribute.Name.TheVariants as names
use Rattle.pg_page.specs.declared.piece.Piece.{Piece}
use Rattle.pg_page.specs.declared.piece.Piece.TheVariants as pieces
use Rattle.pg_page.specs.declared.tag.Tag.{Tag}
use Rattle.pg_page.specs.declared.tag.Tag.TheVariants as tags
use Rattle.pg_picture.specs.declared.picture.Picture.{Picture}
use Rattle.pg_family_book.specs.Leaves.{away_pieces, cell_pieces, chapter_at, drawn_attributes}
use Rattle.pg_family_book.specs.Leaves.{drawn_pieces, entry_pieces, explained_pieces, leaf_id}
use Rattle.pg_family_book.specs.Leaves.{leaf_pieces, leaves_body, leaves_head, leaves_header}
use Rattle.pg_family_book.specs.Leaves.{leaves_ids, leaves_main, leaves_page, picture_pieces}
use Rattle.pg_family_book.specs.Leaves.{row_pieces, sheet_words, styled_pieces, table_pieces}
use Rattle.pg_family_book.specs.declared.leaf.Leaf.{Leaf}
use Rattle.pg_family_book.specs.declared.leaf.Table.{Table}

-- ---- what has no links

module _ (ok : Bytes → Type 0) where
  row-part : (tag : Tag) (cells : List Bytes)
      → section_ids (pieces.Open tag []) ≡ []
      → IsPart ok [] (row_pieces tag cells)
  row-part tag cells none = plain-part ok tags.Tr [] [] (flat_map (cell_pieces tag) cells) refl refl
      (each-part ok (cell_pieces tag) (λ words. label-part ok tag [] words none refl) cells)

  table-part : (table : Table) → IsPart ok [] (table_pieces table)
  table-part table =
      let head = row_pieces tags.Th table.heads in
      let rows = flat_map (row_pieces tags.Td) table.rows in
      plain-part ok tags.Table [] [] (head ++ rows) refl refl
      (then-part ok [] head rows (row-part tags.Th table.heads refl)
      (each-part ok (row_pieces tags.Td) (λ cells. row-part tags.Td cells refl) table.rows))

  drawn-part : (p : Picture) → IsPart ok [] (drawn_pieces p)
  drawn-part p =
      plain-part ok tags.Svg (drawn_attributes p) [] (flat_map shape_pieces p.shapes) refl refl
      (each-part ok shape_pieces (shape-part ok) p.shapes)

  picture-part : (found : Option Picture) → IsPart ok [] (picture_pieces found)
  picture-part None = no-part ok
  picture-part (Some p) = drawn-part p

  head-part : IsPart ok [] leaves_head
  head-part =
      let named = title_pieces ++ styled_pieces in
      plain-part ok tags.Head [] [] (metas_pieces ++ named) refl refl
      (then-part ok [] metas_pieces named (metas-part ok)
      (then-part ok [] title_pieces styled_pieces
      (label-part ok tags.Title [] TITLE.now refl refl) (style-part ok sheet_words)))

  explained-part : (legend : Bytes) → IsPart ok (LEGEND.now ∷ []) (explained_pieces legend)
  explained-part legend =
      let last = paragraph legend ++ paragraph NOTHING_RUNS.now in
      element-part ok tags.Section legend_attributes (LEGEND.now ∷ []) [] (legend_heading ++ last)
      refl (All-nil ok)
      (then-part ok [] legend_heading last
      (label-part ok tags.H2 [] (codes "Legend") refl refl)
      (then-part ok [] (paragraph legend) (paragraph NOTHING_RUNS.now) (paragraph-part ok legend)
      (paragraph-part ok NOTHING_RUNS.now)))

-- ---- claims, where the legend may be led to

module _ (ok : Bytes → Type 0) (legend_ok : ok LEGEND.now) where
  away-part : IsPart ok [] away_pieces
  away-part = plain-part ok tags.P (worded names.Class (codes "leave") ∷ []) [] legend_link refl
      refl
      (element-part ok tags.A (worded names.Href LEGEND.now ∷ []) [] []
      (pieces.Words (codes "Legend") ∷ []) refl (leads-one ok LEGEND.now legend_ok)
      (words-part ok (codes "Legend")))

  leaf-part : (leaf : Leaf) → IsPart ok (leaf_id leaf ∷ []) (leaf_pieces leaf)
  leaf-part leaf =
      let chapter = chapter_at leaf.number in
      let table = table_pieces leaf.table in
      let said = flat_map paragraph leaf.words in
      let drawn = picture_pieces leaf.picture in
      element-part ok tags.Section (page_attributes chapter 1) (leaf_id leaf ∷ []) []
      (heading_pieces chapter 1 ++ (drawn ++ (said ++ (table ++ away_pieces)))) refl (All-nil ok)
      (then-part ok [] (heading_pieces chapter 1) (drawn ++ (said ++ (table ++ away_pieces)))
      (label-part ok tags.H2 [] (codes "Page " ++ number_text chapter 1) refl refl)
      (then-part ok [] drawn (said ++ (table ++ away_pieces)) (picture-part ok leaf.picture)
      (then-part ok [] said (table ++ away_pieces)
      (each-part ok paragraph (paragraph-part ok) leaf.words)
      (then-part ok [] table away_pieces (table-part ok leaf.table) away-part))))

  leaves-part : (leaves : List Leaf) → IsPart ok (map leaf_id leaves) (flat_map leaf_pieces leaves)
  leaves-part [] = no-part ok
  leaves-part (leaf ∷ rest) = both-parts ok (leaf_id leaf ∷ []) (map leaf_id rest)
      (leaf_pieces leaf) (flat_map leaf_pieces rest) (leaf-part leaf) (leaves-part rest)

-- what a claim says, with a link to its page
entry-part : (ok : Bytes → Type 0) (leaf : Leaf)
    → ok (leaf_id leaf)
    → IsPart ok [] (entry_pieces leaf)
entry-part ok leaf has =
    let link = link_pieces (chapter_at leaf.number) 0 in
    plain-part ok tags.P [] [] (pieces.Words leaf.said ∷ link) refl refl
    (said-part ok [] leaf.said link
    (element-part ok tags.A (worded names.Href (leaf_id leaf) ∷ []) [] []
    (pieces.Words (codes "page " ++ number_text (chapter_at leaf.number) 1) ∷ []) refl
    (leads-one ok (leaf_id leaf) has)
    (words-part ok (codes "page " ++ number_text (chapter_at leaf.number) 1))))

entries-part : (ok : Bytes → Type 0) (leaves : List Leaf)
    → ((leaf : Leaf) → Contains leaves leaf → ok (leaf_id leaf))
    → IsPart ok [] (flat_map entry_pieces leaves)
entries-part ok [] h = no-part ok
entries-part ok (leaf ∷ rest) h = then-part ok [] (entry_pieces leaf) (flat_map entry_pieces rest)
    (entry-part ok leaf (h leaf (Contains-head leaf rest)))
    (entries-part ok rest (λ other at. h other (Contains-tail leaf other rest at)))

-- ---- books

-- what a member of a list gives
given : {A B : Type 0} (f : A → B) (xs : List A) (x : A)
    → Contains xs x
    → Contains (map f xs) (f x)
given f [] x at = absurd (omega (arith, at.1))
given {A} {B} f (z ∷ zs) x (zero, lt, is) =
    subst (λ (y : A). Contains (map f (z ∷ zs)) (f y)) is (Contains-head (f z) (map f zs))
given f (z ∷ zs) x (suc k, lt, is) =
    Contains-tail (f z) (f x) (map f zs) (given f zs x (k, omega arith, is))

module _ (legend : Bytes) (leaves : List Leaf) where
  abbrev ok : Bytes → Type 0
  ok = Contains (leaves_ids leaves)

  legend-listed : ok LEGEND.now
  legend-listed = Contains-append_right (map leaf_id leaves) (LEGEND.now ∷ []) LEGEND.now
      (Contains-head LEGEND.now [])

  leaf-listed : (leaf : Leaf) → Contains leaves leaf → ok (leaf_id leaf)
  leaf-listed leaf at = Contains-append_left (map leaf_id leaves) (LEGEND.now ∷ []) (leaf_id leaf)
      (given leaf_id leaves leaf at)

  header-part : IsPart ok [] (leaves_header leaves)
  header-part =
      plain-part ok tags.Header [] [] (top_pieces ++ flat_map entry_pieces leaves) refl refl
      (then-part ok [] top_pieces (flat_map entry_pieces leaves)
      (label-part ok tags.H1 [] TITLE.now refl refl) (entries-part ok leaves leaf-listed))

  main-part : IsPart ok (leaves_ids leaves) (leaves_main legend leaves)
  main-part = plain-part ok tags.Main [] (leaves_ids leaves)
      (flat_map leaf_pieces leaves ++ explained_pieces legend) refl refl
      (both-parts ok (map leaf_id leaves) (LEGEND.now ∷ []) (flat_map leaf_pieces leaves)
      (explained_pieces legend) (leaves-part ok legend-listed leaves) (explained-part ok legend))

  body-part : IsPart ok (leaves_ids leaves) (leaves_body legend leaves)
  body-part = plain-part ok tags.Body [] (leaves_ids leaves)
      (leaves_header leaves ++ leaves_main legend leaves) refl refl
      (then-part ok (leaves_ids leaves) (leaves_header leaves) (leaves_main legend leaves)
      header-part main-part)

  page-part : IsPart ok (leaves_ids leaves) (leaves_page legend leaves)
  page-part = plain-part ok tags.Html (worded names.Lang (codes "en") ∷ []) (leaves_ids leaves)
      (leaves_head ++ leaves_body legend leaves) refl refl
      (then-part ok (leaves_ids leaves) leaves_head (leaves_body legend leaves) (head-part ok)
      body-part)

  pub leaves-whole : IsWhole (leaves_page legend leaves)
  leaves-whole = page-part.whole

  pub leaves-sections : flat_map section_ids (leaves_page legend leaves) ≡ leaves_ids leaves
  leaves-sections = page-part.sections

  pub leaves-lead : All (Contains (flat_map section_ids (leaves_page legend leaves)))
      (flat_map targets (leaves_page legend leaves))
  leaves-lead = subst
      (λ ids. All (Contains ids) (flat_map targets (leaves_page legend leaves)))
      (sym leaves-sections) page-part.leads
