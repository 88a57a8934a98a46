-- Books are whole, have the sections that they owe, and their links lead to these.
use Rattle.std.proofs.Common.{◌≡◌, ℕ, ◌+◌, ◌-◌, ◌<◌, true, List, [], ◌∷◌, ◌++◌}
use Rattle.std.proofs.Common.{length, Option, Some, None, refl, sym, subst, arith}
use Rattle.std.specs.Prelude.{codes, slice_get}
use Rattle.std.specs.List.{All, Contains, flat_map, range_with_len}
use Rattle.std.proofs.lemmas.List.Elements.{All-nil}
use Rattle.pg_base.specs.Side.{other}
use Rattle.pg_base.specs.Texts.{Bytes}
use Rattle.pg_base.specs.declared.kind.Kind.{Kind}
use Rattle.pg_base.specs.declared.side.Side.{Side}
use Rattle.pg_cert.specs.Node.{position_of}
use Rattle.pg_cert.specs.declared.cert.Cert.{Cert}
use Rattle.pg_cert.specs.declared.cert.Claim.{Claim}
use Rattle.pg_cert.specs.declared.node.Body.{Body}
use Rattle.pg_cert.specs.declared.node.Body.TheVariants as bodies
use Rattle.pg_cert.specs.declared.node.Node.{Node}
use Rattle.pg_cert.specs.declared.reply.Reply.{Reply}
use Rattle.pg_game.specs.declared.game.Game.{Game}
use Rattle.pg_layout.specs.declared.chart.Chart.{Chart}
use Rattle.pg_page.specs.Events.{IsWhole}
use Rattle.pg_page.specs.Html.{worded}
use Rattle.pg_page.specs.declared.attribute.Name.TheVariants as names
use Rattle.pg_page.specs.declared.piece.Piece.{Piece}
use Rattle.pg_page.specs.declared.piece.Piece.TheVariants as pieces
use Rattle.pg_page.specs.declared.tag.LoneTag.TheVariants as lone
use Rattle.pg_page.specs.declared.tag.Tag.TheVariants as tags
use Rattle.pg_picture.specs.declared.picture.Picture.{Picture}
use Rattle.pg_captions.specs.Legends.{body_lines}
use Rattle.pg_book.specs.Books.{board_pieces, book_pieces, chapter_of, charset_pieces}
use Rattle.pg_book.specs.Books.{claim_by, claims_pieces, detail_pieces, entries_pieces, entry_by}
use Rattle.pg_book.specs.Books.{entry_pieces, entry_words, form_pieces, head_pieces, header_pieces}
use Rattle.pg_book.specs.Books.{heading_pieces, leave_pieces, legend_attributes, legend_heading}
use Rattle.pg_book.specs.Books.{legend_link, legend_pieces, line_pieces, lines_pieces}
use Rattle.pg_book.specs.Books.{main_pieces, meta_pieces, metas_pieces, page_attributes}
use Rattle.pg_book.specs.Books.{page_pieces}
use Rattle.pg_book.specs.Books.{reset_pieces, scheme_pieces, section_at, section_by}
use Rattle.pg_book.specs.Books.{sections_pieces, sheet_pieces, sheet_text, shown_pieces}
use Rattle.pg_book.specs.Books.{svg_attributes, svg_pieces, title_pieces, top_pieces}
use Rattle.pg_book.specs.Books.{viewport_pieces}
use Rattle.pg_book_parts.specs.Chapters.{has_page, link_pieces, number_text, page_id}
use Rattle.pg_book_parts.specs.Chapters.{page_of}
use Rattle.pg_book_parts.specs.Chapters.{shown}
use Rattle.pg_book_parts.specs.Elements.{element, paragraph}
use Rattle.pg_book.specs.Depths.{depth_pieces, depth_words, ordered}
use Rattle.pg_book.specs.Laws.{book_ids, chapter_ids, claim_ids}
use Rattle.pg_book_parts.specs.Reading.{section_ids, targets}
use Rattle.pg_book_parts.specs.Pictures.{over_pieces, shape_pieces}
use Rattle.pg_book_parts.specs.Origins.{origin_of, origin_pieces}
use Rattle.pg_book.specs.Scenes.{blank_picture, page_picture}
use Rattle.pg_book.specs.Boards.{layout_of}
use Rattle.pg_book.specs.Sentences.{body_pieces, list_pieces, move_pieces, point_lead}
use Rattle.pg_book.specs.Sentences.{reply_pieces, step_by, step_words, steps_list, steps_pieces}
use Rattle.pg_book.specs.Sentences.{strong_pieces, threat_pieces, weaker_lead, weaker_pieces}
use Rattle.pg_book.specs.Sentences.{weights_does}
use Rattle.pg_book_parts.specs.Words.{act_words, side_words}
use Rattle.pg_book_parts.specs.declared.chapter.Chapter.{Chapter}
use Rattle.pg_book_parts.specs.declared.layout.Layout.{Layout}
use Rattle.pg_book.specs.declared.front.TheConstants.{LEGEND, LEGEND_LINKS, LEGEND_MARKS}
use Rattle.pg_book.specs.declared.front.TheConstants.{LEGEND_PAIRS, LEGEND_STEPS, NOTHING_RUNS}
use Rattle.pg_book.specs.declared.front.TheConstants.{TITLE}
use Rattle.pg_book.specs.declared.sentences.TheConstants.{CUTS, OVER, PAIRED, REPLIES, THREATS}
use Rattle.pg_book.specs.declared.sentences.TheConstants.{TREES}
use Rattle.pg_book.proofs.Members.{at-within, claim-listed, has-listed, legend-listed, single-ids}
use Rattle.pg_book_parts.proofs.Parts.{IsPart, both-parts, each-part, element-part, label-part}
use Rattle.pg_book_parts.proofs.Parts.{leads-one}
use Rattle.pg_book_parts.proofs.Parts.{lone-part, no-part, plain-part, range-part, said-part}
use Rattle.pg_book_parts.proofs.Parts.{style-part}
use Rattle.pg_book_parts.proofs.Parts.{then-part, words-part}
use Rattle.pg_book_parts.proofs.Shown.{link-part, origin-part, over-part, paragraph-part}
use Rattle.pg_book_parts.proofs.Shown.{shape-part}

-- ---- what has no links

module _ (ok : Bytes → Type 0) where
  lines-part : (lines : List Bytes) → IsPart ok [] (lines_pieces lines)
  lines-part lines = plain-part ok tags.Ul [] [] (flat_map line_pieces lines) refl refl
      (each-part ok line_pieces (λ line. label-part ok tags.Li [] line refl refl) lines)

  detail-part : (body : Body) (lines : List Bytes) → IsPart ok [] (detail_pieces body lines)
  detail-part bodies.Potential lines = lines-part lines
  detail-part bodies.Over lines = no-part ok
  detail-part (bodies.Move v child) lines = no-part ok
  detail-part (bodies.All replies) lines = no-part ok
  detail-part (bodies.Pairs pairs) lines = no-part ok
  detail-part (bodies.Trees with_e first second) lines = no-part ok
  detail-part (bodies.Cuts with_e first second) lines = no-part ok
  detail-part (bodies.Threat points) lines = no-part ok
  detail-part (bodies.Weaker child) lines = no-part ok

  step-part : (layout : Layout) (side : Side) (i : ℕ) (found : Option ℕ)
      → IsPart ok [] (step_by layout side i found)
  step-part layout side i None = no-part ok
  step-part layout side i (Some v) = label-part ok tags.Li [] (step_words layout side i v) refl refl

  steps-part : (layout : Layout) (side : Side) (points : List ℕ)
      → IsPart ok [] (steps_list layout side points)
  steps-part layout side points =
      plain-part ok tags.Ol [] [] (steps_pieces layout side points) refl refl
      (each-part ok (λ i. step_by layout side i (slice_get points i))
      (λ i. step-part layout side i (slice_get points i)) (range_with_len 0 (length points)))

  threat-part : (layout : Layout) (side : Side) (points : List ℕ)
      → IsPart ok [] (threat_pieces layout side points)
  threat-part layout side points = let said = side_words layout.kind side THREATS.now in
      then-part ok [] (paragraph said) (steps_list layout side points) (paragraph-part ok said)
      (steps-part layout side points)

  meta-part : (name content : Bytes) → IsPart ok [] (meta_pieces name content)
  meta-part name content = lone-part ok lone.Meta
      (worded names.Name name ∷ worded names.Content content ∷ []) refl

  pub metas-part : IsPart ok [] metas_pieces
  metas-part = then-part ok [] charset_pieces (viewport_pieces ++ scheme_pieces)
      (lone-part ok lone.Meta (worded names.Charset (codes "utf-8") ∷ []) refl)
      (then-part ok [] viewport_pieces scheme_pieces
      (meta-part (codes "viewport") (codes "width=device-width, initial-scale=1"))
      (meta-part (codes "color-scheme") (codes "light dark")))

  head-part : (board : Picture) → IsPart ok [] (head_pieces board)
  head-part board =
      let named = title_pieces ++ sheet_pieces board in
      plain-part ok tags.Head [] [] (metas_pieces ++ named) refl refl
      (then-part ok [] metas_pieces named metas-part
      (then-part ok [] title_pieces (sheet_pieces board)
      (label-part ok tags.Title [] TITLE.now refl refl) (style-part ok (sheet_text board))))

  paragraphs-part : (words : Bytes) (after : List Piece)
      → IsPart ok [] after
      → IsPart ok [] (paragraph words ++ after)
  paragraphs-part words after p =
      then-part ok [] (paragraph words) after (paragraph-part ok words) p

  depth-part : (depth : Option ℕ) → IsPart ok [] (depth_pieces depth)
  depth-part None = no-part ok
  depth-part (Some moves) = paragraph-part ok (depth_words moves)

  legend-part : IsPart ok (LEGEND.now ∷ []) legend_pieces
  legend-part =
      let last = paragraph LEGEND_STEPS.now ++ paragraph NOTHING_RUNS.now in
      let rest = paragraph LEGEND_LINKS.now ++ (paragraph LEGEND_PAIRS.now ++ last) in
      let all = paragraph LEGEND_MARKS.now ++ rest in
      element-part ok tags.Section legend_attributes (LEGEND.now ∷ []) [] (legend_heading ++ all)
      refl (All-nil ok)
      (then-part ok [] legend_heading all
      (label-part ok tags.H2 [] (codes "Legend") refl refl)
      (paragraphs-part LEGEND_MARKS.now rest
      (paragraphs-part LEGEND_LINKS.now (paragraph LEGEND_PAIRS.now ++ last)
      (paragraphs-part LEGEND_PAIRS.now last
      (paragraphs-part LEGEND_STEPS.now (paragraph NOTHING_RUNS.now)
      (paragraph-part ok NOTHING_RUNS.now))))))

-- ---- a claim whose pages may be led to, and so may the legend

module _ (ok : Bytes → Type 0) (chapter : Chapter)
    (page_ok : (node : ℕ)
    → has_page chapter node ≡ true
    → ok (page_id chapter (page_of chapter node)))
    (legend_ok : ok LEGEND.now) where
  link-of : (node : ℕ) → IsPart ok [] (link_pieces chapter node)
  link-of = link-part ok chapter page_ok

  svg-part : (layout : Layout) (side : Side) (page : ℕ) (body : Body) (picture : Picture)
      → IsPart ok [] (svg_pieces picture (over_pieces layout side chapter page body))
  svg-part layout side page body picture =
      let drawn = flat_map shape_pieces picture.shapes in
      let over = over_pieces layout side chapter page body in
      plain-part ok tags.Svg (svg_attributes picture) [] (drawn ++ over) refl refl
      (then-part ok [] drawn over (each-part ok shape_pieces (shape-part ok) picture.shapes)
      (over-part ok chapter page_ok layout side page body))

  form-part : (svg : List Piece) → IsPart ok [] svg → IsPart ok [] (form_pieces svg)
  form-part svg p = plain-part ok tags.Form [] [] (svg ++ reset_pieces) refl refl
      (then-part ok [] svg reset_pieces p (label-part ok tags.Button
      (worded names.Type (codes "reset") ∷ []) (codes "Take all back") refl refl))

  board-part : (layout : Layout) (side : Side) (page : ℕ) (body : Body) (picture : Picture)
      → IsPart ok [] (board_pieces layout side chapter page body picture)
  board-part layout side page (bodies.Pairs pairs) picture =
      form-part (svg_pieces picture (over_pieces layout side chapter page (bodies.Pairs pairs)))
      (svg-part layout side page (bodies.Pairs pairs) picture)
  board-part layout side page bodies.Over picture = svg-part layout side page bodies.Over picture
  board-part layout side page (bodies.Move v child) picture =
      svg-part layout side page (bodies.Move v child) picture
  board-part layout side page (bodies.All replies) picture =
      svg-part layout side page (bodies.All replies) picture
  board-part layout side page bodies.Potential picture =
      svg-part layout side page bodies.Potential picture
  board-part layout side page (bodies.Trees with_e first second) picture =
      svg-part layout side page (bodies.Trees with_e first second) picture
  board-part layout side page (bodies.Cuts with_e first second) picture =
      svg-part layout side page (bodies.Cuts with_e first second) picture
  board-part layout side page (bodies.Threat points) picture =
      svg-part layout side page (bodies.Threat points) picture
  board-part layout side page (bodies.Weaker child) picture =
      svg-part layout side page (bodies.Weaker child) picture

  reply-part : (layout : Layout) (reply : Reply) → IsPart ok [] (reply_pieces layout chapter reply)
  reply-part layout reply =
      let lead = point_lead layout reply.point in
      let link = link_pieces chapter reply.child in
      plain-part ok tags.Li [] [] (pieces.Words lead ∷ link) refl refl
      (said-part ok [] lead link (link-of reply.child))

  list-part : (layout : Layout) (replies : List Reply)
      → IsPart ok [] (list_pieces layout chapter replies)
  list-part layout replies = plain-part ok tags.Ul [] []
      (flat_map (reply_pieces layout chapter) replies) refl refl
      (each-part ok (reply_pieces layout chapter) (reply-part layout) replies)

  move-part : (layout : Layout) (side : Side) (v child : ℕ)
      → IsPart ok [] (move_pieces layout side chapter v child)
  move-part layout side v child =
      let link = link_pieces chapter child in
      let after = pieces.Words (codes ". Go on: ") ∷ link in
      plain-part ok tags.P [] [] (strong_pieces layout side v ++ after) refl refl
      (then-part ok [] (strong_pieces layout side v) after
      (label-part ok tags.Strong [] (act_words layout side (codes " claims ") v) refl refl)
      (said-part ok [] (codes ". Go on: ") link (link-of child)))

  weaker-part : (kind : Kind) (side : Side) (child : ℕ)
      → IsPart ok [] (weaker_pieces kind side chapter child)
  weaker-part kind side child =
      let link = link_pieces chapter child in
      plain-part ok tags.P [] [] (pieces.Words (weaker_lead kind side) ∷ link) refl refl
      (said-part ok [] (weaker_lead kind side) link (link-of child))

  doing-part : (layout : Layout) (side : Side) (does : Bytes)
      → IsPart ok [] (paragraph (side_words layout.kind side does))
  doing-part layout side does = paragraph-part ok (side_words layout.kind side does)

  body-part : (layout : Layout) (side : Side) (body : Body)
      → IsPart ok [] (body_pieces layout side chapter body)
  body-part layout side bodies.Over = doing-part layout side OVER.now
  body-part layout side (bodies.Move v child) = move-part layout side v child
  body-part layout side (bodies.All replies) =
      then-part ok [] (paragraph (side_words layout.kind (other side) REPLIES.now))
      (list_pieces layout chapter replies) (doing-part layout (other side) REPLIES.now)
      (list-part layout replies)
  body-part layout side (bodies.Pairs pairs) = doing-part layout side PAIRED.now
  body-part layout side bodies.Potential = doing-part layout side (weights_does layout.kind)
  body-part layout side (bodies.Trees with_e first second) = doing-part layout side TREES.now
  body-part layout side (bodies.Cuts with_e first second) = doing-part layout side CUTS.now
  body-part layout side (bodies.Threat points) = threat-part ok layout side points
  body-part layout side (bodies.Weaker child) = weaker-part layout.kind side child

  leave-part : IsPart ok [] (leave_pieces chapter)
  leave-part =
      let link = link_pieces chapter (chapter.count - 1) in
      let last = pieces.Words (codes ". ") ∷ legend_link in
      plain-part ok tags.P (worded names.Class (codes "leave") ∷ []) []
      (pieces.Words (codes "Begin again: ") ∷ (link ++ last)) refl refl
      (said-part ok [] (codes "Begin again: ") (link ++ last)
      (then-part ok [] link last (link-of (chapter.count - 1))
      (said-part ok [] (codes ". ") legend_link
      (element-part ok tags.A (worded names.Href LEGEND.now ∷ []) [] []
      (pieces.Words (codes "Legend") ∷ []) refl (leads-one ok LEGEND.now legend_ok)
      (words-part ok (codes "Legend"))))))

  page-part : (layout : Layout) (claim : Claim) (page : ℕ) (body : Body) (picture : Picture)
      (lines : List Bytes)
      → IsPart ok (page_id chapter page ∷ [])
      (page_pieces layout claim chapter page body picture lines)
  page-part layout claim page body picture lines =
      let origin = origin_pieces layout chapter (origin_of claim chapter page) in
      let board = board_pieces layout claim.side chapter page body picture in
      let said = body_pieces layout claim.side chapter body in
      let last = detail_pieces body lines ++ leave_pieces chapter in
      element-part ok tags.Section (page_attributes chapter page) (page_id chapter page ∷ []) []
      (heading_pieces chapter page ++ (origin ++ (board ++ (said ++ last)))) refl (All-nil ok)
      (then-part ok [] (heading_pieces chapter page) (origin ++ (board ++ (said ++ last)))
      (label-part ok tags.H2 [] (codes "Page " ++ number_text chapter page) refl refl)
      (then-part ok [] origin (board ++ (said ++ last))
      (origin-part ok chapter page_ok layout (origin_of claim chapter page))
      (then-part ok [] board (said ++ last) (board-part layout claim.side page body picture)
      (then-part ok [] said last (body-part layout claim.side body)
      (then-part ok [] (detail_pieces body lines) (leave_pieces chapter)
      (detail-part ok body lines) leave-part)))))

  -- the section of a node that the claim has
  node-part : (g : Game) (layout : Layout) (claim : Claim) (i : ℕ) (found : Option Node)
      → (found ≡ None → ⊥)
      → IsPart ok (page_id chapter (i + 1) ∷ [])
      (section_by g layout claim chapter (i + 1) found)
  node-part g layout claim i None some = absurd (some refl)
  node-part g layout claim i (Some node) some = page-part layout claim (i + 1) node.body
      (page_picture g layout.chart claim.side node)
      (body_lines g (position_of node) claim.side node.body)

  -- the sections of the claim, by whose nodes the pages are numbered
  sections-part : (g : Game) (layout : Layout) (claim : Claim)
      → chapter.count ≡ length claim.nodes
      → IsPart ok (chapter_ids chapter) (sections_pieces g layout claim chapter)
  sections-part g layout claim count =
      subst (λ ids. IsPart ok ids (sections_pieces g layout claim chapter)) (single-ids chapter)
      (range-part ok (λ i. section_at g layout claim chapter (i + 1))
      (λ i. page_id chapter (i + 1) ∷ []) 0 (shown chapter)
      (λ i low high. node-part g layout claim i (slice_get claim.nodes (chapter.count - (i + 1)))
      (at-within claim.nodes (chapter.count - (i + 1)) (omega (arith, count)))))

  entry-part : (kind : Kind) (claim : Claim) → IsPart ok [] (entry_pieces kind claim chapter)
  entry-part kind claim =
      let link = link_pieces chapter (chapter.count - 1) in
      plain-part ok tags.P [] [] (pieces.Words (entry_words kind claim chapter) ∷ link) refl refl
      (said-part ok [] (entry_words kind claim chapter) link (link-of (chapter.count - 1)))

-- ---- books

-- no identities
abbrev no_ids : ℕ → List Bytes
no_ids i = []

none-flat : (xs : List ℕ) → flat_map no_ids xs ≡ []
none-flat [] = refl
none-flat (x ∷ xs) = none-flat xs

module _ (g : Game) (layout : Layout) (depth : Option ℕ) (claims : List Claim) where
  abbrev ok : Bytes → Type 0
  ok = Contains (book_ids g depth claims)

  -- the pages of a claim of the book are among its sections
  pages-ok : (i : ℕ) (claim : Claim)
      → i < length claims
      → slice_get claims i ≡ Some claim
      → (node : ℕ)
      → has_page (chapter_of g depth (length claims) i claim) node ≡ true
      → ok (page_id (chapter_of g depth (length claims) i claim)
      (page_of (chapter_of g depth (length claims) i claim) node))
  pages-ok i claim lt at node has = claim-listed g depth claims i claim _ lt at
      (has-listed (chapter_of g depth (length claims) i claim) node has)

  claim-part : (i : ℕ) (found : Option Claim)
      → i < length claims
      → slice_get claims i ≡ found
      → IsPart ok (claim_ids g depth (length claims) i found)
      (claim_by g layout depth (length claims) i found)
  claim-part i None lt at = no-part ok
  claim-part i (Some claim) lt at = sections-part ok (chapter_of g depth (length claims) i claim)
      (pages-ok i claim lt at) (legend-listed g depth claims) g layout claim refl

  claims-part : IsPart ok
      (flat_map (λ i. claim_ids g depth (length claims) i (slice_get claims i))
      (range_with_len 0 (length claims)))
      (claims_pieces g layout depth claims)
  claims-part = range-part ok (λ i. claim_by g layout depth (length claims) i (slice_get claims i))
      (λ i. claim_ids g depth (length claims) i (slice_get claims i)) 0 (length claims)
      (λ i low high. claim-part i (slice_get claims i) (omega arith) refl)

  entry-by-part : (i : ℕ) (found : Option Claim)
      → i < length claims
      → slice_get claims i ≡ found
      → IsPart ok [] (entry_by g depth (length claims) i found)
  entry-by-part i None lt at = no-part ok
  entry-by-part i (Some claim) lt at =
      entry-part ok (chapter_of g depth (length claims) i claim) (pages-ok i claim lt at)
      (legend-listed g depth claims) g.kind claim

  entries-part : IsPart ok [] (entries_pieces g depth claims)
  entries-part = subst (λ ids. IsPart ok ids (entries_pieces g depth claims))
      (none-flat (range_with_len 0 (length claims)))
      (range-part ok (λ i. entry_by g depth (length claims) i (slice_get claims i)) no_ids 0
      (length claims) (λ i low high. entry-by-part i (slice_get claims i) (omega arith) refl))

  header-part : IsPart ok [] (header_pieces g depth claims)
  header-part =
      let said = entries_pieces g depth claims ++ depth_pieces depth in
      plain-part ok tags.Header [] [] (top_pieces ++ said) refl refl
      (then-part ok [] top_pieces said (label-part ok tags.H1 [] TITLE.now refl refl)
      (then-part ok [] (entries_pieces g depth claims) (depth_pieces depth) entries-part
      (depth-part ok depth)))

  main-part : IsPart ok (book_ids g depth claims) (main_pieces g layout depth claims)
  main-part = plain-part ok tags.Main [] (book_ids g depth claims)
      (claims_pieces g layout depth claims ++ legend_pieces) refl refl
      (both-parts ok
      (flat_map (λ i. claim_ids g depth (length claims) i (slice_get claims i))
      (range_with_len 0 (length claims)))
      (LEGEND.now ∷ []) (claims_pieces g layout depth claims) legend_pieces claims-part
      (legend-part ok))

  shown-part : IsPart ok (book_ids g depth claims) (shown_pieces g layout depth claims)
  shown-part = plain-part ok tags.Body [] (book_ids g depth claims)
      (header_pieces g depth claims ++ main_pieces g layout depth claims) refl refl
      (then-part ok (book_ids g depth claims) (header_pieces g depth claims)
      (main_pieces g layout depth claims) header-part main-part)

  -- the pieces of a book, whatever layout its moves are named and placed by
  pub by-part : IsPart ok (book_ids g depth claims)
      (element tags.Html (worded names.Lang (codes "en") ∷ [])
      (head_pieces (blank_picture g layout.chart) ++ shown_pieces g layout depth claims))
  by-part = plain-part ok tags.Html (worded names.Lang (codes "en") ∷ [])
      (book_ids g depth claims)
      (head_pieces (blank_picture g layout.chart) ++ shown_pieces g layout depth claims) refl refl
      (then-part ok (book_ids g depth claims) (head_pieces (blank_picture g layout.chart))
      (shown_pieces g layout depth claims) (head-part ok (blank_picture g layout.chart)) shown-part)

book-part : (chart : Option Chart) (g : Game) (c : Cert) (depth : Option ℕ)
    → IsPart (Contains (book_ids g depth (ordered g depth c).claims))
    (book_ids g depth (ordered g depth c).claims) (book_pieces chart g c depth)
book-part chart g c depth = by-part g (layout_of chart g) depth (ordered g depth c).claims

pub book-whole : (chart : Option Chart) (g : Game) (c : Cert) (depth : Option ℕ)
    → IsWhole (book_pieces chart g c depth)
book-whole chart g c depth = (book-part chart g c depth).whole

pub book-sections : (chart : Option Chart) (g : Game) (c : Cert) (depth : Option ℕ)
    → flat_map section_ids (book_pieces chart g c depth)
    ≡ book_ids g depth (ordered g depth c).claims
book-sections chart g c depth = (book-part chart g c depth).sections

pub book-leads : (chart : Option Chart) (g : Game) (c : Cert) (depth : Option ℕ)
    → All (Contains (flat_map section_ids (book_pieces chart g c depth)))
    (flat_map targets (book_pieces chart g c depth))
book-leads chart g c depth =
    subst (λ ids. All (Contains ids) (flat_map targets (book_pieces chart g c depth)))
    (sym (book-sections chart g c depth)) (book-part chart g c depth).leads
