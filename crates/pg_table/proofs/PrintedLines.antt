-- How many columns the open lines take, and what is said of a game.
use Rattle.std.proofs.Common.{◌≡◌, ◌∙◌, ℕ, ◌+◌, ◌-◌, ◌*◌, ◌<◌, ◌≤◌, ◌≢◌, Bool, true}
use Rattle.std.proofs.Common.{false, refl, List, [], ◌∷◌, ◌++◌, length, take, arith, ap}
use Rattle.std.proofs.Common.{append_assoc, nat_lt, if◌then◌else◌}
use Rattle.std.specs.Prelude.{◌==◌, codes, decimal, Option, Some, None}
use Rattle.std.specs.List.{All, AllByRecursion, count_by, flat_map}
use Rattle.std.proofs.lemmas.Bool.{eqb-false}
use Rattle.std.proofs.lemmas.List.Elements.{All-filter, All-take, recursion_from_All}
use Rattle.std.proofs.lemmas.List.Sums.{count_by-le-length}
use Rattle.pg_base.specs.Texts.{Bytes}
use Rattle.pg_base.specs.declared.kind.Kind.{Kind}
use Rattle.pg_base.specs.declared.kind.Kind.TheVariants.{MakerBreaker, MakerMaker}
use Rattle.pg_base.specs.declared.kind.Kind.TheVariants.{AvoiderEnforcer, Switching}
use Rattle.pg_base.specs.declared.score.Score.{Score}
use Rattle.pg_base.specs.declared.score.Score.TheVariants.{XWins, Draw, YWins}
use Rattle.pg_game.specs.Field.{field_lines, field_points}
use Rattle.pg_game.specs.Fit.{IsBoard, greatest_bias}
use Rattle.pg_game.specs.Game.{lines_of, point_count}
use Rattle.pg_game.specs.declared.field.Field.{Field}
use Rattle.pg_game.specs.declared.field.Field.TheVariants.{Lines, Graph as OnGraph}
use Rattle.pg_game.specs.declared.game.Game.{Game}
use Rattle.pg_game.specs.declared.position.Position.{Position}
use Rattle.pg_graph.specs.declared.graph.Graph.{Graph}
use Rattle.pg_characters.specs.Bridges.{paper_rows}
use Rattle.pg_characters.specs.Marks.{letter_of}
use Rattle.pg_characters.specs.Names.{point_name}
use Rattle.pg_table.specs.OpenLines.{count_text, gap_text, is_kept, kept_lines}
use Rattle.pg_table.specs.OpenLines.{line_text, lines_text, names_text, room_after, shown_lines}
use Rattle.pg_table.specs.Words.{bias_text, field_goals, goals_on, goals_text, graph_goals}
use Rattle.pg_table.specs.Words.{help_text, kind_goals, result_text, turn_text}
use Rattle.pg_table.specs.declared.open_lines.TheConstants.{MAX_SHOWN_LINES}
use Rattle.pg_table.specs.declared.words.TheConstants.{COMMANDS, PAPER_GOALS}
use Rattle.pg_characters.proofs.Fit.{Whole, Wide, ends_and, ends_feed, keeps, rows_keep, whole_and}
use Rattle.pg_characters.proofs.Fit.{whole_line, whole_none, whole_rows, wide_and, wide_less}
use Rattle.pg_characters.proofs.Fit.{wide_plain}
use Rattle.pg_characters.proofs.Printed.{wide_decimal, wide_name, wide_side}

-- ---- open lines

-- a name in a row that has room for it, and in the next one
name_keeps : (most room at : ℕ) (name t : Bytes)
    → 80 ≤ most
    → at + 5 * room ≤ 79
    → Wide 4 name
    → ((column : ℕ) → column + 5 * room_after room ≤ 79 → keeps most column false t ≡ true)
    → keeps most at false (gap_text room ++ (name ++ t)) ≡ true
name_keeps most room at name t wide low four on = go (room == 0) refl where
  go : (none : Bool)
      → (room == 0) ≡ none
      → keeps most at false ((if none then codes "\n    " else codes " ") ++ (name ++ t)) ≡ true
  go true is =
      let after : room_after room ≡ 14 = rw is refl in
      ends_feed most at (omega (arith, low, wide)) (codes "    " ++ (name ++ t))
      (wide_plain (codes "    ") refl most 0 (name ++ t)
      (four most 4 t (on 8 (omega (arith, after)))))
  go false is =
      let some : room ≢ 0 = eqb-false room 0 is in
      let after : room_after room ≡ room - 1 = rw is refl in
      wide_plain (codes " ") refl most at (name ++ t)
      (four most (at + 1) t (on (at + 1 + 4) (omega (arith, after, some, low))))

names_keep : (most : ℕ) (field : Field) (room : ℕ) (vs : List ℕ) (at : ℕ) (t : Bytes)
    → 80 ≤ most
    → at + 5 * room ≤ 79
    → AllByRecursion (λ v. Wide 4 (point_name field v)) vs
    → keeps most 0 false t ≡ true
    → keeps most at false (names_text field room vs ++ t) ≡ true
names_keep most field room [] at t wide low each h =
    ends_feed most at (omega (arith, low, wide)) t h
names_keep most field room (v ∷ vs) at t wide low each h =
    let rest = names_text field (room_after room) vs in
    ap (keeps most at false) (append_assoc (gap_text room) (point_name field v ++ rest) t)
    ∙ ap (λ (u : Bytes). keeps most at false (gap_text room ++ u))
    (append_assoc (point_name field v) rest t)
    ∙ name_keeps most room at (point_name field v) (rest ++ t) wide low each.0
    (λ column fits. names_keep most field (room_after room) vs column t wide fits each.1 h)

whole_names : (most : ℕ) (field : Field) (vs : List ℕ)
    → 80 ≤ most
    → AllByRecursion (λ v. Wide 4 (point_name field v)) vs
    → Whole most (line_text field vs)
unfolding line_text
whole_names most field vs wide each = λ t h.
    names_keep most field 15 vs 0 t wide (omega arith) each h

names_wide : (g : Game) (vs : List ℕ)
    → AllByRecursion (λ v. v < point_count g) vs
    → AllByRecursion (λ v. Wide 4 (point_name g.field v)) vs
names_wide g [] h = tt
names_wide g (v ∷ vs) h = (wide_name g v h.0, names_wide g vs h.1)

-- the lines of a game have points of the game
lines_within : (g : Game) → All (λ line. All (λ v. v < point_count g) line) (lines_of g)
lines_within g = go g.field refl where
  go : (field : Field)
      → g.field ≡ field
      → All (λ line. All (λ v. v < field_points field) line) (field_lines field)
  go (Lines f) is = λ k d inside. ((g.fits.within.on_lines f is).lines k d inside).range
  go (OnGraph h) is = λ k d inside. absurd (omega (arith, inside))

whole_each_line : (most : ℕ) (g : Game) (lines : List (List ℕ))
    → 80 ≤ most
    → AllByRecursion (λ line. All (λ v. v < point_count g) line) lines
    → Whole most (flat_map (line_text g.field) lines)
whole_each_line most g [] wide h = whole_none most
whole_each_line most g (line ∷ lines) wide h =
    whole_and most (line_text g.field line) (flat_map (line_text g.field) lines)
    (whole_names most g.field line wide
    (names_wide g line (recursion_from_All (λ v. v < point_count g) line h.0)))
    (whole_each_line most g lines wide h.1)

whole_dots : (most : ℕ) → 80 ≤ most → Whole most (codes " ..\n")
unfolding rows_keep
whole_dots most wide = whole_rows most (codes " ..\n") wide refl

whole_shown : (most : ℕ) (g : Game) (p : Position) (through : Option ℕ)
    → 80 ≤ most
    → Whole most (shown_lines g p through)
unfolding shown_lines
whole_shown most g p through wide =
    let kept = kept_lines g p through in
    whole_and most (flat_map (line_text g.field) (take MAX_SHOWN_LINES kept))
    (if nat_lt MAX_SHOWN_LINES (length kept) then codes " ..\n" else [])
    (whole_each_line most g (take MAX_SHOWN_LINES kept) wide
    (recursion_from_All (λ line. All (λ v. v < point_count g) line) (take MAX_SHOWN_LINES kept)
    (All-take (λ line. All (λ v. v < point_count g) line) MAX_SHOWN_LINES kept
    (All-filter (is_kept g.kind p through) (λ line. All (λ v. v < point_count g) line)
    (lines_of g) (lines_within g)))))
    (go (nat_lt MAX_SHOWN_LINES (length kept))) where
      go : (more : Bool) → Whole most (if more then codes " ..\n" else [])
      go true = whole_dots most wide
      go false = whole_none most

few_lines : (g : Game) → length (lines_of g) ≤ 20000
few_lines g = go g.field refl where
  go : (field : Field) → g.field ≡ field → length (field_lines field) ≤ 20000
  go (Lines f) is = (g.fits.within.on_lines f is).few_lines
  go (OnGraph h) is = omega arith

whole_count : (most count : ℕ) → 80 ≤ most → count ≤ 20000 → Whole most (count_text count)
unfolding count_text
whole_count most count wide few =
    whole_line most (12 + (5 + 0)) (codes "open lines: " ++ (decimal count ++ codes "\n"))
    (omega (arith, wide))
    (ends_and most 12 (5 + 0) (codes "open lines: ") (decimal count ++ codes "\n")
    (wide_plain (codes "open lines: ") refl)
    (ends_and most 5 0 (decimal count) (codes "\n")
    (wide_decimal 5 count (omega arith) (omega (arith, few)) (omega (arith, few)))
    (ends_feed most)))

pub whole_open : (most : ℕ) (g : Game) (p : Position) (through : Option ℕ)
    → 80 ≤ most
    → Whole most (lines_text g p through)
whole_open most g p through wide =
    let count = count_by (is_kept g.kind p through) (lines_of g) in
    whole_and most (count_text count) (shown_lines g p through)
    (whole_count most count wide
    (let most_lines = count_by-le-length (is_kept g.kind p through) (lines_of g) in
    omega (arith, most_lines, few_lines g)))
    (whole_shown most g p through wide)

-- ---- what is said of a game

whole_kind : (most : ℕ) (kind : Kind) → 80 ≤ most → Whole most (kind_goals kind)
unfolding rows_keep
whole_kind most MakerBreaker wide = whole_rows most (kind_goals MakerBreaker) wide refl
whole_kind most MakerMaker wide = whole_rows most (kind_goals MakerMaker) wide refl
whole_kind most AvoiderEnforcer wide = whole_rows most (kind_goals AvoiderEnforcer) wide refl
whole_kind most Switching wide = whole_none most

whole_paper : (most : ℕ) → 80 ≤ most → Whole most PAPER_GOALS.now
unfolding rows_keep
whole_paper most wide = whole_rows most PAPER_GOALS.now wide refl

whole_terminals : (most : ℕ) (h : Graph) → 80 ≤ most → IsBoard h → Whole most (goals_on h None)
whole_terminals most h wide is =
    let few = is.few_vertices in
    let s_low = is.s_range in
    let t_low = is.t_range in
    let last = codes " by edges, and O to part them." ++ codes "\n" in
    whole_line most (16 + (3 + (5 + (3 + (30 + 0))))) (goals_on h None) (omega (arith, wide))
    (ends_and most 16 (3 + (5 + (3 + (30 + 0)))) (codes "X wants to join ")
    (decimal h.s ++ (codes " and " ++ (decimal h.t ++ last)))
    (wide_plain (codes "X wants to join ") refl)
    (ends_and most 3 (5 + (3 + (30 + 0))) (decimal h.s) (codes " and " ++ (decimal h.t ++ last))
    (wide_decimal 3 h.s (omega arith) (omega (arith, s_low, few)) (omega (arith, s_low, few)))
    (ends_and most 5 (3 + (30 + 0)) (codes " and ") (decimal h.t ++ last)
    (wide_plain (codes " and ") refl)
    (ends_and most 3 (30 + 0) (decimal h.t) last
    (wide_decimal 3 h.t (omega arith) (omega (arith, t_low, few)) (omega (arith, t_low, few)))
    (ends_and most 30 0 (codes " by edges, and O to part them.") (codes "\n")
    (wide_plain (codes " by edges, and O to part them.") refl) (ends_feed most))))))

whole_graph : (most : ℕ) (h : Graph) → 80 ≤ most → IsBoard h → Whole most (graph_goals h)
whole_graph most h wide is = go (paper_rows h) where
  go : (rows : Option ℕ) → Whole most (goals_on h rows)
  go None = whole_terminals most h wide is
  go (Some rows) = whole_paper most wide

few_claims : (kind : Kind) → greatest_bias kind ≤ 7
few_claims MakerBreaker = omega arith
few_claims MakerMaker = omega arith
few_claims AvoiderEnforcer = omega arith
few_claims Switching = omega arith

whole_bias : (most bias : ℕ) → 80 ≤ most → bias ≤ 7 → Whole most (bias_text bias)
whole_bias most bias wide few = go (nat_lt 1 bias) where
  go : (more : Bool) → Whole most (if more
      then codes "O claims " ++ (decimal bias ++ codes " points in a turn.\n")
      else [])
  go true = whole_line most (9 + (1 + (18 + 0)))
      (codes "O claims " ++ (decimal bias ++ (codes " points in a turn." ++ codes "\n")))
      (omega (arith, wide))
      (ends_and most 9 (1 + (18 + 0)) (codes "O claims ")
      (decimal bias ++ (codes " points in a turn." ++ codes "\n"))
      (wide_plain (codes "O claims ") refl)
      (ends_and most 1 (18 + 0) (decimal bias) (codes " points in a turn." ++ codes "\n")
      (wide_decimal 1 bias (omega arith) (omega (arith, few)) (omega (arith, few)))
      (ends_and most 18 0 (codes " points in a turn.") (codes "\n")
      (wide_plain (codes " points in a turn.") refl) (ends_feed most))))
  go false = whole_none most

pub whole_goals : (most : ℕ) (g : Game) → 80 ≤ most → Whole most (goals_text g)
whole_goals most g wide =
    whole_and most (field_goals g.kind g.field) (bias_text g.bias) (go g.field refl)
    (whole_bias most g.bias wide
    (let few = g.fits.few_bias in let seven = few_claims g.kind in omega (arith, few, seven))) where
      go : (field : Field) → g.field ≡ field → Whole most (field_goals g.kind field)
      go (Lines f) is = whole_kind most g.kind wide
      go (OnGraph h) is = whole_graph most h wide (g.fits.within.on_graph h is)

whole_commands : (most : ℕ) → 80 ≤ most → Whole most COMMANDS.now
unfolding rows_keep
whole_commands most wide = whole_rows most COMMANDS.now wide refl

pub whole_help : (most : ℕ) (g : Game) → 80 ≤ most → Whole most (help_text g)
whole_help most g wide = whole_and most (goals_text g) COMMANDS.now (whole_goals most g wide)
    (whole_commands most wide)

pub whole_result : (most : ℕ) (score : Score) → 80 ≤ most → Whole most (result_text score)
unfolding rows_keep
whole_result most XWins wide = whole_rows most (result_text XWins) wide refl
whole_result most Draw wide = whole_rows most (result_text Draw) wide refl
whole_result most YWins wide = whole_rows most (result_text YWins) wide refl

-- whose turn it is: the line doesn't end
pub wide_turn : (p : Position) → p.left < 256 → Wide 80 (turn_text p)
wide_turn p few = wide_less 21 80 (turn_text p) (omega arith)
    (wide_and 1 20 (letter_of p.turn) (if nat_lt 1 p.left
    then codes " claims " ++ (decimal p.left ++ codes " points: ")
    else codes " claims: ") (wide_side p.turn) (go (nat_lt 1 p.left))) where
      go : (more : Bool) → Wide 20 (if more
          then codes " claims " ++ (decimal p.left ++ codes " points: ")
          else codes " claims: ")
      go true = wide_and 8 12 (codes " claims ") (decimal p.left ++ codes " points: ")
          (wide_plain (codes " claims ") refl)
          (wide_and 3 9 (decimal p.left) (codes " points: ")
          (wide_decimal 3 p.left (omega arith) (omega (arith, few)) (omega (arith, few)))
          (wide_plain (codes " points: ") refl))
      go false = wide_less 9 20 (codes " claims: ") (omega arith)
          (wide_plain (codes " claims: ") refl)
