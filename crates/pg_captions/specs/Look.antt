-- What is shown of a game or of a node.
use Rattle.std.specs.Prelude.{ℕ, nat_le, Bool, true, ◌&&◌, List, length, Option, Some, None}
use Rattle.std.specs.FinSet.{empty}
use Rattle.pg_captions.specs.Prelude.{Position}
use Rattle.pg_captions.specs.declared.lines.TheConstants.{MAX_DRAWN_LINES}
use Rattle.pg_captions.specs.declared.look.Legend.TheVariants.{Whole}
use Rattle.pg_captions.specs.declared.look.Look.{Look}

-- without options everything, at a width that the viewer chooses, and no layout
abbrev pub whole_look : Look
whole_look = record {
  numbers = true;
  lines = true;
  legend = Whole;
  size = None;
  blank = None;
  layout = None;
}

-- whether there are few enough lines to draw them, if they are to be seen
abbrev pub are_drawn : Bool → List (List ℕ) → Bool
are_drawn seen lines = seen && nat_le (length lines) MAX_DRAWN_LINES

-- the position without marks, in place of another, if the boards are to be blank
abbrev pub seen_at : Option ℕ → Position → Position
seen_at None p = p
seen_at (Some count) p = record { x = empty; y = empty; turn = p.turn; left = p.left }
