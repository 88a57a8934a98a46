-- The layout of a game, as the files of both say it.
use Rattle.std.specs.Prelude.{◌≡◌, ℕ, is_none, if◌then◌else◌, List, Option, Some, None, Result, Ok}
use Rattle.std.specs.Prelude.{Err, ⊤}
use Rattle.pg_laying.specs.Prelude.{AnyEntry, Bytes, Connectivity, Fault, Faults, Field, Graph}
use Rattle.pg_laying.specs.Prelude.{Halt, Holding, IsGameHalt, Lines, Positional, Refused, Spot}
use Rattle.pg_laying.specs.Prelude.{StopCauses, Stopped, Vectors, any_held, lacking, layout_of}
use Rattle.pg_laying.specs.Prelude.{number_of}
use Rattle.pg_laying.specs.declared.no_layout.NoLayout.{NoLayout}
use Rattle.pg_laying.specs.declared.no_layout.NoLayout.TheVariants.{Faulty, Halted, OtherGame}

-- ---- what two names contain

-- how many points there are, of a game on lines without a grid
abbrev pub open_points_in : Field → Option ℕ
open_points_in (Lines f) = if is_none f.grid then Some f.points else None
open_points_in (Graph h) = None

abbrev pub open_points : AnyEntry → Option ℕ
open_points (Positional e) = open_points_in e.field
open_points (Connectivity e) = None
open_points (Vectors e) = None

-- the layout that was read, or its first fault
abbrev pub layout_told : Result (List Spot) (Fault × ℕ) → Result (List Spot) NoLayout
layout_told (Ok spots) = Ok spots
layout_told (Err fault) = Err (Faulty (number_of fault.0) fault.1)

-- the layout of so many points that a name contains, or why there is none
abbrev pub spots_held : ℕ → Option Bytes → Result (List Spot) NoLayout
spots_held points None = Err (Halted lacking)
spots_held points (Some text) = layout_told (layout_of points text)

-- the same if the game has points to be placed
abbrev pub placed_held : Option ℕ → Option Bytes → Result (List Spot) NoLayout
placed_held None bytes = Err OtherGame
placed_held (Some points) bytes = spots_held points bytes

-- the layout of a game that was read, or why there is none
abbrev pub layout_for : Result AnyEntry Halt → Option Bytes → Result (List Spot) NoLayout
layout_for (Err halt) bytes = Err (Halted halt)
layout_for (Ok e) bytes = placed_held (open_points e) bytes

-- the layout that two names contain, that of a game and that of the layout
abbrev pub layout_held : Option Bytes → Option Bytes → Result (List Spot) NoLayout
layout_held game layout = layout_for (any_held game) layout

-- ---- what the code has read

-- a result of the code is what there is to be read; if a call or memory has stopped it, nothing is
-- said
abbrev pub IsLayoutRead : Result (List Spot) NoLayout → Result (List Spot) NoLayout → Type 0
IsLayoutRead read (Ok spots) = read ≡ Ok spots
IsLayoutRead read (Err (Halted (Stopped stop))) = ⊤
IsLayoutRead read (Err (Halted (Refused refusal))) = read ≡ Err (Halted (Refused refusal))
IsLayoutRead read (Err OtherGame) = read ≡ Err OtherGame
IsLayoutRead read (Err (Faulty number line)) = read ≡ Err (Faulty number line)

-- where it is told what the names contain, this is the layout of so many points that one says
abbrev pub OpensSpots : ℕ → Option Holding → Bytes → Result (List Spot) NoLayout → Type 0
OpensSpots points None name result = ⊤
OpensSpots points (Some held) name result = IsLayoutRead (spots_held points (held name)) result

-- the same of the names of a game and of its layout
abbrev pub OpensLayout : Option Holding → Bytes → Bytes → Result (List Spot) NoLayout → Type 0
OpensLayout None game layout result = ⊤
OpensLayout (Some held) game layout result =
    IsLayoutRead (layout_held (held game) (held layout)) result

-- what can be why there is no layout
abbrev pub IsLayoutHalt : NoLayout → Type 0
IsLayoutHalt (Halted halt) = IsGameHalt halt
IsLayoutHalt OtherGame = ⊤
IsLayoutHalt (Faulty number line) = ⊤

-- ---- causes

-- it is told that a name that is wanted is missing
abbrev pub IsLackingLayout : Option Holding → Bytes → Bytes → Type 0
IsLackingLayout None game layout = ⊥
IsLackingLayout (Some held) game layout =
    layout_held (held game) (held layout) ≡ Err (Halted lacking)

-- where a layout or its fault was read, both numbers of faults are left, and what stopped reading
-- has its cause
abbrev pub LayoutCauses : {T : Type 0} → Type 0 → Faults → Faults → Result T NoLayout → Type 0
LayoutCauses absent before now (Ok _) = now ≡ before
LayoutCauses absent before now (Err (Halted (Refused refusal))) = now ≡ before
LayoutCauses absent before now (Err (Halted (Stopped stop))) = StopCauses absent before now stop
LayoutCauses absent before now (Err OtherGame) = now ≡ before
LayoutCauses absent before now (Err (Faulty number line)) = now ≡ before
