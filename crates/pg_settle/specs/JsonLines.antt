-- What settling prints as JSON: the compact text of an object whose keys ascend, and a line feed.
use Rattle.std.specs.Prelude.{ℕ, Bool, if◌then◌else◌, List, [], ◌∷◌, ◌++◌, Option, Some, None}
use Rattle.std.specs.Prelude.{codes}
use Rattle.pg_settle.specs.Prelude.{Bytes, Class, Data, Game, Members, Score, compact_text}
use Rattle.pg_settle.specs.Prelude.{kind_word, member, no_members, number, object, outcome_word}
use Rattle.pg_settle.specs.Prelude.{side_word, string, unsigned}
use Rattle.pg_solve.specs.declared.solution.Class.TheVariants.{Cut, First, Short}
use Rattle.pg_settle.specs.declared.version.TheConstants.{VERSION}

-- the line of a value
abbrev pub json_line : Data → Bytes
json_line d = compact_text d ++ codes "\n"

-- a class in one word
abbrev pub class_word : Class → Bytes
class_word Short = codes "short"
class_word Cut = codes "cut"
class_word First = codes "first-mover"

-- the result in a word, the side to move and the version of the program
abbrev pub last_members : Bytes → Game → Members
last_members result g = member (codes "result") (string result)
    (member (codes "turn") (string (side_word g.turn))
    (member (codes "version") (string VERSION.now) no_members))

-- the game of the file with this name, and then these members
abbrev pub game_members : Bytes → Game → Members → Members
game_members name g others = member (codes "game") (string name)
    (member (codes "kind") (string (kind_word g.kind)) others)

-- a game on lines of this value, with a certificate of so many nodes and bytes after so many
-- positions were expanded
abbrev pub value_data : Bytes → Game → Score → ℕ → ℕ → ℕ → Data
value_data name g score nodes expanded bytes = object (member (codes "answer")
    (string (codes "value"))
    (member (codes "bytes") (number (unsigned bytes))
    (member (codes "expanded") (number (unsigned expanded))
    (game_members name g (member (codes "nodes") (number (unsigned nodes))
    (last_members (outcome_word g.kind score) g))))))

-- a switching game of this class, with a certificate of so many nodes and bytes
abbrev pub class_data : Bytes → Game → Class → ℕ → ℕ → Data
class_data name g class nodes bytes = object (member (codes "answer") (string (codes "class"))
    (member (codes "bytes") (number (unsigned bytes))
    (game_members name g (member (codes "nodes") (number (unsigned nodes))
    (last_members (class_word class) g)))))

-- a game that stays open after so many positions
abbrev pub open_data : Bytes → Game → ℕ → Data
open_data name g expanded = object (member (codes "answer") (string (codes "none"))
    (member (codes "expanded") (number (unsigned expanded))
    (game_members name g (last_members (codes "unknown") g))))

-- the name of the game's file, where JSON is asked for
abbrev pub json_name : Bool → Bytes → Option Bytes
json_name json name = if json then Some name else None

-- these texts; or, where JSON is asked for, the line of the game's file with this name
abbrev pub said_as : Option Bytes → List Bytes → (Bytes → Data) → List Bytes
said_as None texts line = texts
said_as (Some name) texts line = json_line (line name) ∷ []
