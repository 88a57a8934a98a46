-- The classes that the code names.
use Rattle.pg_game.specs.Class as game
use Rattle.pg_plain.specs.declared.classes.Class.{Class}
use Rattle.pg_plain.specs.declared.classes.Class.TheVariants.{Short, Cut, First}

-- the class of the same name
abbrev pub class_named : Class → game.Class
class_named Short = game.Short
class_named Cut = game.Cut
class_named First = game.First
