-- WHICH PROGRAM WORDS NAME.
use Rattle.std.specs.Prelude.{if◌then◌else◌, List, [], ◌∷◌, Option, Some, None, codes}
use Rattle.std.specs.Str.{bytes_eq}
use Rattle.pg_io.specs.Files.{Bytes}
use Rattle.pg_answering.specs.declared.program.Program.{Program}
use Rattle.pg_answering.specs.declared.program.Program.TheVariants.{Posgame, Settle, Draw}

-- the program of this name
abbrev pub program_named : Bytes → Option Program
program_named name =
    if bytes_eq (codes "posgame") name then Some Posgame
    else if bytes_eq (codes "posgame-settle") name then Some Settle
    else if bytes_eq (codes "posgame-draw") name then Some Draw
    else None

-- the program that the first word names
abbrev pub program_of : List Bytes → Option Program
program_of [] = None
program_of (name ∷ arguments) = program_named name

-- the words after the first
abbrev pub arguments_of : List Bytes → List Bytes
arguments_of [] = []
arguments_of (name ∷ arguments) = arguments
