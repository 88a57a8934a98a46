-- What a request says.
use Rattle.std.specs.Prelude.{ℕ, List, [], ◌∷◌, take, drop, map, string_bytes}
use Rattle.std.specs.Str.Lossy.{utf8_lossy}
use Rattle.pg_io.specs.Files.{Bytes}
use Rattle.pg_request.specs.declared.request.Request.{Request}

-- the bytes cut into parts of these lengths, in order; where too few are left, a part is what is
-- left
unfoldable pub cut : List ℕ → Bytes → List Bytes
cut [] bytes = []
cut (n ∷ lengths) bytes = take n bytes ∷ cut lengths (drop n bytes)

-- names and bytes in turns, as files
abbrev pub files_of : List Bytes → List (Bytes × Bytes)
files_of [] = []
files_of (name ∷ []) = []
files_of (name ∷ bytes ∷ others) = (name, bytes) ∷ files_of others

-- the first part, and those after it
abbrev pub first_of : List Bytes → Bytes
first_of [] = []
first_of (part ∷ others) = part

abbrev pub others_of : List Bytes → List Bytes
others_of [] = []
others_of (part ∷ others) = others

-- what a program is run on: its words, the first of which is the program's name, what the console
-- reads, and the files, of which the first of a name counts
pub record Asked : Type 0 where
  pub words : List Bytes
  pub input : Bytes
  pub files : List (Bytes × Bytes)

-- the words, then the input, then the files
abbrev pub asked_by : List Bytes → List Bytes → Asked
asked_by words others = record {
  words = map utf8_lossy words;
  input = first_of others;
  files = files_of (others_of others);
}

-- the request of these bytes, of which the first `count` parts are words
abbrev pub request_of : ℕ → List ℕ → Bytes → Asked
request_of count lengths bytes =
    asked_by (take count (cut lengths bytes)) (drop count (cut lengths bytes))

-- a request as the code has it
abbrev pub shown : Request → Asked
shown r = record {
  words = map string_bytes r.words.items;
  input = r.input;
  files = r.files.items;
}
