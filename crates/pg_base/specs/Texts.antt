-- Texts, and a number between words.
use Rattle.std.specs.Prelude.{ℕ, List, ◌++◌, decimal}

-- the bytes of a text
abbrev pub Bytes : Type 0
Bytes = List ℕ

-- a number between words
abbrev pub count_text : Bytes → ℕ → Bytes → Bytes
count_text first count last = first ++ (decimal count ++ last)
