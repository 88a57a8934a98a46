-- A command of the code, by the names that it holds.
use Rattle.std.specs.Prelude.{List, Option, map, string_bytes, option_map}
use Rattle.std.specs.Borrow.{Bor}
use Rattle.pg_text.specs.Text.{Bytes}
use Rattle.pg_words.specs.Words.{Command, Solve, Check, Play, Gen, Report, OfFamily, Record, Review}
use Rattle.pg_words.specs.declared.command.Command.{Command as Order}
use Rattle.pg_words.specs.declared.command.Command.TheVariants as order

abbrev pub ordered : Order → Command
ordered (order.Solve g c positions images) =
    Solve (string_bytes g) (string_bytes c) positions images
ordered (order.Check g c) = Check (string_bytes g) (string_bytes c)
ordered (order.Play g c side) = Play (string_bytes g) (string_bytes c) side
ordered (order.Gen which g c) = Gen which (string_bytes g) (option_map string_bytes c)
ordered (order.Report g c) = Report (string_bytes g) (string_bytes c)
ordered (order.OfFamily family task g c) = OfFamily family task (string_bytes g) (string_bytes c)
ordered (order.Record g r) = Record (string_bytes g) (string_bytes r)
ordered (order.Review g r positions) = Review (string_bytes g) (string_bytes r) positions

-- the words behind references
abbrev pub texts : List (Bor Bytes) → List Bytes
texts = map (λ s. s.now)

abbrev pub text : Option (Bor Bytes) → Option Bytes
text = option_map (λ s. s.now)
