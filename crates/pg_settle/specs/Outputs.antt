-- What is printed of a result.
use Rattle.std.specs.Prelude.{ℕ, List, [], ◌∷◌, Option, Some, None, string_bytes}
use Rattle.pg_settle.specs.Prelude.{Bytes, Class, Game, Score, class_text, expanded_text}
use Rattle.pg_settle.specs.Prelude.{result_text, texts_of, unknown_text}
use Rattle.pg_settle.specs.JsonLines.{class_data, json_line, open_data, said_as, value_data}
use Rattle.pg_settle.specs.declared.output.Output.{Output}
use Rattle.pg_settle.specs.declared.output.Output.TheVariants.{Json, Messages}

-- the texts that are printed
abbrev pub texts_of_output : Output → List Bytes
texts_of_output (Messages message further) = texts_of message further
texts_of_output (Json line) = string_bytes line ∷ []

-- of a score: that it is the value, how many positions were expanded, and how many nodes the
-- certificate has; as JSON its bytes too
abbrev pub score_texts : Option Bytes → Game → Score → ℕ → ℕ → ℕ → List Bytes
score_texts json g score nodes expanded bytes = said_as json
    (result_text g.kind score ∷ expanded_text expanded nodes ∷ [])
    (λ name. value_data name g score nodes expanded bytes)

-- of a class; as JSON the nodes and the bytes of the certificate too
abbrev pub class_texts : Option Bytes → Game → Class → ℕ → ℕ → List Bytes
class_texts json g class nodes bytes =
    said_as json (class_text class ∷ []) (λ name. class_data name g class nodes bytes)

-- of a game that stays open after so many positions
abbrev pub open_text : Option Bytes → Game → ℕ → Bytes
open_text None g expanded = unknown_text expanded
open_text (Some name) g expanded = json_line (open_data name g expanded)
