-- What the options of `posgame-settle` say, each of which is one word.
use Rattle.std.specs.Prelude.{ℕ, Bool, true, false, ◌&&◌, not, if◌then◌else◌, List, [], ◌∷◌, codes}
use Rattle.std.specs.Prelude.{Option, Some, None, option_and_then, option_map}
use Rattle.std.specs.Str.{bytes_eq}
use Rattle.pg_io.specs.Files.{Bytes}
use Rattle.pg_text.specs.Text.{number, two_parts}
use Rattle.pg_request.specs.declared.options.Options.{Options}
use Rattle.pg_request.specs.declared.options.TheConstants.{EQUALS}

-- the number, where none was given before
abbrev pub fresh : Option ℕ → Option ℕ → Option ℕ
fresh None n = n
fresh (Some given) n = None

-- the options with a flag that wasn't given before
abbrev pub with_flag : Options → Bytes → Option Options
with_flag o word =
    if bytes_eq (codes "--images") word && not o.images then Some (record o { images = true })
    else if bytes_eq (codes "--json") word && not o.json then Some (record o { json = true })
    else None

-- the options with a limit that wasn't given before
abbrev pub with_limit : Options → Bytes → Option ℕ → Option Options
with_limit o name n =
    if bytes_eq (codes "--positions") name
    then option_map (λ k. record o { positions = Some k }) (fresh o.positions n)
    else if bytes_eq (codes "--entries") name
    then option_map (λ k. record o { entries = Some k }) (fresh o.entries n)
    else if bytes_eq (codes "--nodes") name
    then option_map (λ k. record o { nodes = Some k }) (fresh o.nodes n)
    else None

-- the options with a word, which is a flag, or a limit as a name, `=` and a number
abbrev pub with_parts : Options → Bytes → Option (Bytes × Bytes) → Option Options
with_parts o word None = with_flag o word
with_parts o word (Some parts) = with_limit o parts.0 (number parts.1)

abbrev pub with_word : Options → Bytes → Option Options
with_word o word = with_parts o word (two_parts EQUALS word)

-- the options with all these words
abbrev pub with_words : Option Options → List Bytes → Option Options
with_words o [] = o
with_words o (word ∷ words) = with_words (option_and_then (λ given. with_word given word) o) words

-- no option
abbrev pub no_options : Options
no_options = record {
  positions = None;
  entries = None;
  nodes = None;
  images = false;
  json = false;
}

-- what words say; none where one is no option, or an option is repeated
abbrev pub options_of : List Bytes → Option Options
options_of words = with_words (Some no_options) words
