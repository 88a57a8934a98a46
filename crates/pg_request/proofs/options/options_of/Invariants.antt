use Rattle.std.proofs.Common.{◌≡◌, drop, map, string_bytes}
use Rattle.pg_request.specs.Options.{options_of, with_words}
use Rattle.pg_request.proofs.options.options_of.Given as goal

abbrev pub invariant-loop-word : goal.invariant-loop-word
invariant-loop-word l = with_words l.options (map string_bytes (drop l.word-index l.words))
    ≡ options_of (map string_bytes l.words)
