use Rattle.std.proofs.Common.{◌≡◌, ◌++◌, drop, map, string_bytes}
use Rattle.std.specs.Str.Lossy.{utf8_lossy}
use Rattle.pg_request.proofs.request.words_of.Given as goal

abbrev pub invariant-loop-part : goal.invariant-loop-part
invariant-loop-part l = map string_bytes l.words.items
    ++ map utf8_lossy (drop l.part-index l.parts) ≡ map utf8_lossy l.parts
