use Rattle.std.proofs.Common.{◌≡◌, ◌++◌, string_bytes, take}
use Rattle.pg_page.specs.Html.{ruled}
use Rattle.pg_page.proofs.printing.put_rules.Given as goal

abbrev pub invariant-loop-byte : goal.invariant-loop-byte
invariant-loop-byte l =
    string_bytes l.out ≡ string_bytes l.fn.out ++ ruled (take l.byte-index l.byte-items)
