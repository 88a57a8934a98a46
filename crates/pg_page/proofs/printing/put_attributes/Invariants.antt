use Rattle.std.proofs.Common.{◌≡◌, ◌++◌, string_bytes, take}
use Rattle.std.specs.List.{flat_map}
use Rattle.pg_page.specs.Html.{attribute_text}
use Rattle.pg_page.proofs.printing.put_attributes.Given as goal

abbrev pub invariant-loop-attribute : goal.invariant-loop-attribute
invariant-loop-attribute l =
    string_bytes l.out
    ≡ string_bytes l.fn.out ++ flat_map attribute_text (take l.attribute-index l.attributes)
