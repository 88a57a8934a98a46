use Rattle.std.proofs.Common.{◌≡◌, ◌++◌, take}
use Rattle.std.specs.List.{flat_map}
use Rattle.pg_book_parts.specs.Elements.{paragraph}
use Rattle.pg_family_book.proofs.page.push_paragraphs.Given as goal

abbrev pub invariant-loop-text : goal.invariant-loop-text
invariant-loop-text l = l.pieces.items
    ≡ l.fn.pieces.items ++ flat_map paragraph (take l.text-index l.texts)
