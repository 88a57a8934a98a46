use Rattle.std.proofs.Common.{sym}
use Rattle.std.proofs.lemmas.List.{append-nil}
use Rattle.std.proofs.lemmas.Option.{slice_get_past}
use Rattle.pg_family_book.proofs.spans.put_leaf.Goals as goal

pub returns-in_default : goal.returns-in_default
returns-in_default c =
    let past = rw c.as_slice.ensures at c.in_default.ensures.lookup in
    rw (slice_get_past c.args.cert.now.claims c.args.number past.3)
    (sym (append-nil c.args.leaves.now.items))
