use Rattle.std.proofs.Common.{length, refl, sym, rules}
use Rattle.std.proofs.lemmas.Option.{slice_get_read}
use Rattle.pg_fold.proofs.Coding.{unmarked}
use Rattle.pg_fold.proofs.known.Known.find.Goals as goal

pub returns-then-not-index : goal.returns-then-not-index
returns-then-not-index c =
    let known = c.args.self.now in
    let marks = known.marks.items in
    let at = slice_get_read marks (length marks) c.place_of.result c.index.result.now refl
    (search rules) (search rules) in
    sym (unmarked known c.requires c.args.p.now c.index.result.now (search rules) (search rules))
