use Rattle.pg_pns.proofs.Descending.{moves-read}
use Rattle.pg_pns.proofs.descent.next_on_way.Goals as goal

pub best-best-requires : goal.best-best-requires
best-best-requires c =
    let within = moves-read c.requires.search.2 c.requires.search.0 c.requires.search.1
    c.args.table.now c.requires.search.3 c.args.place c.as_slice-nexts.result.now
    c.index-nexts-place.result c.as_slice-answers.result.now c.requires.range
    c.as_slice-nexts.ensures.value c.index-nexts-place.is c.as_slice-answers.ensures.value in
    rw c.as_slice-moves.ensures within

pub first_open-requires : goal.first_open-requires
first_open-requires c =
    let within = moves-read c.requires.search.2 c.requires.search.0 c.requires.search.1
    c.args.table.now c.requires.search.3 c.args.place c.as_slice-nexts.result.now
    c.index-nexts-place.result c.as_slice-answers.result.now c.requires.range
    c.as_slice-nexts.ensures.value c.index-nexts-place.is c.as_slice-answers.ensures.value in
    rw c.as_slice-moves.ensures within
