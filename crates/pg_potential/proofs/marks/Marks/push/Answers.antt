use Rattle.std.proofs.Common.{take, sym, subst, refl}
use Rattle.pg_base.specs.Words.{words_of}
use Rattle.pg_potential.proofs.FlatMarks.{Fit, kept-more, flat-more, fit-append, fit-words, rows-of}
use Rattle.pg_potential.proofs.marks.Marks.push.Goals as goal

pub returns-clause-flat : goal.returns-clause-flat
returns-clause-flat c =
    let m = c.args.self.now in
    let p = c.args.p.now in
    let words =
    rows-of m.words.items _ _ m.width p.x p.y _ _ refl refl c.in_ok-push_row.ensures
    c.in_ok-push_row-2.ensures in
    flat-more m _ p
    (record { side = p.turn; left = p.left }) c.requires.flat refl words c.in_ok-push.ensures.items
    (subst Fit (sym words)
    (fit-append m.words.items _ c.requires.flat.fit (fit-append (take m.width (words_of p.x))
    (take m.width (words_of p.y)) (fit-words m.width p.x) (fit-words m.width p.y))))

pub returns-clause-kept : goal.returns-clause-kept
returns-clause-kept c =
    let m = c.args.self.now in
    let p = c.args.p.now in
    let words =
    rows-of m.words.items _ _ m.width p.x p.y _ _ refl refl c.in_ok-push_row.ensures
    c.in_ok-push_row-2.ensures in
    kept-more m _ p (record { side = p.turn; left = p.left }) c.requires.flat refl c.requires.x
    c.requires.y words c.in_ok-push.ensures.items refl refl
