use Rattle.std.proofs.Common.{◌≡◌, ◌∙◌, ◌<◌, ◌∷◌, ◌++◌, [], List, ℕ, length, get_or, take, ap}
use Rattle.std.proofs.Common.{sym, arith}
use Rattle.pg_potential.proofs.Common.{append_assoc, take_more, words_of}
use Rattle.pg_potential.proofs.marks.push_row.Goals as goal

pub loop-i-preserved : goal.loop-i-preserved
loop-i-preserved c =
    let row = words_of c.args.set.now in
    let before = c.args.words.now.items in
    let i = c.loop-i.i in
    let is = c.words-row.ensures.words in
    let many = ap (λ (l : List ℕ). length l) is in
    let lt : i < length row =
    omega (arith, c.loop-i-test.true, c.requires, c.words-row.ensures.count, many) in
    c.in_ok-push.ensures.items
    ∙ ap (λ (w : ℕ). c.loop-i.words.items ++ w ∷ []) (ap (λ (l : List ℕ). get_or l i 0) is)
    ∙ ap (λ (l : List ℕ). l ++ get_or row i 0 ∷ []) c.loop-i.invariant
    ∙ append_assoc before (take i row) (get_or row i 0 ∷ [])
    ∙ ap (λ (l : List ℕ). before ++ l) (sym (take_more row i 0 lt))

pub returns : goal.returns
returns c =
    let all : c.loop-i.i ≡ c.args.width = omega (arith, c.loop-i-test.false, c.loop-i.auto.i-end) in
    c.loop-i.invariant
    ∙ ap (λ (n : ℕ). c.args.words.now.items ++ take n (words_of c.args.set.now)) all
