use Rattle.std.proofs.Common.{◌≡◌, ◌<◌, ◌*◌, ◌/◌, ◌%◌, ◌^◌, ◌∙◌, ℕ, sym, ap, arith, bit_or, get_or}
use Rattle.std.proofs.Common.{length}
use Rattle.std.proofs.lemmas.List.{get_or-set_other, get_or-set_same}
use Rattle.pg_base.specs.WordLemmas.{with_bit}
use Rattle.pg_potential.proofs.marks.word_with.Goals as goal

pub returns-then-i-from : goal.returns-then-i-from
returns-then-i-from c =
    let ws = c.args.words.now in
    let v = c.args.v in
    let here : c.args.i ≡ v / 64 = c.if-i-from.true ∙ c.from.ensures in
    let lt : v / 64 < length ws = omega (arith, here, c.requires) in
    ap (λ (n : ℕ). bit_or (get_or ws n 0) (1 * 2 ^ (v % 64) % 2 ^ 64)) here
    ∙ sym (get_or-set_same ws (v / 64) (bit_or (get_or ws (v / 64) 0) (1 * 2 ^ (v % 64) % 2 ^ 64))
    0 lt)
    ∙ ap (λ (n : ℕ). get_or (with_bit ws v) n 0) (sym here)

pub returns-else-i-from : goal.returns-else-i-from
returns-else-i-from c =
    let ws = c.args.words.now in
    let v = c.args.v in
    sym (get_or-set_other ws (v / 64) c.args.i
    (bit_or (get_or ws (v / 64) 0) (1 * 2 ^ (v % 64) % 2 ^ 64)) 0
    (λ same. c.if-i-from.false (same ∙ sym c.from.ensures)))
