use Rattle.std.proofs.Common.{◌≡◌, take}
use Rattle.std.proofs.lemmas.List.{take_all}
use Rattle.pg_files.proofs.PrintLemmas.{numbers_text}
use Rattle.pg_files.proofs.printing.put_numbers.Goals as goal

pub returns : goal.returns
returns c =
    let all : take c.loop-n.n-index c.args.numbers.now ≡ c.args.numbers.now =
    take_all _ _ c.loop-n-test.false in
    rw (c.in_ok-push_str-2.ensures.bytes, c.loop-n.invariant, all)
    (numbers_text c.args.word.now c.args.numbers.now _)
