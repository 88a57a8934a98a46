use Rattle.std.specs.Prelude.{option_map}
use Rattle.pg_cert_lines.proofs.DigitRuns.{numbers_are}
use Rattle.pg_cert_lines.proofs.numerals.two_numbers.Goals as goal

pub returns : goal.returns
returns c = numbers_are c.args.sign c.args.text.now c.in_ok-a.behind.now c.in_ok-a.a c.in_ok-b.b
    (option_map (λ w. w.now) c.in_ok-b.others) c.requires.digit c.requires.space c.in_ok-a.ensures
    c.in_ok-b.ensures
