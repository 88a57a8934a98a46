use Rattle.std.proofs.Common.{◌≡◌, ◌-◌, ℕ, length, arith, ap₂}
use Rattle.pg_cert_files.proofs.ShortTexts.{fed_less, sizes_are}
use Rattle.pg_cert_files.proofs.cert_state.CertReader.cut_line.Goals as goal

pub invariant_of-self-2-clause-few : goal.invariant_of-self-2-clause-few
invariant_of-self-2-clause-few c =
    let sizes = sizes_are c.args.self.now c.shorten.new.self c.requires.fed c.requires.small
    c.shorten.ensures.fewer c.in_ok-shorten.ensures.short in
    let before : c.len-before.result ≡ length c.args.self.now.lines.pending.items =
    omega (arith, c.len-before.ensures, c.args.self.now.lines.pending.ok.0) in
    let after : c.len-after.result ≡ length c.shorten.new.self.pending.items =
    omega (arith, c.len-after.ensures, c.shorten.new.self.pending.ok.0) in
    omega (arith, sizes.few, before, after)

pub returns : goal.returns
returns c = λ text fed.
    let before : c.len-before.result ≡ length c.args.self.now.lines.pending.items =
    omega (arith, c.len-before.ensures, c.args.self.now.lines.pending.ok.0) in
    let after : c.len-after.result ≡ length c.shorten.new.self.pending.items =
    omega (arith, c.len-after.ensures, c.shorten.new.self.pending.ok.0) in
    fed_less c.args.self.now _ text c.requires.small c.shorten.ensures.fewer
    (ap₂ (λ (a b : ℕ). c.args.self.now.size - (a - b)) before after)
    (λ stands. c.in_ok-shorten.ensures.short text stands) fed
