use Rattle.std.proofs.Common.{◌≡◌, ◌*◌, ◌-◌, length, replicate, false, true, set, List, Bool, ap}
use Rattle.std.proofs.Common.{sym, ◌∙◌, subst, rules, arith}
use Rattle.std.proofs.lemmas.List.{take_at}
use Rattle.pg_unfold.specs.Marks.{AreMet}
use Rattle.pg_unfold.proofs.MetCopies.{passed-none}
use Rattle.pg_unfold.proofs.met.met_copies.Goals as goal

pub pass_down-requires-clause-root : goal.pass_down-requires-clause-root
pass_down-requires-clause-root c =
    let none : c.in_ok-marks.marks.items ≡ replicate (8 * length c.args.nodes.now) false =
    search rules in
    passed-none c.args.nodes.now c.requires.some c.deref_mut.result.now (c.deref_mut.ensures.value
    ∙ ap (λ (ms : List Bool). set ms (8 * (length c.args.nodes.now - 1)) true) none)

pub returns : goal.returns
returns c = subst (λ (ms : List Bool). AreMet c.args.nodes.now ms)
    (sym (take_at c.pass_down.new.marks _ c.in_ok-marks.marks.len (omega arith)))
    c.pass_down.ensures
