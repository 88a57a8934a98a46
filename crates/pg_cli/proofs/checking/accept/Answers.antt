use Rattle.std.proofs.Common.{◌∙◌, subst}
use Rattle.pg_cli.proofs.Common.{err_from_is_err_and, IsFound}
use Rattle.pg_cli.proofs.Accepting.{judged_all, judged_cut, judged_rejects, judged_unmade}
use Rattle.pg_cli.proofs.checking.accept.Goals as goal

pub returns-in_err-accept_all-in-Valid-clause-judged :
    goal.returns-in_err-accept_all-in-Valid-clause-judged
returns-in_err-accept_all-in-Valid-clause-judged g c =
    let p = err_from_is_err_and c.from_residual.result c.from_residual.ensures.1 in
    λ played e found. let f = subst (IsFound played e) c.in-Valid.is found in
    rw (p.1, p.2)
    (judged_cut played e c.deref.result.now f.0
    (c.deref.ensures.value ∙ f.1) _ _ _ c.in_err-accept_all-in-Valid.ensures.write
    c.in_err-accept_all-in-Valid.ensures.said c.in_err-accept_all-in-Valid.ensures.left)

pub returns-in_ok-accept_all-in-Valid-clause-judged :
    goal.returns-in_ok-accept_all-in-Valid-clause-judged
returns-in_ok-accept_all-in-Valid-clause-judged g c =
    λ played e found. let f = subst (IsFound played e) c.in-Valid.is found in
    judged_all played e c.deref.result.now f.0 (c.deref.ensures.value ∙ f.1) _ _
    c.in_ok-accept_all-in-Valid.ensures.said c.in_ok-accept_all-in-Valid.ensures.left

pub returns-in-Faulty-clause-judged : goal.returns-in-Faulty-clause-judged
returns-in-Faulty-clause-judged g c = λ played e found. judged_rejects played e c.in-Faulty.claim
    c.in-Faulty.node c.in-Faulty.why _ (subst (IsFound played e) c.in-Faulty.is found)

pub returns-in-FaultyImage-clause-judged : goal.returns-in-FaultyImage-clause-judged
returns-in-FaultyImage-clause-judged g c =
    λ played e found. judged_unmade played e c.in-FaultyImage.claim c.in-FaultyImage.node
    c.in-FaultyImage.why _ (subst (IsFound played e) c.in-FaultyImage.is found)
