use Rattle.std.proofs.Common.{◌≡◌, ◌∙◌, Bool, true, ap, sym}
use Rattle.std.specs.List.{list_all}
use Rattle.std.proofs.lemmas.List.Sums.{AllPass-from_list_all}
use Rattle.pg_cert.specs.Limits.{has_body}
use Rattle.pg_cert.specs.declared.cert.Version.TheVariants.{One}
use Rattle.pg_cert.specs.declared.node.Node.{Node}
use Rattle.pg_finder.proofs.searching.version_of.Goals as goal

pub returns-then-are_plain-clause-bodies : goal.returns-then-are_plain-clause-bodies
returns-then-are_plain-clause-bodies c =
    let plain : Node → Bool = λ node. has_body One node.body in
    let all : list_all plain c.args.claim.now.nodes ≡ true =
    ap (list_all plain) (sym c.as_slice.ensures) ∙ sym c.are_plain.ensures ∙ c.if-are_plain.true in
    AllPass-from_list_all plain c.args.claim.now.nodes all
