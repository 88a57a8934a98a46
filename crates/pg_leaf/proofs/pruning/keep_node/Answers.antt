use Rattle.std.proofs.Common.{◌≡◌, ◌∙◌, ◌++◌, ◌∷◌, ℕ, List, [], length, sym, ap, subst, rules}
use Rattle.std.proofs.lemmas.Bool.{false≢true}
use Rattle.pg_leaf.proofs.Common.{Body}
use Rattle.pg_leaf.specs.Pruned.{Renumbers}
use Rattle.pg_leaf.proofs.pruning.keep_node.Goals as goal

pub returns : goal.returns
returns c =
    let len : c.len.result ≡ length c.args.out.now.items = search rules in
    record {
      number = c.in_ok-push.ensures.items ∙ ap (λ n. c.args.numbers.now.items ++ n ∷ []) len;
      taken = λ _. (
        c.with_body.result,
        c.with_body.ensures.position,
        subst (λ (b : Body). Renumbers c.push.new.self.items c.args.node.now.body b)
            (sym c.with_body.ensures.body)
            (subst (λ (b : Body). Renumbers c.push.new.self.items b c.in_ok-body.body)
            c.body.ensures
            (subst (λ (ns : List ℕ). Renumbers ns c.body.result.now c.in_ok-body.body)
            c.as_slice.ensures.value c.in_ok-body.ensures)),
        c.in_ok-push-2.ensures.items,
      );
      left = λ off. absurd (false≢true (sym off ∙ c.if-not-marked.false));
    }
