use Rattle.std.proofs.Common.{ℕ, List, [], ◌∷◌, ◌++◌, sym, subst}
use Rattle.std.proofs.lemmas.Result.{IfOk-weaker}
use Rattle.pg_evidence.proofs.Common.{Part}
use Rattle.pg_cert.specs.declared.part.Part.TheVariants as parts
use Rattle.pg_check.specs.Checking.{AreNext, StandsFor as IsChecked}
use Rattle.pg_unfold.specs.Layouts.{size_in}
use Rattle.pg_unfold.proofs.Layouts.{some-laid}
use Rattle.pg_evidence.proofs.Feeding.{fed-claim, head-next, head-open}
use Rattle.pg_evidence.proofs.folded.feed_claim.Goals as goal

pub part-requires : goal.part-requires
part-requires c =
    let claim = c.args.claim.now in
    let layout = c.args.layout.now in
    let laid = c.requires.laid in
    record {
      next = subst (λ (n : ℕ). AreNext c.args.checking.now
          (parts.Claim claim.turn claim.side claim.goal n ∷ [])) (sym c.size.ensures)
          (head-next claim.turn claim.side claim.goal (size_in layout)
          (some-laid c.args.game.now claim layout c.requires.sound laid) laid.few
          c.args.checking.now c.requires.room);
    }

pub feed_copies-requires-clause-next : goal.feed_copies-requires-clause-next
feed_copies-requires-clause-next c =
    let claim = c.args.claim.now in
    let layout = c.args.layout.now in
    let laid = c.requires.laid in
    head-open claim.turn claim.side claim.goal (size_in layout)
    (some-laid c.args.game.now claim layout c.requires.sound laid) laid.few c.args.checking.now
    c.requires.room c.part.new.self
    (subst (λ (n : ℕ). (fed : List Part) → IsChecked c.args.checking.now fed
    → IsChecked c.part.new.self (fed ++ parts.Claim claim.turn claim.side claim.goal n ∷ []))
    c.size.ensures c.in_ok-part.ensures.stands)

pub returns-clause-fed : goal.returns-clause-fed
returns-clause-fed c =
    let claim = c.args.claim.now in
    IfOk-weaker _ _ _
    (λ _ h. fed-claim c.args.game.now claim c.args.layout.now c.requires.sound c.requires.laid
    c.args.checking.now c.part.new.self c.feed_copies.new.checking
    (subst (λ (n : ℕ). (fed : List Part) → IsChecked c.args.checking.now fed
    → IsChecked c.part.new.self (fed ++ parts.Claim claim.turn claim.side claim.goal n ∷ []))
    c.size.ensures c.in_ok-part.ensures.stands) h) c.feed_copies.ensures.fed
