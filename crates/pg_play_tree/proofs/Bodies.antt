-- The nodes of places.
use Rattle.std.proofs.Common.{◌≡◌, true, refl, sym, subst}
use Rattle.pg_cert.specs.Limits.{has_body}
use Rattle.pg_cert.specs.declared.node.Body.TheVariants.{Pairs, Potential, Threat, Weaker}
use Rattle.pg_play_tree.specs.Prelude.{All, Body, Cert, Cuts, Game, Move, One, Over, Position}
use Rattle.pg_play_tree.specs.Prelude.{Side, Trees}
use Rattle.pg_play_tree.specs.Tree.{IsPlayedBody}
use Rattle.pg_play_tree.specs.Places.{HasStep, IsStepAt}
use Rattle.pg_play_tree.specs.declared.place.Step.{Step}
use Rattle.pg_play_tree.specs.declared.place.Step.TheVariants as steps

-- the body of a place's step is played
pub body_played : (g : Game) (cert : Cert) (side : Side) (p q : Position) (s : Step) (b : Body)
    → HasStep s b
    → q ≡ p
    → IsStepAt g cert side p s
    → IsPlayedBody g cert side q b
body_played g cert side p q steps.Over b has at step =
    subst (λ (body : Body). IsPlayedBody g cert side q body) (sym has) tt
body_played g cert side p q (steps.Own v) b (child, has) at step =
    subst (λ (body : Body). IsPlayedBody g cert side q body) (sym has)
    (subst (λ (r : Position). IsStepAt g cert side r (steps.Own v)) (sym at) step)
body_played g cert side p q steps.Replies b (replies, has) at step =
    subst (λ (body : Body). IsPlayedBody g cert side q body) (sym has) tt

-- version 1 has it
pub played_plain : (g : Game) (cert : Cert) (side : Side) (p : Position) (b : Body)
    → IsPlayedBody g cert side p b
    → has_body One b ≡ true
played_plain g cert side p Over played = refl
played_plain g cert side p (Move point child) played = refl
played_plain g cert side p (All replies) played = refl
played_plain g cert side p (Pairs pairs) played = absurd played
played_plain g cert side p Potential played = absurd played
played_plain g cert side p (Trees with_e first second) played = absurd played
played_plain g cert side p (Cuts with_e first second) played = absurd played
played_plain g cert side p (Threat points) played = absurd played
played_plain g cert side p (Weaker child) played = absurd played
