use Rattle.std.proofs.Common.{◌≡◌, ◌∙◌, ◌++◌, [], ◌∷◌, ℕ, List, refl, ap}
use Rattle.std.specs.Prelude.{fold}
use Rattle.pg_leaf.specs.Keys.{hash_input}
use Rattle.pg_leaf.specs.SmallSets.{hash_input as set_hash_input}
use Rattle.pg_leaf.proofs.key.KeyHash.hash.Goals as goal

-- what is hashed after another text is hashed with it
fold-more : {S : Type 0} (f : S → List ℕ → S) (s : S) (xs ys : List (List ℕ))
    → fold f (fold f s xs) ys ≡ fold f s (xs ++ ys)
fold-more f s [] ys = refl
fold-more f s (x ∷ xs) ys = fold-more f (f s x) xs ys

pub returns : goal.returns
returns g c = c.hash-2.ensures
    ∙ ap (λ s. fold g.H.Hasher.write s (set_hash_input c.self.inside.y)) c.hash.ensures
    ∙ fold-more g.H.Hasher.write c.args.state.now (set_hash_input c.self.inside.x)
    (set_hash_input c.self.inside.y)
    ∙ ap (λ p. fold g.H.Hasher.write c.args.state.now (hash_input p)) c.self.view_is
