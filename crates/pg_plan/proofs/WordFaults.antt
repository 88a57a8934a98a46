-- The words of a line have one of two faults.
use Rattle.std.proofs.Common.{◌≡◌, ◌∙◌, ℕ, Bool, true, false, cond, ◌⊎◌, inl, inr, List, [], ◌∷◌}
use Rattle.std.proofs.Common.{Option, Some, None, Result, Ok, Err, ap, refl}
use Rattle.std.specs.Prelude.{◌&&◌, nat_lt, codes}
use Rattle.pg_plan.proofs.Common.{Bytes, and_then, bytes_eq, each_of, number, two_parts}
use Rattle.pg_plan.specs.PlanFile.{below, both_of, decided_from, file_of, game_from, image_from}
use Rattle.pg_plan.specs.PlanFile.{moves_from, place_from, step_from, step_of}
use Rattle.pg_plan.specs.declared.fault.Fault.{Fault}
use Rattle.pg_plan.specs.declared.fault.Fault.TheVariants as faults
use Rattle.pg_plan.specs.declared.place.Place.{Place}
use Rattle.pg_plan.specs.declared.place.Place.TheVariants.{Game, Image, Moves}
use Rattle.pg_plan.specs.declared.place.Step.{Step}
use Rattle.pg_text.specs.Faults.{onto}

-- ---- results

abbrev fault_or : {A F : Type 0} → F → Result A F → F
fault_or f (Ok a) = f
fault_or f (Err g) = g

pub err_is : {A F : Type 0} (f g : F) → ◌≡◌ {A = Result A F} (Err f) (Err g) → f ≡ g
err_is f g e = ap (λ (r : Result _ _). fault_or f r) e

-- an if-chain, by the way that the test went
pub chosen : {A : Type 0} (b : Bool) (x y z : A)
    → cond b x y ≡ z
    → ((b ≡ true) × (x ≡ z)) ⊎ ((b ≡ false) × (y ≡ z))
chosen true x y z e = inl (refl, e)
chosen false x y z e = inr (refl, e)

-- ---- faults of numbers

choice_fault : {A : Type 0} (b : Bool) (a : A) (f : Fault)
    → cond b (Ok a) (Err faults.Number) ≡ Err f
    → faults.Number ≡ f
choice_fault {A} true a f e = absurd cc
choice_fault {A} false a f e = err_is {A = A} faults.Number f e

below_fault : (limit : ℕ) (n : Option ℕ) (f : Fault) → below limit n ≡ Err f → faults.Number ≡ f
below_fault limit None f e = err_is {A = ℕ} faults.Number f e
below_fault limit (Some n) f e = choice_fault (nat_lt n limit) n f e

file_fault : (n : Option ℕ) (f : Fault) → file_of n ≡ Err f → faults.Number ≡ f
file_fault None f e = err_is {A = ℕ} faults.Number f e
file_fault (Some n) f e = choice_fault (nat_lt 0 n && nat_lt n 100000) n f e

both_fault : {A B C : Type 0} (make : A → B → C) (a : Result A Fault) (b : Result B Fault)
    (f : Fault)
    → ((g : Fault) → a ≡ Err g → faults.Number ≡ g)
    → ((g : Fault) → b ≡ Err g → faults.Number ≡ g)
    → both_of make a b ≡ Err f
    → faults.Number ≡ f
both_fault {A} {B} {C} make (Err g) b f one two e = one g refl ∙ err_is {A = C} g f e
both_fault {A} {B} {C} make (Ok a) (Err g) f one two e = two g refl ∙ err_is {A = C} g f e
both_fault {A} {B} {C} make (Ok a) (Ok b) f one two e = absurd cc

step_fault : (p : Option (Bytes × Bytes)) (f : Fault) → step_from p ≡ Err f → faults.Number ≡ f
step_fault None f e = err_is {A = Step} faults.Number f e
step_fault (Some p) f e = both_fault (λ v j. record { point = v; place = j })
    (below 1024 (number p.0)) (below 100000 (number p.1)) f
    (λ g h. below_fault 1024 (number p.0) g h) (λ g h. below_fault 100000 (number p.1) g h) e

onto_fault : (r : Result Step Fault) (others : Result (List Step) Fault) (f : Fault)
    → ((g : Fault) → r ≡ Err g → faults.Number ≡ g)
    → ((g : Fault) → others ≡ Err g → faults.Number ≡ g)
    → onto r others ≡ Err f
    → faults.Number ≡ f
onto_fault (Err g) others f one two e = one g refl ∙ err_is {A = List Step} g f e
onto_fault (Ok s) (Err g) f one two e = two g refl ∙ err_is {A = List Step} g f e
onto_fault (Ok s) (Ok ss) f one two e = absurd cc

steps_fault : (ws : List Bytes) (f : Fault) → each_of step_of ws ≡ Err f → faults.Number ≡ f
unfolding step_of
steps_fault [] f e = absurd cc
steps_fault (w ∷ ws) f e = onto_fault (step_of w) (each_of step_of ws) f
    (λ g h. step_fault (two_parts 58 w) g h) (λ g h. steps_fault ws g h) e

-- ---- faults of lines

abbrev pub IsOfWords : Fault → Type 0
IsOfWords f = (faults.Form ≡ f) ⊎ (faults.Number ≡ f)

abbrev Says : Fault → Result Place Fault → Type 0
Says f r = r ≡ Err f

form_says : (f : Fault) → Says f (Err faults.Form) → IsOfWords f
form_says f e = inl (err_is {A = Place} faults.Form f e)

decided_fault : (ws : List Bytes) (f : Fault) → Says f (decided_from ws) → IsOfWords f
decided_fault [] f e = absurd cc
decided_fault (w ∷ ws) f e = form_says f e

image_fault : (ws : List Bytes) (f : Fault) → Says f (image_from ws) → IsOfWords f
image_fault [] f e = form_says f e
image_fault (m ∷ []) f e = form_says f e
image_fault (m ∷ j ∷ []) f e = inr (both_fault (λ n k. Image n k) (below 8 (number m))
    (below 100000 (number j)) f (λ g h. below_fault 8 (number m) g h)
    (λ g h. below_fault 100000 (number j) g h) e)
image_fault (m ∷ j ∷ w ∷ ws) f e = form_says f e

game_fault : (ws : List Bytes) (f : Fault) → Says f (game_from ws) → IsOfWords f
game_fault [] f e = form_says f e
game_fault (k ∷ ws) f e = inr (both_fault (λ n steps. Game n steps) (file_of (number k))
    (each_of step_of ws) f (λ g h. file_fault (number k) g h) (λ g h. steps_fault ws g h) e)

moves_says : (r : Result (List Step) Fault) (f : Fault)
    → ((g : Fault) → r ≡ Err g → faults.Number ≡ g)
    → Says f (and_then r (λ steps. Ok (Moves steps)))
    → IsOfWords f
moves_says (Ok steps) f one e = absurd cc
moves_says (Err g) f one e = inr (one g refl ∙ err_is {A = Place} g f e)

moves_fault : (ws : List Bytes) (f : Fault) → Says f (moves_from ws) → IsOfWords f
moves_fault ws f e = moves_says (each_of step_of ws) f (λ g h. steps_fault ws g h) e

-- one arm of a chain
arm : (b : Bool) (x y : Result Place Fault) (f : Fault)
    → (Says f x → IsOfWords f)
    → (Says f y → IsOfWords f)
    → Says f (cond b x y)
    → IsOfWords f
arm true x y f one two e = one e
arm false x y f one two e = two e

pub words_fault : (ws : List Bytes) (f : Fault) → place_from ws ≡ Err f → IsOfWords f
words_fault [] f e = form_says f e
words_fault (name ∷ ws) f e = arm (bytes_eq name (codes "decided")) (decided_from ws) _ f
    (λ h. decided_fault ws f h)
    (λ h. arm (bytes_eq name (codes "image")) (image_from ws) _ f
    (λ k. image_fault ws f k)
    (λ k. arm (bytes_eq name (codes "game")) (game_from ws) _ f
    (λ i. game_fault ws f i)
    (λ i. arm (bytes_eq name (codes "moves")) (moves_from ws) (Err faults.Form) f
    (λ j. moves_fault ws f j) (λ j. form_says f j) i) k) h) e
