-- A text lacks a sign, or has a first one.
use Rattle.std.proofs.Common.{◌≡◌, ◌⊎◌, ℕ, Bool, true, false, [], ◌∷◌, ◌++◌, refl, ap, inl, inr}
use Rattle.std.proofs.Common.{eqb-true}
use Rattle.std.specs.Prelude.{◌==◌}
use Rattle.std.proofs.lemmas.List.Elements.{All-cons, All-nil}
use Rattle.pg_image.proofs.Common.{Bytes, Lacks}

pub record HasSign (sign : ℕ) (text : Bytes) : Type 0 where
  pub front : Bytes
  pub rest : Bytes
  pub cut : text ≡ front ++ sign ∷ rest
  pub lacks : Lacks sign front

pub sign_or_none : (sign : ℕ) (text : Bytes) → Lacks sign text ⊎ HasSign sign text
sign_or_none sign [] = inl (All-nil (λ (b : ℕ). (b == sign) ≡ false))
sign_or_none sign (b ∷ bs) = go (b == sign) refl (sign_or_none sign bs) where
  go : (t : Bool)
      → (b == sign) ≡ t
      → Lacks sign bs ⊎ HasSign sign bs
      → Lacks sign (b ∷ bs) ⊎ HasSign sign (b ∷ bs)
  go true is others = inr (record {
    front = [];
    rest = bs;
    cut = ap (λ (c : ℕ). c ∷ bs) (eqb-true b sign is);
    lacks = All-nil (λ (b : ℕ). (b == sign) ≡ false);
  })
  go false is (inl lacks) = inl (All-cons (λ (b : ℕ). (b == sign) ≡ false) b bs is lacks)
  go false is (inr h) = inr (record {
    front = b ∷ h.front;
    rest = h.rest;
    cut = ap (λ (t : Bytes). b ∷ t) h.cut;
    lacks = All-cons (λ (b : ℕ). (b == sign) ≡ false) b h.front is h.lacks;
  })
