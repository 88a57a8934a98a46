-- Logs that grow by texts.
use Rattle.std.proofs.Common.{◌≡◌, ℕ, ◌+◌, ◌<◌, List, [], ◌∷◌, ◌++◌, length, get_or, take, drop}
use Rattle.std.proofs.Common.{map, Option, Some, None, Result, Ok, Err, sym, ◌∙◌, ap, subst}
use Rattle.std.proofs.Common.{append_assoc, rules}
use Rattle.pg_talk.proofs.Common.{append-nil, map-append, map_more, take-append-drop, Bytes, Grows}
use Rattle.pg_talk.proofs.Common.{Entry, Said, Stop}
use Rattle.std.specs.Result.{IsErr}
use Rattle.pg_talk.specs.Saying.{Speaks, IsCut}

pub Grows-nothing : (log : Option (List Entry)) → Grows log log []
Grows-nothing None = tt
Grows-nothing (Some entries) = ap (λ (l : List Entry). Some l) (sym (append-nil entries))

pub Grows-then : (a b c : Option (List Entry)) (xs ys : List Entry)
    → Grows a b xs
    → Grows b c ys
    → Grows a c (xs ++ ys)
Grows-then None b c xs ys h k = tt
Grows-then (Some entries) None c xs ys h k = absurd (cc h)
Grows-then (Some entries) (Some more) c xs ys h k =
    let e : more ≡ entries ++ xs = search (rules, h) in
    k
    ∙ ap (λ (l : List Entry). Some l)
    (ap (λ (l : List Entry). l ++ ys) e ∙ append_assoc entries xs ys)

pub Speaks-from_err : {T : Type 0} (texts : List Bytes) (log after : Option (List Entry))
    (r : Result T Stop)
    → IsErr r
    → IsCut texts log after
    → Speaks texts log after r
Speaks-from_err texts log after (Ok x) e cut = absurd (cc e)
Speaks-from_err texts log after (Err x) e cut = cut

module _ {A : Type 0} (f : A → Bytes) (xs : List A) (k : ℕ) (x : A) (in_range : k < length xs)
    (at : x ≡ get_or xs k x) (log mid after : Option (List Entry))
    (before : Grows log mid (map Said (map f (take k xs)))) where
  one_more : map f (take (k + 1) xs) ≡ map f (take k xs) ++ f x ∷ []
  one_more = map_more f xs k x in_range ∙ ap (λ (y : A). map f (take k xs) ++ f y ∷ []) (sym at)

  -- the texts of the first members were said, and that of the next one
  pub grows_more : Grows mid after (map Said (f x ∷ []))
      → Grows log after (map Said (map f (take (k + 1) xs)))
  grows_more now =
      let e : map Said (map f (take k xs)) ++ map Said (f x ∷ [])
      ≡ map Said (map f (take (k + 1) xs)) =
      sym (map-append Said (map f (take k xs)) (f x ∷ [])) ∙ ap (map Said) (sym one_more) in
      subst (λ (l : List Entry). Grows log after l) e (Grows-then log mid after _ _ before now)

-- the texts of the first members were said, and nothing more
pub cut_here : {A : Type 0} (f : A → Bytes) (xs : List A) (k : ℕ)
    (log mid after : Option (List Entry))
    → Grows log mid (map Said (map f (take k xs)))
    → after ≡ mid
    → IsCut (map f xs) log after
cut_here f xs k log mid after before quiet = (
  map f (take k xs),
  map f (drop k xs),
  sym (ap (map f) (take-append-drop k xs)) ∙ map-append f (take k xs) (drop k xs),
  subst (λ (l : Option (List Entry)). Grows log l (map Said (map f (take k xs))))
      (sym quiet) before,
)
