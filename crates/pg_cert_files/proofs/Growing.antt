-- How a text that grows is cut into lines.
use Rattle.std.proofs.Common.{◌≡◌, ℕ, ◌<◌, length, arith, Bool, true, false, List, [], ◌∷◌, ◌++◌}
use Rattle.std.proofs.Common.{refl, sym, ap, ◌∙◌, append_assoc}
use Rattle.std.specs.Prelude.{◌==◌, fold}
use Rattle.pg_cert_files.proofs.Common.{AllByRecursion, slice_split, onto_first, length-slice_split}
use Rattle.pg_cert_files.proofs.Common.{slice_split-cons_yes, slice_split-cons_no, append-nil}
use Rattle.pg_cert_files.proofs.Common.{fold-append, Bytes, Lacks, is_feed, recursion_from_All}
use Rattle.pg_cert_files.specs.Lines.{Cut, with_byte, cut}
use Rattle.pg_cert_files.specs.CertFile.{Seen, nothing, after, seen}
use Rattle.pg_cert_files.specs.Reader.{told}

abbrev pub HasNoFeed : Bytes → Type 0
HasNoFeed bytes = AllByRecursion (λ b. (b == 10) ≡ false) bytes

abbrev none_cut : Cut
none_cut = record { whole = []; rest = [] }

grows : (c : Cut) (bs : Bytes)
    → HasNoFeed bs
    → fold with_byte c bs ≡ record { whole = c.whole; rest = c.rest ++ bs }
grows c [] h = ap (λ (r : Bytes). record c { rest = r }) (sym (append-nil c.rest))
grows c (b ∷ bs) h = rw h.0 (grows (record c { rest = c.rest ++ b ∷ [] }) bs h.1
    ∙ ap (λ (r : Bytes). record c { rest = r }) (append_assoc c.rest (b ∷ []) bs))

pub cut_add : (text bs : Bytes)
    → Lacks 10 bs
    → cut (text ++ bs) ≡ record { whole = (cut text).whole; rest = (cut text).rest ++ bs }
unfolding cut
cut_add text bs h = fold-append with_byte none_cut text bs
    ∙ grows (fold with_byte none_cut text) bs (recursion_from_All (λ b. (b == 10) ≡ false) bs h)

pub cut_feed : (text : Bytes)
    → cut (text ++ 10 ∷ []) ≡ record { whole = (cut text).whole ++ (cut text).rest ∷ []; rest = [] }
unfolding cut
cut_feed text = fold-append with_byte none_cut text (10 ∷ [])

pub told_add : (text bs : Bytes) → Lacks 10 bs → told (text ++ bs) ≡ told text
told_add text bs h = ap (λ (c : Cut). seen c.whole) (cut_add text bs h)

pub told_feed : (text : Bytes) → told (text ++ 10 ∷ []) ≡ after (told text) (cut text).rest
unfolding seen
told_feed text = ap (λ (c : Cut). seen c.whole) (cut_feed text)
    ∙ fold-append after nothing (cut text).whole ((cut text).rest ∷ [])

-- a whole line, whose last bytes these are
pub told_line : (text last : Bytes)
    → Lacks 10 last
    → told (text ++ (last ++ 10 ∷ [])) ≡ after (told text) ((cut text).rest ++ last)
told_line text last h =
    let grown : told (text ++ last) ≡ told text = told_add text last h in
    let line : (cut (text ++ last)).rest ≡ (cut text).rest ++ last =
    ap (λ (c : Cut). c.rest) (cut_add text last h) in
    ap (λ (t : Bytes). told t) (sym (append_assoc text last (10 ∷ [])))
    ∙ told_feed (text ++ last)
    ∙ ap (λ (s : Seen). after s (cut (text ++ last)).rest) grown
    ∙ ap (after (told text)) line

-- nothing is in hand behind it
pub rest_line : (text last : Bytes) → (cut (text ++ (last ++ 10 ∷ []))).rest ≡ []
rest_line text last = ap (λ (t : Bytes). (cut t).rest) (sym (append_assoc text last (10 ∷ [])))
    ∙ ap (λ (c : Cut). c.rest) (cut_feed (text ++ last))

-- ---- the same by the parts that `split` gives

abbrev onto_front : Bytes → List Bytes → List Bytes
onto_front r [] = []
onto_front r (part ∷ parts) = (r ++ part) ∷ parts

front_none : (parts : List Bytes) → onto_front [] parts ≡ parts
front_none [] = refl
front_none (part ∷ parts) = refl

front_more : (r : Bytes) (b : ℕ) (parts : List Bytes)
    → 0 < length parts
    → onto_front (r ++ b ∷ []) parts ≡ onto_front r (onto_first b parts)
front_more r b [] h = absurd (omega arith)
front_more r b (part ∷ parts) h = ap (λ (x : Bytes). x ∷ parts) (append_assoc r (b ∷ []) part)

at_byte : (c : Cut) (b : ℕ) (bs : Bytes) (t : Bool)
    → ((d : Cut) → (fold with_byte d bs).whole ++ (fold with_byte d bs).rest ∷ []
    ≡ d.whole ++ onto_front d.rest (slice_split is_feed bs))
    → is_feed b ≡ t
    → (fold with_byte c (b ∷ bs)).whole ++ (fold with_byte c (b ∷ bs)).rest ∷ []
    ≡ c.whole ++ onto_front c.rest (slice_split is_feed (b ∷ bs))
at_byte c b bs true others e =
    let next : Cut = record { whole = c.whole ++ c.rest ∷ []; rest = [] } in
    let s : with_byte c b ≡ next = rw e refl in
    let t : slice_split is_feed (b ∷ bs) ≡ [] ∷ slice_split is_feed bs =
    slice_split-cons_yes is_feed b bs e in
    let right : c.whole ++ onto_front c.rest (slice_split is_feed (b ∷ bs))
    ≡ (c.whole ++ c.rest ∷ []) ++ onto_front [] (slice_split is_feed bs) =
    ap (λ (x : List Bytes). c.whole ++ onto_front c.rest x) t
    ∙ ap (λ (r : Bytes). c.whole ++ r ∷ slice_split is_feed bs) (append-nil c.rest)
    ∙ sym (append_assoc c.whole (c.rest ∷ []) (slice_split is_feed bs))
    ∙ ap (λ (x : List Bytes). (c.whole ++ c.rest ∷ []) ++ x)
    (sym (front_none (slice_split is_feed bs))) in
    ap (λ (d : Cut). (fold with_byte d bs).whole ++ (fold with_byte d bs).rest ∷ []) s
    ∙ others next
    ∙ sym right
at_byte c b bs false others e =
    let next : Cut = record c { rest = c.rest ++ b ∷ [] } in
    let s : with_byte c b ≡ next = rw e refl in
    let t : slice_split is_feed (b ∷ bs) ≡ onto_first b (slice_split is_feed bs) =
    slice_split-cons_no is_feed b bs e in
    ap (λ (d : Cut). (fold with_byte d bs).whole ++ (fold with_byte d bs).rest ∷ []) s
    ∙ others next
    ∙ ap (λ (x : List Bytes). c.whole ++ x)
    (front_more c.rest b (slice_split is_feed bs) (omega (arith, length-slice_split is_feed bs))
    ∙ ap (onto_front c.rest) (sym t))

split_by_bytes : (c : Cut) (text : Bytes)
    → (fold with_byte c text).whole ++ (fold with_byte c text).rest ∷ []
    ≡ c.whole ++ onto_front c.rest (slice_split is_feed text)
split_by_bytes c [] = ap (λ (r : Bytes). c.whole ++ r ∷ []) (sym (append-nil c.rest))
split_by_bytes c (b ∷ bs) = at_byte c b bs (is_feed b) (λ d. split_by_bytes d bs) refl

pub cut_is_split : (text : Bytes)
    → slice_split is_feed text ≡ (cut text).whole ++ (cut text).rest ∷ []
unfolding cut
cut_is_split text = sym (split_by_bytes none_cut text ∙ front_none (slice_split is_feed text))
