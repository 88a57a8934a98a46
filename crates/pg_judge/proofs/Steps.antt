-- A piece more, part after part.
use Rattle.std.proofs.Common.{◌≡◌, ◌∙◌, ℕ, ◌-◌, ◌≤◌, List, [], ◌∷◌, ◌++◌, length, take, drop}
use Rattle.std.proofs.Common.{Option, Some, None, refl, sym, ap, ap₂, subst, arith, map}
use Rattle.std.specs.Prelude.{IfSome}
use Rattle.pg_judge.proofs.Common.{append_assoc, append-nil, nil_from_length, take_all, length-drop}
use Rattle.pg_judge.proofs.Common.{take-append-drop, length-append, Bytes, all_parts, claim_parts}
use Rattle.pg_judge.proofs.Common.{parts_of, BeginCert, Cert, Claim, Node, Part, listed, IsFed}
use Rattle.pg_judge.proofs.Common.{AreAllParts, parts_told, size_of, IsFedShort}
use Rattle.pg_judge.proofs.Common.{alike_more, alike_on, CertReader}
use Rattle.pg_cert.specs.declared.part.Part.TheVariants as parts
use Rattle.pg_check.specs.Checking.{StandsFor as IsChecked}
use Rattle.pg_cert_files.proofs.PartsBegin.{begin_seen}
use Rattle.pg_judge.specs.Heads.{head_of, heads_in, heads_of}
use Rattle.pg_judge.specs.Judged.{AreFed, HasCome, HaveBeenFed, HasTold, IsComplete, IsDue, IsReady}
use Rattle.pg_judge.specs.Judged.{StandsFor}
use Rattle.pg_judge.specs.declared.claim_head.ClaimHead.{ClaimHead}
use Rattle.pg_judge.specs.declared.judging.Judging.{Judging}
use Rattle.pg_judge.specs.declared.told.Told.{Told}
use Rattle.pg_check.specs.declared.checking.Checking.{Checking}

-- what has been fed of a piece, where this rest of it is still to come
pub record HasFed (r : CertReader) (c : Told) (reader : CertReader) (told : Told)
    (piece rest : Bytes) : Type 0 where
  pub front : Bytes
  pub cut : piece ≡ front ++ rest
  pub fed : (text : Bytes) → AreFed r c text → AreFed reader told (text ++ front)

-- some text has been fed
pub been-fed : (r : CertReader) (c : Told) (reader : CertReader) (told : Told) (piece rest : Bytes)
    → HaveBeenFed r c
    → HasFed r c reader told piece rest
    → HaveBeenFed reader told
been-fed r c reader told piece rest been h =
    record { text = been.text ++ h.front; fed = h.fed been.text been.fed }

-- all of the piece
pub fed-all : (r : CertReader) (c : Told) (reader : CertReader) (told : Told) (piece rest : Bytes)
    → HasFed r c reader told piece rest
    → length rest ≡ 0
    → (text : Bytes) → AreFed r c text
    → AreFed reader told (text ++ piece)
fed-all r c reader told piece rest h none text before =
    let same : h.front ≡ piece = sym
    (h.cut ∙ ap (λ (t : Bytes). h.front ++ t) (nil_from_length rest none) ∙ append-nil h.front) in
    subst (λ (t : Bytes). AreFed reader told (text ++ t)) same (h.fed text before)

-- a piece of the rest
pub fed-piece : (r : CertReader) (c : Told) (reader : CertReader) (told : Told) (next : CertReader)
    (more : Told) (text rest piece others : Bytes)
    → rest ≡ piece ++ others
    → HasFed r c reader told text rest
    → ((t : Bytes) → AreFed reader told t → AreFed next more (t ++ piece))
    → HasFed r c next more text others
fed-piece r c reader told next more text rest piece others e h step = record {
  front = h.front ++ piece;
  cut = h.cut ∙ ap (λ (t : Bytes). h.front ++ t) e ∙ sym (append_assoc h.front piece others);
  fed = λ t before. subst (AreFed next more) (append_assoc t h.front piece)
      (step (t ++ h.front) (h.fed t before));
}

-- the parts of a text begin a certificate
begins : (text : Bytes) → BeginCert (parts_told text)
begins text = begin_seen _

-- the part that is whole with some bytes more is due
pub part-due : (reader : CertReader) (told : Told) (bytes : Bytes) (o : Option Part) (part : Part)
    → o ≡ Some part
    → HaveBeenFed reader told
    → ((text : Bytes) → IsFed reader text
    → parts_told (text ++ bytes) ≡ parts_told text ++ listed o)
    → IsDue told part
part-due reader told bytes o part some been parts =
    let more : parts_told (been.text ++ bytes) ≡ parts_told been.text ++ part ∷ [] =
    parts been.text been.fed.read
    ∙ ap (λ (q : Option Part). parts_told been.text ++ listed q) some in
    record {
      fed = parts_told been.text;
      told = been.fed.told;
      begins = subst BeginCert more (begins (been.text ++ bytes));
    }

-- some bytes more, with the part that is whole with them
fed-bytes : (reader : CertReader) (told : Told) (next : CertReader) (more : Told) (bytes : Bytes)
    (o : Option Part)
    → ((text : Bytes) → IsFed reader text → IsFed next (text ++ bytes))
    → ((text : Bytes) → IsFed reader text
    → parts_told (text ++ bytes) ≡ parts_told text ++ listed o)
    → ((fed : List Part) → HasTold told fed → HasTold more (fed ++ listed o))
    → (text : Bytes) → AreFed reader told text
    → AreFed next more (text ++ bytes)
fed-bytes reader told next more bytes o read parts stands text h = record {
  read = read text h.read;
  told = subst (HasTold more) (sym (parts text h.read)) (stands (parts_told text) h.told);
}

pub fed-more : (r : CertReader) (c : Told) (reader : CertReader) (told : Told) (next : CertReader)
    (more : Told) (piece rest : Bytes) (used : ℕ) (o : Option Part)
    → used ≤ length rest
    → HasFed r c reader told piece rest
    → ((text : Bytes) → IsFed reader text → IsFed next (text ++ take used rest))
    → ((text : Bytes) → IsFed reader text
    → parts_told (text ++ take used rest) ≡ parts_told text ++ listed o)
    → ((fed : List Part) → HasTold told fed → HasTold more (fed ++ listed o))
    → HasFed r c next more piece (take (length rest - used) (drop used rest))
fed-more r c reader told next more piece rest used o few h read parts stands =
    let all : take (length rest - used) (drop used rest) ≡ drop used rest =
    take_all _ _ (omega (arith, length-drop used rest)) in
    let cut : rest ≡ take used rest ++ take (length rest - used) (drop used rest) =
    sym (take-append-drop used rest) ∙ ap (λ (t : Bytes). take used rest ++ t) (sym all) in
    fed-piece r c reader told next more piece rest (take used rest)
    (take (length rest - used) (drop used rest)) cut h
    (fed-bytes reader told next more (take used rest) o read parts stands)

-- the part that is whole with some bytes more is due, where there is one
pub part-given : (reader : CertReader) (told : Told) (bytes : Bytes) (o : Option Part)
    → HaveBeenFed reader told
    → ((text : Bytes) → IsFed reader text
    → parts_told (text ++ bytes) ≡ parts_told text ++ listed o)
    → IfSome o (IsDue told)
part-given reader told bytes None been parts = tt
part-given reader told bytes (Some part) been parts =
    part-due reader told bytes (Some part) part refl been parts

-- ---- the end

-- all parts of the certificate were told
pub complete : (told : Told) (text : Bytes) (all : List Part)
    → AreAllParts text all
    → HasTold told all
    → IsComplete told
complete told text all are has = record {
  cert = are.cert;
  limits = are.limits;
  told = subst (HasTold told) are.parts has;
}

-- ---- heads

pub heads-append : (xs ys : List Part) → heads_in (xs ++ ys) ≡ heads_in xs ++ heads_in ys
heads-append [] ys = refl
heads-append (parts.Claim turn side goal nodes ∷ xs) ys = ap (λ (t : List ClaimHead). record {
  turn = turn;
  side = side;
  goal = goal;
  nodes = nodes;
} ∷ t) (heads-append xs ys)
heads-append (parts.Node node ∷ xs) ys = heads-append xs ys

heads-nodes : (nodes : List Node) → heads_in (map parts.Node nodes) ≡ []
heads-nodes [] = refl
heads-nodes (node ∷ nodes) = heads-nodes nodes

heads-claims : (claims : List Claim) → heads_in (all_parts claims) ≡ map head_of claims
heads-claims [] = refl
heads-claims (claim ∷ claims) = heads-append (claim_parts claim) (all_parts claims)
    ∙ ap₂ (λ (a b : List ClaimHead). (head_of claim ∷ a) ++ b) (heads-nodes claim.nodes)
    (heads-claims claims)

-- the claims among all parts of a certificate are the certificate's
pub heads-all : (cert : Cert) → heads_in (parts_of cert) ≡ heads_of cert
heads-all cert = heads-claims cert.claims

-- a part more was told
pub told-more : (t more : Told) (before : Checking) (part : Part)
    → before ≡ t.checking
    → ((fed : List Part) → IsChecked before fed → IsChecked more.checking (fed ++ part ∷ []))
    → more.heads.items ≡ t.heads.items ++ heads_in (part ∷ [])
    → (fed : List Part) → HasTold t fed
    → HasTold more (fed ++ part ∷ [])
told-more t more before part same checked heads fed h = record {
  checked = checked fed (subst (λ (c : Checking). IsChecked c fed) (sym same) h.checked);
  heads = heads
      ∙ ap (λ (l : List ClaimHead). l ++ heads_in (part ∷ [])) h.heads
      ∙ sym (heads-append fed (part ∷ []));
}

-- bytes more came
pub come-more : (before after : Judging) (piece : Bytes)
    → after.told.checking.game ≡ before.told.checking.game
    → ((text : Bytes) → StandsFor before text → StandsFor after (text ++ piece))
    → (first : Judging) (bytes : Bytes) → HasCome first before bytes
    → HasCome first after (bytes ++ piece)
come-more before after piece game stands first bytes come = record {
  game = game ∙ come.game;
  stands = λ (text : Bytes) h. subst (StandsFor after) (append_assoc text bytes piece)
      (stands (text ++ bytes) (come.stands text h));
}

-- it still stands for some text
pub ready-more : (before after : Judging) (piece : Bytes)
    → IsReady before
    → ((text : Bytes) → StandsFor before text → StandsFor after (text ++ piece))
    → IsReady after
ready-more before after piece been stands =
    record { text = been.text ++ piece; stands = stands been.text been.stands }

-- ---- a text that is cut short while it comes

-- bytes more, fed and then cut short
pub stands-more : (before : Judging) (reader next : CertReader) (told : Told) (size : ℕ)
    (piece : Bytes)
    → ((text bytes : Bytes) → before.size ≡ size_of text
    → length piece ≡ length bytes
    → size ≡ size_of (text ++ bytes))
    → ((text : Bytes) → AreFed before.reader before.told text → AreFed reader told (text ++ piece))
    → ((text : Bytes) → IsFed reader text → IsFedShort next text)
    → (text : Bytes) → StandsFor before text
    → StandsFor (record { reader = next; told = told; size = size }) (text ++ piece)
stands-more before reader next told size piece sizes feed cut text h =
    let fed = feed h.short h.fed in
    let less = cut (h.short ++ piece) fed.read in
    record {
      short = less.short;
      fed = record { read = less.fed; told = subst (HasTold told) (sym less.parts) fed.told };
      size = sizes text piece h.size refl;
      fewer =
          omega (arith, less.fewer, h.fewer, length-append h.short piece, length-append text piece);
      alike = alike_on (text ++ piece) (h.short ++ piece) less.short
          (alike_more text h.short piece h.alike) less.alike;
    }

pub fed-short : (j : Judging) → IsReady j → HaveBeenFed j.reader j.told
fed-short j ready = record { text = ready.stands.short; fed = ready.stands.fed }
