-- The nodes of an unfolding, fed to a checking one after the other.
use Rattle.std.proofs.Common.{◌≡◌, ◌∙◌, ℕ, zero, suc, ◌+◌, ◌-◌, ◌<◌, ◌≤◌, List, [], ◌∷◌, ◌++◌}
use Rattle.std.proofs.Common.{length, map, replicate, take, Option, Some, None, slice_get, get_or}
use Rattle.std.proofs.Common.{refl, sym, ap, subst, arith}
use Rattle.std.specs.Prelude.{IfSome}
use Rattle.std.specs.List.{All, AllZip}
use Rattle.std.proofs.lemmas.List.{append-nil, append_assoc, flat_map_more, length-append}
use Rattle.std.proofs.lemmas.List.{length-replicate, length-take-le, map-append, map_push, take_all}
use Rattle.std.proofs.lemmas.List.{take_more}
use Rattle.std.proofs.lemmas.Option.{slice_get_read}
use Rattle.std.proofs.lemmas.List.Elements.{All-append, All-nil, All-push, All-replicate}
use Rattle.std.proofs.lemmas.List.Sums.{sum_by_more_le, sum_by_push}
use Rattle.pg_evidence.proofs.Common.{AreUnfolded, BeginCert, Claim, Game, ImageCert, ImageClaim}
use Rattle.pg_evidence.proofs.Common.{IsClaim, IsFirstFault, IsImageWithinLimits, IsNode}
use Rattle.pg_evidence.proofs.Common.{IsUnfolded, IsValid, IsWithinLimits, Node, Part, Unfolded}
use Rattle.pg_evidence.proofs.Common.{all_parts}
use Rattle.pg_base.specs.declared.goal.Goal.{Goal}
use Rattle.pg_base.specs.declared.side.Side.{Side}
use Rattle.pg_base.specs.declared.side.Side.TheVariants.{X}
use Rattle.pg_cert.specs.Parts.{claim_parts}
use Rattle.pg_cert.specs.declared.cert.Version.TheVariants.{Two}
use Rattle.pg_cert.specs.declared.node.Body.TheVariants.{Over}
use Rattle.pg_cert.specs.declared.part.Part.TheVariants as parts
use Rattle.std.specs.FinSet.{contains-empty, empty}
use Rattle.std.specs.Ordering.{nat_cmp}
use Rattle.pg_check.specs.Checking.{AreNext, IsWhole, StandsFor as IsChecked}
use Rattle.pg_check.specs.declared.checking.Checking.{Checking}
use Rattle.pg_unfold.specs.Flaws.{IsFaultless, IsSoundClaim}
use Rattle.pg_unfold.specs.Layouts.{AreCopiedBelow, AreLaidOut, IsLaidOut, copy_count, origins_in}
use Rattle.pg_unfold.specs.Layouts.{size_in, with_next}
use Rattle.pg_unfold.specs.declared.layout.Layout.{Layout}
use Rattle.pg_unfold.proofs.Layouts.{all-copied, copied-none, few-below, taken-laid}
use Rattle.pg_unfold.proofs.ClaimSteps.{zip-length}
use Rattle.pg_unfold.proofs.ClaimsGathered.{unfolded-length, unfolded-push}
use Rattle.pg_unfold.proofs.Sizes.{all_at}
use Rattle.pg_evidence.specs.Standing.{CameFrom, HasFault, HasOrigin, ShowsValid, Unfolds}
use Rattle.pg_evidence.specs.declared.evidence.Evidence.TheVariants.{Folded}
use Rattle.pg_evidence.proofs.Tracing.{has_source, traced, unfolding_of}
use Rattle.pg_evidence.specs.Feeding.{AreFed, HasFed, HasRoomFor, IsFedClaim, IsOpenFor, listed}

-- ---- a certificate that goes on as the parts began

-- a node to fill with
abbrev filler : Node
filler = record { x = empty; y = empty; turn = X; left = 1; body = Over }

filler_fits : IsNode filler
filler_fits = record {
  x = λ v e. let none = contains-empty nat_cmp v in absurd (cc (sym none ∙ e));
  y = λ v e. let none = contains-empty nat_cmp v in absurd (cc (sym none ∙ e));
  apart = λ v e. contains-empty nat_cmp v;
  turn = refl;
  body = tt;
}

pub parts-push : (whole : List Claim) (claim : Claim)
    → all_parts whole ++ claim_parts claim ≡ all_parts (whole ++ claim ∷ [])
parts-push whole claim = flat_map_more claim_parts [] whole claim

module _ (turn side : Side) (g : Goal) (count : ℕ) (some : 0 < count) (most : count ≤ 100000)
    (c : Checking) (room : HasRoomFor c count) where
  -- the claims before, and what the next says
  abbrev pub begun : List Part
  begun = all_parts room.whole ++ parts.Claim turn side g count ∷ []

  pub begins-claim : (nodes : List Node)
      → All IsNode nodes
      → length nodes ≤ count
      → BeginCert (begun ++ map parts.Node nodes)
  begins-claim nodes each le =
      let more : List Node = replicate (count - length nodes) filler in
      let all : List Node = nodes ++ more in
      let claim : Claim = record { turn = turn; side = side; goal = g; nodes = all } in
      let a = length-append nodes more in
      let b = length-replicate (count - length nodes) filler in
      let size : length all ≡ count = omega (arith, a, b, le) in
      let fit : IsClaim claim = record {
        some = omega (arith, size, some);
        few = omega (arith, size, most);
        nodes = All-append IsNode nodes more each
            (All-replicate IsNode (count - length nodes) filler filler_fits);
      } in
      let len = length-append room.whole (claim ∷ []) in
      let sum = sum_by_push (λ (d : Claim). length d.nodes) room.whole claim in
      let few = room.few in
      let within = room.nodes in
      record {
        cert = record { version = Two; claims = room.whole ++ claim ∷ [] };
        limits = record {
          some = omega (arith, len);
          few = omega (arith, len, few);
          claims = All-push IsClaim room.whole claim room.limits fit;
          nodes = omega (arith, sum, size, within);
          bodies = λ k d lt. λ j e inside. refl;
        };
        rest = map parts.Node more;
        parts = append_assoc begun (map parts.Node nodes) (map parts.Node more)
            ∙ ap (λ (x : List Part). begun ++ x) (sym (map-append parts.Node nodes more))
            ∙ append_assoc (all_parts room.whole) (parts.Claim turn side g count ∷ [])
            (map parts.Node all)
            ∙ ap (λ (n : ℕ).
            all_parts room.whole ++ (parts.Claim turn side g n ∷ map parts.Node all)) (sym size)
            ∙ parts-push room.whole claim;
      }

  -- what the claim says is the next part
  pub head-next : AreNext c (parts.Claim turn side g count ∷ [])
  head-next = record {
    fed = all_parts room.whole;
    stands = room.stands;
    begins = subst BeginCert (append-nil begun)
        (begins-claim [] (All-nil IsNode) (omega (arith, some)));
  }

  -- and then its nodes are
  pub head-open : (now : Checking)
      → ((fed : List Part) → IsChecked c fed
      → IsChecked now (fed ++ parts.Claim turn side g count ∷ []))
      → IsOpenFor now count
  head-open now stands = record {
    fed = begun;
    stands = stands (all_parts room.whole) room.stands;
    begins = begins-claim;
  }

-- ---- the nodes of a claim

-- no node was fed
pub fed-none : (g : Game) (c : ImageClaim) (l : Layout) (first : Checking)
    → HasFed g c l first 0 first
fed-none g c l first = record {
  nodes = [];
  copied = copied-none g c l;
  stands = λ fed s. subst (IsChecked first) (sym (append-nil fed)) s;
}

pub fed-node : (before after : Checking) (next : Option Node) (node part : Node)
    → next ≡ Some node
    → part ≡ node
    → ((fed : List Part) → IsChecked before fed → IsChecked after (fed ++ parts.Node part ∷ []))
    → (fed : List Part) → IsChecked before fed
    → IsChecked after (fed ++ map parts.Node (listed next))
fed-node before after next node part is same stands fed s =
    subst (λ (o : Option Node). IsChecked after (fed ++ map parts.Node (listed o))) (sym is)
    (subst (λ (n : Node). IsChecked after (fed ++ parts.Node n ∷ [])) same (stands fed s))

next-is : (done : List Node) (next : Option Node) → with_next done next ≡ done ++ listed next
next-is done None = sym (append-nil done)
next-is done (Some node) = refl

module _ (g : Game) (c : ImageClaim) (l : Layout) (sound : IsSoundClaim g c) (laid : IsLaidOut c l)
    (first now : Checking) (key : ℕ) (within : key < copy_count l) (next : Option Node)
    (step : (done : List Node) → AreCopiedBelow g c l key done
    → AreCopiedBelow g c l (key + 1) (with_next done next)) (h : HasFed g c l first key now) where
  -- the next node of the unfolding is one more part of a certificate
  pub copy-next : IsOpenFor first (size_in l)
      → IfSome next (λ node. AreNext now (parts.Node node ∷ []))
  copy-next begun = go next (step h.nodes h.copied) where
    go : (o : Option Node)
        → AreCopiedBelow g c l (key + 1) (with_next h.nodes o)
        → IfSome o (λ node. AreNext now (parts.Node node ∷ []))
    go None copied = tt
    go (Some node) copied =
        let all : List Node = h.nodes ++ node ∷ [] in
        let some = within in
        let few = few-below g c l sound laid (key + 1) (omega (arith, some)) all copied in
        record {
          fed = begun.fed ++ map parts.Node h.nodes;
          stands = h.stands begun.fed begun.stands;
          begins = subst BeginCert (ap (λ (x : List Part). begun.fed ++ x)
              (map_push parts.Node h.nodes node)
              ∙ sym (append_assoc begun.fed (map parts.Node h.nodes) (parts.Node node ∷ [])))
              (begun.begins all copied.limits few);
        }

  pub fed-more : (after : Checking)
      → ((fed : List Part) → IsChecked now fed
      → IsChecked after (fed ++ map parts.Node (listed next)))
      → HasFed g c l first (key + 1) after
  fed-more after more = record {
    nodes = with_next h.nodes next;
    copied = step h.nodes h.copied;
    stands = λ fed s.
        subst (λ (ns : List Node). IsChecked after (fed ++ map parts.Node ns))
        (sym (next-is h.nodes next))
        (subst (IsChecked after) (append_assoc fed (map parts.Node h.nodes)
        (map parts.Node (listed next))
        ∙ ap (λ (x : List Part). fed ++ x) (sym (map-append parts.Node h.nodes (listed next))))
        (more (fed ++ map parts.Node h.nodes) (h.stands fed s)));
  }

-- all numbers of copies are lower
pub fed-whole : (g : Game) (c : ImageClaim) (l : Layout) (first now : Checking) (key : ℕ)
    → HasFed g c l first key now
    → key ≡ copy_count l
    → HasFed g c l first (copy_count l) now
fed-whole g c l first now key h same =
    subst (λ (k : ℕ). HasFed g c l first k now) same h

-- ---- a claim

-- what it says and then its nodes were fed
pub fed-claim : (g : Game) (c : ImageClaim) (l : Layout)
    → IsSoundClaim g c
    → IsLaidOut c l
    → (first head now : Checking)
    → ((fed : List Part) → IsChecked first fed
    → IsChecked head (fed ++ parts.Claim c.turn c.side c.goal (size_in l) ∷ []))
    → HasFed g c l head (copy_count l) now
    → (whole : List Claim) → IsChecked first (all_parts whole)
    → IsFedClaim g c l whole now
fed-claim g c l sound laid first head now begins h whole stands =
    let claim : Claim =
    record { turn = c.turn; side = c.side; goal = c.goal; nodes = h.nodes } in
    let taken = taken-laid g c l sound laid h.nodes h.copied (size_in l) (omega arith)
    (origins_in c l) refl claim refl refl refl refl in
    let size : length h.nodes ≡ size_in l = all-copied g c l sound laid h.nodes h.copied in
    record {
      claim = claim;
      unfolded = taken.unfolded;
      limits = taken.limits;
      size = size;
      stands = subst (IsChecked now) (append_assoc (all_parts whole)
          (parts.Claim c.turn c.side c.goal (size_in l) ∷ []) (map parts.Node h.nodes)
          ∙ ap (λ (n : ℕ). all_parts whole
          ++ (parts.Claim c.turn c.side c.goal n ∷ map parts.Node h.nodes)) (sym size)
          ∙ parts-push whole claim)
          (h.stands (all_parts whole ++ parts.Claim c.turn c.side c.goal (size_in l) ∷ [])
          (begins (all_parts whole) stands));
    }

-- ---- claims

zip-at : {A B : Type 0} (R : A → B → Type 0) (xs : List A) (ys : List B) (i : ℕ) (x : A) (y : B)
    → AllZip R xs ys
    → slice_get xs i ≡ Some x
    → slice_get ys i ≡ Some y
    → R x y
zip-at R [] ys i x y h at there = absurd cc
zip-at R (a ∷ xs) [] i x y h at there = absurd h
zip-at R (a ∷ xs) (b ∷ ys) zero x y h at there =
    let one : a ≡ x = cc at in
    let two : b ≡ y = cc there in
    subst (λ (k : _). R k y) one (subst (R a) two h.0)
zip-at R (a ∷ xs) (b ∷ ys) (suc i) x y h at there = zip-at R xs ys i x y h.1 at there

pub fed-nothing : (g : Game) (sources : List (List ℕ)) (now : Checking)
    → sources ≡ []
    → IsChecked now []
    → AreFed g [] [] sources now
fed-nothing g sources now none stands = record {
  claims = [];
  unfolded = subst (AreUnfolded g [] []) (sym none) tt;
  limits = All-nil IsClaim;
  nodes = refl;
  stands = stands;
}

module _ (g : Game) (c : ImageCert) (limits : IsImageWithinLimits c) (ls : List Layout)
    (laid : AreLaidOut c ls) where
  as-many : length c.claims ≡ length ls
  as-many = zip-length IsLaidOut c.claims ls laid.each

  pub within-layouts : (i : ℕ) → i < length c.claims → i < length ls
  within-layouts i lt = let same = as-many in omega (arith, same, lt)

  module _ (i : ℕ) (lt : i < length c.claims) (claim : ImageClaim) (l : Layout)
      (at : claim ≡ get_or c.claims i claim) (there : l ≡ get_or ls i l) where
    here : slice_get c.claims i ≡ Some claim
    here = slice_get_read c.claims (length c.claims) i claim refl lt at

    pub laid-at : IsLaidOut claim l
    laid-at = zip-at IsLaidOut c.claims ls i claim l laid.each here
        (slice_get_read ls (length ls) i l refl (within-layouts i lt) there)

    pub sound-at : IsFaultless g c → IsSoundClaim g claim
    sound-at faultless = all_at (IsSoundClaim g) c.claims i claim faultless.sound here

    module _ (sources : List (List ℕ)) (now : Checking)
        (h : AreFed g (take i c.claims) (take i ls) sources now) where
      pub room-at : HasRoomFor now (size_in l)
      room-at =
          let many = unfolded-length g (take i c.claims) h.claims sources h.unfolded in
          let first = length-take-le i c.claims (omega (arith, lt)) in
          let eight = limits.few in
          let sum = h.nodes in
          let next = sum_by_more_le size_in ls i l (within-layouts i lt) in
          let same = ap size_in there in
          let most = laid.few in
          record {
            whole = h.claims;
            stands = h.stands;
            limits = h.limits;
            few = omega (arith, many, first, eight, lt);
            nodes = omega (arith, sum, next, same, most);
          }

      pub fed-at : (after : Checking) (origins : List ℕ) (more : List (List ℕ))
          → ((whole : List Claim) → IsChecked now (all_parts whole)
          → IsFedClaim g claim l whole after)
          → origins ≡ origins_in claim l
          → more ≡ sources ++ origins ∷ []
          → AreFed g (take (i + 1) c.claims) (take (i + 1) ls) more after
      fed-at after origins more feeds came pushed =
          let f = feeds h.claims h.stands in
          let cs : take i c.claims ++ claim ∷ [] ≡ take (i + 1) c.claims =
          ap (λ (x : ImageClaim). take i c.claims ++ x ∷ []) at
          ∙ sym (take_more c.claims i claim lt) in
          let layouts : take i ls ++ l ∷ [] ≡ take (i + 1) ls =
          ap (λ (x : Layout). take i ls ++ x ∷ []) there
          ∙ sym (take_more ls i l (within-layouts i lt)) in
          let old = sum_by_push (λ (d : Claim). length d.nodes) h.claims f.claim in
          let new = sum_by_push size_in (take i ls) l in
          let sum = h.nodes in
          let size = f.size in
          subst (λ (xs : List Layout). AreFed g (take (i + 1) c.claims) xs more after) layouts
          (subst (λ (xs : List ImageClaim). AreFed g xs (take i ls ++ l ∷ []) more after) cs
          (record {
            claims = h.claims ++ f.claim ∷ [];
            unfolded =
                subst (AreUnfolded g (take i c.claims ++ claim ∷ []) (h.claims ++ f.claim ∷ []))
                (sym pushed)
                (unfolded-push g (take i c.claims) h.claims sources claim f.claim origins h.unfolded
                (subst (IsUnfolded g claim f.claim) (sym came) f.unfolded));
            limits = All-push IsClaim h.claims f.claim h.limits f.limits;
            nodes = omega (arith, old, new, sum, size);
            stands = f.stands;
          }))

  pub fed-end : (i : ℕ) (sources : List (List ℕ)) (now : Checking)
      → length c.claims ≤ i
      → AreFed g (take i c.claims) (take i ls) sources now
      → AreFed g c.claims ls sources now
  fed-end i sources now le h =
      let same = as-many in
      subst (λ (xs : List Layout). AreFed g c.claims xs sources now)
      (take_all i ls (omega (arith, same, le)))
      (subst (λ (xs : List ImageClaim). AreFed g xs (take i ls) sources now)
      (take_all i c.claims le) h)

  -- ---- what is found

  module _ (faultless : IsFaultless g c) (sources : List (List ℕ)) (now : Checking)
      (h : AreFed g c.claims ls sources now) where
    abbrev pub fed-unfolding : Unfolded
    fed-unfolding = record { cert = record { version = Two; claims = h.claims }; sources = sources }

    pub fed-within : IsWithinLimits fed-unfolding.cert
    fed-within =
        let many = unfolded-length g c.claims h.claims sources h.unfolded in
        let some = limits.some in
        let few = limits.few in
        let sum = h.nodes in
        let most = laid.few in
        record {
          some = omega (arith, many, some);
          few = omega (arith, many, few);
          claims = h.limits;
          nodes = omega (arith, sum, most);
          bodies = λ k d lt. λ j e inside. refl;
        }

    pub fed-unfolds : Unfolds g c fed-unfolding
    fed-unfolds = record {
      faultless = faultless;
      unfolded = record { version = refl; claims = h.unfolded };
      limits = fed-within;
    }

    pub fed-all : IsWhole now
    fed-all = record { cert = fed-unfolding.cert; limits = fed-within; stands = h.stands }

    pub fed-valid : IsValid g fed-unfolding.cert → ShowsValid g (Folded c)
    fed-valid valid = (fed-unfolding.cert, (fed-unfolding, fed-unfolds, refl), valid)

    pub fed-origin : (claim place why : ℕ)
        → IsFirstFault g fed-unfolding.cert claim place why
        → HasOrigin sources claim place
    fed-origin claim place why fault = has_source g (unfolding_of fed-unfolding) claim place why
        (traced g c fed-unfolding fed-unfolds.unfolded fed-within) fault

    pub fed-fault : (claim place node why : ℕ)
        → IsFirstFault g fed-unfolding.cert claim place why
        → CameFrom sources claim place node
        → HasFault g (Folded c) claim node why
    fed-fault claim place node why fault came = (fed-unfolding, fed-unfolds, place, fault, came)
