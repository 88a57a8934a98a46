-- Claims that are laid out, and the nodes of their unfoldings.
use Rattle.std.proofs.Common.{◌≡◌, ℕ, ◌+◌, ◌<◌, ◌≤◌, List, [], ◌∷◌, ◌++◌, length, Some, None}
use Rattle.std.proofs.Common.{Option, sym, ap, ◌∙◌, subst, arith}
use Rattle.pg_unfold.proofs.Common.{AllZip, Contains, All-nil, All-push, All-weaker, sum_by_push}
use Rattle.pg_unfold.proofs.Common.{IsNode, Claim, Node, Game, ImageClaim, Plain, board_of}
use Rattle.std.specs.List.{sum_by}
use Rattle.pg_unfold.specs.Flaws.{AreSound, HasSize, IsSoundClaim}
use Rattle.pg_unfold.specs.Gathered.{AreCounted, IsTaken}
use Rattle.pg_unfold.specs.Layouts.{AreCopiedBelow, AreLaid, IsLaidNext, IsLaidOut, IsNextCopy}
use Rattle.pg_unfold.specs.Layouts.{copies_in, copy_count, origins_in, size_in, with_next}
use Rattle.pg_unfold.specs.Marks.{AreAllEarlier, AreEarlier, copies_below, copy_at}
use Rattle.pg_unfold.specs.Unfolded.{IsCopied}
use Rattle.pg_unfold.specs.declared.laying.Laid.{Laid}
use Rattle.pg_unfold.specs.declared.layout.Layout.{Layout}
use Rattle.pg_unfold.proofs.ClaimSteps.{AreEarlier-sound, HasSize-of, copy-limits, some-copies}
use Rattle.pg_unfold.proofs.ClaimSteps.{taken-from, zip-length}
use Rattle.pg_unfold.proofs.CopySteps.{push-zip, zip-left, zip-more}
use Rattle.pg_unfold.proofs.Placing.{AreCopies-of, below-more}
use Rattle.pg_unfold.proofs.Rooms.{counted-more, counted-none}

-- ---- the nodes of a claim

module _ (g : Game) (c : ImageClaim) (l : Layout) where
  pub copied-none : AreCopiedBelow g c l 0 []
  copied-none = record { each = tt; limits = All-nil IsNode }

  module _ (sound : IsSoundClaim g c) (laid : IsLaidOut c l) where
    pub few-copies : length (copies_in c l) ≤ 100000
    few-copies = let size = laid.size in let few = laid.few in omega (arith, size, few)

    pub copied-next : (key : ℕ) (next : Option Node)
        → IsNextCopy (board_of g.field) c.nodes l.marks.items key next
        → (done : List Node) → AreCopiedBelow g c l key done
        → AreCopiedBelow g c l (key + 1) (with_next done next)
    copied-next key None off done h = record {
      each = zip-left c.nodes l.marks.items key
          (IsCopied (board_of g.field) c.nodes (copies_in c l)) done off h.each;
      limits = h.limits;
    }
    copied-next key (Some image) (source, on, at, is) done h =
        let are = AreCopies-of c.nodes l.marks.items laid.met in
        let has : Contains (copies_in c l) (copy_at key) =
        are.all (copy_at key) (laid.met.sound key on)
        (record { node = Plain source; at = at; holds = tt }) in
        record {
          each = zip-more c.nodes l.marks.items key
              (IsCopied (board_of g.field) c.nodes (copies_in c l)) done image source on at h.each
              is;
          limits = All-push IsNode done image h.limits
              (copy-limits g c sound laid.limits (copies_in c l) are few-copies (copy_at key) image
              has is);
        }

    -- it has a node
    pub some-laid : 0 < size_in l
    some-laid =
        let some =
        some-copies c laid.limits l.marks.items laid.met l.settled.places.items laid.places in
        let size = laid.size in
        omega (arith, some, size)

    -- so far there are no more nodes than in the end
    pub few-below : (key : ℕ)
        → key ≤ copy_count l
        → (nodes : List Node) → AreCopiedBelow g c l key nodes
        → length nodes ≤ size_in l
    few-below key le nodes h =
        let same = zip-length (IsCopied (board_of g.field) c.nodes (copies_in c l))
        (copies_below c.nodes l.marks.items key) nodes h.each in
        let size = laid.size in
        let most = below-more c.nodes l.marks.items key (copy_count l) le in
        omega (arith, same, size, most)

    pub all-copied : (nodes : List Node)
        → AreCopiedBelow g c l (copy_count l) nodes
        → length nodes ≡ size_in l
    all-copied nodes h =
        let same = zip-length (IsCopied (board_of g.field) c.nodes (copies_in c l)) (copies_in c l)
        nodes h.each in
        let size = laid.size in
        omega (arith, same, size)

    -- all nodes of the unfolded claim
    pub taken-laid : (nodes : List Node)
        → AreCopiedBelow g c l (copy_count l) nodes
        → (room : ℕ) → size_in l ≤ room
        → (origins : List ℕ) → origins ≡ origins_in c l
        → (claim : Claim) → claim.turn ≡ c.turn
        → claim.side ≡ c.side
        → claim.goal ≡ c.goal
        → claim.nodes ≡ nodes
        → IsTaken g c claim origins room
    taken-laid nodes h room within origins came claim turn side goal same =
        let size = laid.size in
        taken-from g c sound laid.limits l.marks.items l.settled.places.items origins nodes
        (record { met = laid.met; placed = laid.places; each = h.each; came = came }) room
        few-copies (omega (arith, size, within)) claim turn side goal same

-- ---- several claims

pub earlier-all : (g : Game) (cs : List ImageClaim) → AreSound g cs → AreAllEarlier cs
earlier-all g = All-weaker (IsSoundClaim g) (λ (c : ImageClaim). AreEarlier c.nodes)
    (λ c sound. AreEarlier-sound g c sound)

pub laid-none : (laid : Laid)
    → laid.layouts.items ≡ []
    → laid.room ≡ 200000
    → AreLaid [] laid
laid-none laid layouts room =
    let none : sum_by size_in laid.layouts.items ≡ 0 = ap (sum_by size_in) layouts in
    record {
      each = subst (AllZip IsLaidOut []) (sym layouts) tt;
      counted = subst (AreCounted []) (sym room) counted-none;
      sizes = omega (arith, none, room);
    }

pub laid-more : (cs : List ImageClaim) (c : ImageClaim) (old new : Laid)
    → AreLaid cs old
    → IsLaidNext c old new
    → AreLaid (cs ++ c ∷ []) new
laid-more cs c old new h now =
    let l = now.layout in
    let sum = ap (sum_by size_in) now.layouts ∙ sum_by_push size_in old.layouts.items l in
    let before = h.sizes in
    let room = now.room in
    record {
      each = subst (AllZip IsLaidOut (cs ++ c ∷ [])) (sym now.layouts)
          (push-zip IsLaidOut cs old.layouts.items c l h.each now.laid);
      counted = counted-more cs c (size_in l) old.room new.room h.counted
          (subst (λ n. HasSize c n) (sym now.laid.size) (HasSize-of c l.marks.items now.laid.met))
          now.laid.few room;
      sizes = omega (arith, sum, before, room);
    }
