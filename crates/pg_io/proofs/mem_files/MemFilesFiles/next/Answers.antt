use Rattle.std.proofs.Common.{arith, sym, ◌≡◌, ◌≤◌, length, ◌∙◌, take, drop, subst, ◌++◌}
use Rattle.pg_io.proofs.MemoryLemmas.{taken_front, unread_after, none_left}
use Rattle.pg_io.specs.Memory.{unread}
use Rattle.pg_io.specs.Files.{Bytes}
use Rattle.pg_io.proofs.mem_files.MemFilesFiles.next.Goals as goal

pub returns-clause-bytes : goal.returns-clause-bytes
returns-clause-bytes c =
    let files = c.args.self.now.files.items in
    let left : Bytes = unread files c.args.self.now.opened c.args.self.now.from in
    let k = c.min-count.result in
    let is : c.left-left.result.now ≡ left = c.left-left.ensures.left in
    let fits : k ≤ length c.left-left.result.now = omega (arith, c.min-count.ensures) in (
      rw (unread_after files c.args.self.now.opened c.args.self.now.from k) (subst (λ (l : Bytes).
          l ≡ take k (c.copy_from_slice.new.self ++ drop k c.args.buf.now) ++ drop k l) is
          (taken_front c.left-left.result.now c.copy_from_slice.new.self _ k fits
          c.copy_from_slice.ensures.after)),
      λ none. sym is
          ∙ none_left c.left-left.result.now
          (length c.args.buf.now) k c.requires c.min-count.ensures none,
    )
