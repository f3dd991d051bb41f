-- Passes over small trees: what they visit, answer and leave, and what they are refused with.
use Rattle.std.specs.Prelude.{◌≡◌, [], ◌∷◌, set}
use Rattle.registers.specs.Fields.{zero_registers}
use Rattle.registers.specs.Replies.{done}
use Rattle.store.specs.Scan.{put_at}
use Rattle.collector.specs.Visits.{pass_leaves, aged_puts}
use Rattle.collector.specs.Collect.{collect_refusal, collect_answer, buffer_after_collect, words_after_collect}
use Rattle.pass_examples.specs.Scene.{three-pages, frame-twice, two-roots, own-table, frames, two-held, empty, lent}

-- one leaf ages, one goes, and one has a frame past the pool
pub record OnePass : Type 0 where
  -- index and word of each leaf visited, lowest page first
  pub visited : pass_leaves three-pages 100 3 5 ≡ put_at 1024 0xDFF80064 ∷ put_at 1025 0x90000065 ∷ []
  -- the first loses its valid bit, the second its present bit
  pub stored : aged_puts (pass_leaves three-pages 100 3 5) ≡ put_at 1024 0x9FF80064 ∷ put_at 1025 0x10000065 ∷ []
  -- one slot emptied, one frame given back: 101
  pub answered : collect_answer (lent three-pages) two-held 5 ≡ record { reply = done zero_registers 1; given = 1; pool = frames 0xFFF9 }
  pub swept : buffer_after_collect (lent three-pages) two-held 5 ≡ empty
  pub left : words_after_collect (lent three-pages) two-held 5 ≡ set (set three-pages 1024 0x9FF80064) 1025 0x10000065

-- each reason for number 12 by itself, and what is no reason
pub record Refused : Type 0 where
  -- an identification above 62
  pub id-63 : collect_refusal (lent three-pages) two-held 63 ≡ 5
  -- frame 101 is mapped while it is not held; frame 100 is mapped twice
  pub unheld : collect_refusal (lent three-pages) (frames 1) 5 ≡ 12
  pub twice : collect_refusal (lent frame-twice) two-held 5 ≡ 12
  -- the directory lies in the table that it names; another root reaches it
  pub own-table-named : collect_refusal (lent own-table) two-held 5 ≡ 12
  pub other-root : collect_refusal (lent two-roots) two-held 5 ≡ 12
  -- an absent root is no refusal
  pub absent-root : collect_refusal (lent three-pages) two-held 4 ≡ 0
