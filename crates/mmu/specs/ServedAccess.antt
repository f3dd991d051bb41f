-- The call served access: try; on a miss walk; where a leaf is found, load it and try again. Refusals 1, 2, 3, 4 and 5.
use Rattle.std.specs.Prelude.{ℕ, ◌≡◌, Bool, cond, not, ◌&&◌, eqb, Option, Some, None}
use Rattle.entry.specs.Address.{vpn_of}
use Rattle.entry.specs.Entry.{pack}
use Rattle.registers.specs.Fields.{put, registers_fit, SELECT}
use Rattle.registers.specs.Refusals.{refuse_unless, machine_refusal, by_refusal, draw_fits}
use Rattle.registers.specs.Replies.{refusal_of, refused, answered}
use Rattle.registers.specs.declared.Access.{Access}
use Rattle.registers.specs.declared.Outcome.{Outcome}
use Rattle.registers.specs.declared.Outcome.TheVariants.{At, Fault}
use Rattle.registers.specs.declared.Registers.{Registers}
use Rattle.registers.specs.declared.Reply.{Reply}
use Rattle.page_table.specs.Stretches.{tables_fit}
use Rattle.page_table.specs.Walk.{walk_page}
use Rattle.page_table.specs.Faults.{walk_fault}
use Rattle.page_table.specs.declared.Found.{Found}
use Rattle.page_table.specs.declared.Walk.{Walk}
use Rattle.page_table.specs.declared.Walk.TheVariants.{Leaf, Absent, Broken}
use Rattle.slots.specs.Buffer.{Buffer, buffer_fits}
use Rattle.tlb.specs.Load.{load_slot, loaded_buffer}
use Rattle.access.specs.Exceptions.{MISS}
use Rattle.access.specs.Translation.{is_set, translate}
use Rattle.access.specs.declared.Translation.{Translation}
use Rattle.store.specs.Leaf.{leaf_entry}
use Rattle.store.specs.Machine.{Machine}

-- number 5: served access in test mode or with context 63
unfoldable pub may_be_served : Registers → Bool
may_be_served r = not (is_set r.test) && not (eqb r.context 63)

-- the last two of a served access's checks
abbrev pub service_refusal : Registers → (draw : ℕ) → ℕ
service_refusal r draw = refuse_unless (draw_fits draw) 4 (refuse_unless (may_be_served r) 5 0)

unfoldable pub served_refusal : Machine → Access → ℕ
served_refusal m a =
    machine_refusal (registers_fit m.registers) (buffer_fits m.buffer) (tables_fit m.words)
    (service_refusal m.registers a.draw)

-- the address, or where there is none the exception's value as the fault
unfoldable pub outcome_of : Option ℕ → (value : ℕ) → Outcome
outcome_of (Some address) value = At address
outcome_of None value = Fault value

-- a raw access's answer, after so many loads
unfoldable pub tried_reply : Translation → (loads : ℕ) → Reply
tried_reply t loads = answered t.registers (outcome_of t.physical t.value) loads

-- A try missed. "With enable off its answer is final and never counts as a miss": an accepted access is out of test mode, and with both
-- off a try has no exception, so its value is 0.
unfoldable pub missed : Translation → Bool
missed t = eqb t.value MISS

-- the load of a leaf: "It stores vpn15, context page_id and the leaf's fields; SELECT then names that slot, and no other register
-- changes."
unfoldable pub loaded_at : Registers → Buffer → Access → ℕ
loaded_at r b a = load_slot b r.context (vpn_of a.address) a.draw

unfoldable pub registers_loaded : Registers → Buffer → Access → Registers
registers_loaded r b a = put r SELECT (loaded_at r b a)

unfoldable pub buffer_loaded : Registers → Buffer → Access → Found → Buffer
buffer_loaded r b a f =
    loaded_buffer b r.context (vpn_of a.address) a.draw (pack (leaf_entry r.context (vpn_of a.address) f))

-- "if a leaf is found, load it, then raw access again with the same draw": so after a miss that left the registers r
abbrev pub loaded_reply : Found → Registers → Buffer → Access → Reply
loaded_reply f r b a = tried_reply (translate (registers_loaded r b a) (buffer_loaded r b a f) a) 1

-- what the load of a leaf and the second try give
pub record RetryGives (f : Found) (r : Registers) (b : Buffer) (a : Access) (reply : Reply) (buffer-after : Buffer) : Type 0 where
  pub reply-is : reply ≡ loaded_reply f r b a
  pub buffer-is : buffer-after ≡ buffer_loaded r b a f

-- After a miss by what the walk found. Absent and broken are final, with the walk's own fault value.
unfoldable pub after_miss : Walk → Registers → Buffer → Access → Reply
after_miss (Leaf f) r b a = loaded_reply f r b a
after_miss (Absent s) r b a = answered r (Fault (walk_fault (Absent s))) 0
after_miss (Broken s) r b a = answered r (Fault (walk_fault (Broken s))) 0

unfoldable pub buffer_after_miss : Walk → Registers → Buffer → Access → Buffer
buffer_after_miss (Leaf f) r b a = buffer_loaded r b a f
buffer_after_miss (Absent s) r b a = b
buffer_after_miss (Broken s) r b a = b

-- the first try, and the walk that follows a miss
unfoldable pub first_try : Machine → Access → Translation
first_try m a = translate m.registers m.buffer a

unfoldable pub walk_for : Machine → Access → Walk
walk_for m a = walk_page m.words m.registers.context (vpn_of a.address)

-- the access, once it is accepted: "Registers end as these steps leave them."
unfoldable pub access_reply : Machine → Access → Reply
access_reply m a =
    cond (missed (first_try m a)) (after_miss (walk_for m a) (first_try m a).registers m.buffer a) (tried_reply (first_try m a) 0)

unfoldable pub access_buffer : Machine → Access → Buffer
access_buffer m a = cond (missed (first_try m a)) (buffer_after_miss (walk_for m a) (first_try m a).registers m.buffer a) m.buffer

-- what an accepted access gives
pub record AccessGives (m : Machine) (a : Access) (reply : Reply) (buffer-after : Buffer) : Type 0 where
  pub reply-is : reply ≡ access_reply m a
  pub buffer-is : buffer-after ≡ access_buffer m a

unfoldable pub served_reply : Machine → Access → Reply
served_reply m a = by_refusal (served_refusal m a) (access_reply m a) (refused m.registers (served_refusal m a))

unfoldable pub served_buffer : Machine → Access → Buffer
served_buffer m a = by_refusal (served_refusal m a) (access_buffer m a) m.buffer

-- what the call promises. The table words are lent for reading alone
pub record ServedAccessGives (m : Machine) (a : Access) (reply : Reply) (buffer-after : Buffer) : Type 0 where
  pub refusal_is : refusal_of reply.outcome ≡ served_refusal m a
  pub reply-is : reply ≡ served_reply m a
  pub buffer-is : buffer-after ≡ served_buffer m a
