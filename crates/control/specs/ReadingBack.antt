-- What a student does: SELECT is set to a slot, then TLB_HI and TLB_LO are read; for each slot in turn, that is a dump.
use Rattle.std.specs.Prelude.{ℕ, zero, suc, ◌+◌, ◌*◌, ◌%◌, ◌≡◌, true, List, [], ◌∷◌, length}
use Rattle.runs.specs.Bits.{bits}
use Rattle.entry.specs.Address.{location}
use Rattle.entry.specs.Entry.{join}
use Rattle.registers.specs.Fields.{put, fits_at, registers_fit, SELECT, TLB_HI, TLB_LO}
use Rattle.registers.specs.Replies.{refusal_of, done}
use Rattle.registers.specs.declared.Registers.{Registers}
use Rattle.registers.specs.declared.Reply.{Reply}
use Rattle.slots.specs.Buffer.{Buffer, buffer_fits, slot_at}
use Rattle.control.specs.Writing.{write_reply, buffer_after_write, WriteGives}
use Rattle.control.specs.Reading.{read_reply, ReadGives}

-- the replies to a write of SELECT, a read of TLB_HI and a read of TLB_LO, and the buffer that the write left
pub record Look : Type 0 where
  pub select-reply : Reply
  pub buffer : Buffer
  pub hi-reply : Reply
  pub lo-reply : Reply

-- a look at a slot: each call is handed what the last one left, and keeps the promise of its contract
pub record LookedAt (r : Registers) (b : Buffer) (slot : ℕ) (l : Look) : Type 0 where
  pub select-written : WriteGives r b l.buffer SELECT slot l.select-reply
  pub hi-read : ReadGives l.select-reply.registers l.buffer TLB_HI l.hi-reply
  pub lo-read : ReadGives l.hi-reply.registers l.buffer TLB_LO l.lo-reply

-- what a look shows: these values of TLB_HI and TLB_LO; the buffer stays, and of the registers SELECT alone is new
pub record Shows (r : Registers) (b : Buffer) (slot hi lo : ℕ) (l : Look) : Type 0 where
  pub hi-is : l.hi-reply ≡ done (put r SELECT slot) hi
  pub lo-is : l.lo-reply ≡ done (put r SELECT slot) lo
  pub buffer-stays : l.buffer ≡ b

-- TLB_HI of the entry that a write to TLB_LO stores: the vpn's upper 15 bits and the page_id are those of the cause, the low four SELECT's
unfoldable pub hi_written : Registers → ℕ
hi_written r = (bits 24 10 r.tlb_hi * 16 + r.select % 16) * 64 + bits 5 0 r.tlb_hi

-- After an accepted write to TLB_LO, and any calls that leave its slot alone, a look at that slot shows `hi_written` and the written value.
unfoldable pub WrittenIsRead : Type 0
WrittenIsRead =
    (r : Registers) (b after : Buffer) (value : ℕ) (reply : Reply) → WriteGives r b after TLB_LO value reply
    → refusal_of reply.outcome ≡ 0
    → (later : Registers) (now : Buffer) → registers_fit later ≡ true → buffer_fits now ≡ true
    → slot_at now r.select ≡ slot_at after r.select
    → (l : Look) → LookedAt later now r.select l → Shows later now r.select (hi_written r) value l

-- In particular a look made at once shows them, handed what the write left.
unfoldable pub WrittenIsReadAtOnce : Type 0
WrittenIsReadAtOnce =
    (r : Registers) (b after : Buffer) (value : ℕ) (reply : Reply) → WriteGives r b after TLB_LO value reply
    → refusal_of reply.outcome ≡ 0
    → (l : Look) → LookedAt reply.registers after r.select l → Shows reply.registers after r.select (hi_written r) value l

-- what a look shows of the slot's entry: two values within their registers' bits, which joined again are the slot's 44 bits, and a vpn with
-- the slot's location
pub record ShowsSlot (r : Registers) (b : Buffer) (slot : ℕ) (l : Look) : Type 0 where
  pub hi : ℕ
  pub lo : ℕ
  pub shows : Shows r b slot hi lo l
  pub hi-fits : fits_at TLB_HI hi ≡ true
  pub lo-fits : fits_at TLB_LO lo ≡ true
  pub entry-is : join (bits 24 10 hi) (bits 5 0 hi) lo ≡ slot_at b slot
  pub location-is : location (bits 24 6 hi) ≡ slot % 16

-- looks at a slot and at those after it, each handed what the last one left
unfoldable pub Dump : Registers → Buffer → (slot : ℕ) → List Look → Type 0
Dump r b slot [] = Unit {0}
Dump r b slot (l ∷ ls) = LookedAt r b slot l × Dump l.lo-reply.registers l.buffer (suc slot) ls

-- each shows its slot of the one buffer, over the registers that the first was handed
unfoldable pub ShowsSlots : Registers → Buffer → (slot : ℕ) → List Look → Type 0
ShowsSlots r b slot [] = Unit {0}
ShowsSlots r b slot (l ∷ ls) = ShowsSlot r b slot l × ShowsSlots r b (suc slot) ls

-- A dump of all 64 slots shows every slot's 44 bits.
unfoldable pub DumpIsTheBuffer : Type 0
DumpIsTheBuffer =
    (r : Registers) (b : Buffer) → registers_fit r ≡ true → buffer_fits b ≡ true → (looks : List Look) → length looks ≡ 64
    → Dump r b 0 looks → ShowsSlots r b 0 looks

-- the look and the dump that the calls' promises give
unfoldable pub look_at : Registers → Buffer → (slot : ℕ) → Look
look_at r b slot =
    let selected = write_reply r b SELECT slot in
    let after = buffer_after_write r b SELECT slot in
    let hi = read_reply selected.registers after TLB_HI in
    record { select-reply = selected; buffer = after; hi-reply = hi; lo-reply = read_reply hi.registers after TLB_LO }

unfoldable pub dump_from : Registers → Buffer → (slot count : ℕ) → List Look
dump_from r b slot zero = []
dump_from r b slot (suc n) =
    let l = look_at r b slot in
    l ∷ dump_from l.lo-reply.registers l.buffer (suc slot) n
