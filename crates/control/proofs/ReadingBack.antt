-- What is written is read back, and a dump is the buffer. Assumes nothing.
use Prim.Native.Nat.{ℕ, zero, suc, ◌+◌, ◌^◌, ◌≤◌, ◌<◌}
use mathlib.Core.Path.{◌≡◌, refl, sym, ap, ◌∙◌, subst}
use mathlib.Core.Bool.{true}
use mathlib.Core.List.{List, [], ◌∷◌}
use native.Mathlib.Omega.{arith}
use native.Mathlib.Nat.{mod-eq_of_lt}
use lib.Dec.{lit<}
use lib.ListN.{length}
use borrow.Author.Tests.{lt-ltb}
use Rattle.runs.specs.Bits.{bits}
use Rattle.entry.proofs.Fields.{join-lt}
use Rattle.registers.specs.Fields.{to_words, from_words, put, widths, fits_at, registers_fit, SELECT, TLB_HI, TLB_LO}
use Rattle.registers.specs.Refusals.{refuse_unless, by_refusal}
use Rattle.registers.specs.Replies.{refusal_of, done}
use Rattle.registers.proofs.Fields.{put-again, put-fits}
use Rattle.registers.specs.declared.Registers.{Registers}
use Rattle.registers.specs.declared.Reply.{Reply}
use Rattle.slots.specs.Buffer.{Buffer, buffer_fits, slot_at, with_slot}
use Rattle.slots.proofs.Slots.{slot_lt, at_same, fits-put}
use Rattle.control.specs.Halves.{hi_of, lo_of, entry_from}
use Rattle.control.specs.Writing.{write_refusal, written_entry, written_buffer, write_reply, buffer_after_write, WriteGives}
use Rattle.control.specs.Reading.{read_refusal, read_value, read_reply, ReadGives}
use Rattle.control.specs.ReadingBack.{Look, LookedAt, Shows, hi_written, WrittenIsRead, WrittenIsReadAtOnce}
use Rattle.control.specs.ReadingBack.{ShowsSlot, Dump, ShowsSlots, DumpIsTheBuffer, look_at, dump_from}
use Rattle.control.proofs.NumberLaws.{NumberAccepted, number-accepted, number-goes-on, select-lt}
use Rattle.control.proofs.CallLaws.{low-lt, write-accepted, write-gives}
use Rattle.control.proofs.HalvesLaws.{hi-lt, lo-lt, hi-location, entry-back, hi-from, lo-from}
use Rattle.control.proofs.ReadLaws.{read-gives}

-- a write and a read that are accepted
module _ (r : Registers) (b : Buffer) (number : ℕ) (a : NumberAccepted r b number) where
  write-passes : (value : ℕ) → fits_at number value ≡ true → write_refusal r b number value ≡ 0
  unfolding write_refusal refuse_unless
  write-passes value h = number-goes-on r b number _ a ∙ rw h

  write_done : (value : ℕ) → fits_at number value ≡ true → write_reply r b number value ≡ done (put r number value) 0
  unfolding write_reply by_refusal
  write_done value h = rw (write-passes value h)

  buffer-written : (value : ℕ) → fits_at number value ≡ true → buffer_after_write r b number value ≡ written_buffer r b number value
  unfolding buffer_after_write by_refusal
  buffer-written value h = rw (write-passes value h)

  read_done : read_reply r b number ≡ done r (read_value r b number)
  unfolding read_reply read_refusal by_refusal
  read_done = rw (number-goes-on r b number 0 a)

select-fits : (slot : ℕ) → slot < 64 → fits_at SELECT slot ≡ true
unfolding fits_at widths
select-fits slot l = lt-ltb slot 64 l

hi-value : (r : Registers) (b : Buffer) (slot : ℕ) → read_value (put r SELECT slot) b TLB_HI ≡ hi_of slot (slot_at b slot)
unfolding read_value put from_words to_words
hi-value r b slot = refl

lo-value : (r : Registers) (b : Buffer) (slot : ℕ) → read_value (put r SELECT slot) b TLB_LO ≡ lo_of (slot_at b slot)
unfolding read_value put from_words to_words
lo-value r b slot = refl

-- a look shows the slot's entry
look-shows : (r : Registers) (b : Buffer) (slot : ℕ) (l : Look) → registers_fit r ≡ true → buffer_fits b ≡ true → slot < 64
    → LookedAt r b slot l → Shows r b slot (hi_of slot (slot_at b slot)) (lo_of (slot_at b slot)) l
unfolding written_buffer
look-shows r b slot l f g lt k = record { hi-is = hi-is; lo-is = lo-is; buffer-stays = buffer-stays }
  where
    q : Registers
    q = put r SELECT slot

    a : NumberAccepted r b SELECT
    a = number-accepted r b SELECT f g (lit< tt)

    buffer-stays : l.buffer ≡ b
    buffer-stays = k.select-written.buffer-is ∙ buffer-written r b SELECT a slot (select-fits slot lt)

    selected : l.select-reply.registers ≡ q
    selected = ap (λ (s : Reply). s.registers) (k.select-written.reply-is ∙ write_done r b SELECT a slot (select-fits slot lt))

    read : (number : ℕ) → number < 10 → (given : Registers) → given ≡ q → (reply : Reply) → ReadGives given l.buffer number reply
        → reply ≡ done q (read_value q b number)
    read number known given e reply h =
        h.reply-is ∙ ap (λ (p : Registers). read_reply p l.buffer number) e ∙ ap (λ (c : Buffer). read_reply q c number) buffer-stays
        ∙ read_done q b number (number-accepted q b number (put-fits r SELECT slot f (select-fits slot lt)) g known)

    hi-is : l.hi-reply ≡ done q (hi_of slot (slot_at b slot))
    hi-is = read TLB_HI (lit< tt) _ selected _ k.hi-read ∙ ap (done q) (hi-value r b slot)

    lo-is : l.lo-reply ≡ done q (lo_of (slot_at b slot))
    lo-is = read TLB_LO (lit< tt) _ (ap (λ (s : Reply). s.registers) hi-is) _ k.lo-read ∙ ap (done q) (lo-value r b slot)

-- the slot that an accepted write to TLB_LO leaves
module _ (r : Registers) (b after : Buffer) (value : ℕ) (reply : Reply) (w : WriteGives r b after TLB_LO value reply)
    (a : refusal_of reply.outcome ≡ 0) where
  handed : NumberAccepted r b TLB_LO
  handed = (write-accepted r b TLB_LO value (sym w.refusal_is ∙ a)).0

  value-fits : fits_at TLB_LO value ≡ true
  value-fits = (write-accepted r b TLB_LO value (sym w.refusal_is ∙ a)).1

  value-lt : value < 2 ^ 23
  value-lt = low-lt TLB_LO value refl value-fits

  entry_lt : written_entry r value < 2 ^ 44
  unfolding written_entry entry_from
  entry_lt = join-lt (bits 24 10 r.tlb_hi) (bits 5 0 r.tlb_hi) value (omega arith) (omega arith) value-lt

  stored : after ≡ with_slot b r.select (written_entry r value)
  unfolding written_buffer
  stored = w.buffer-is ∙ buffer-written r b TLB_LO handed value value-fits

  slot-left : slot_at after r.select ≡ written_entry r value
  slot-left =
      ap (λ (c : Buffer). slot_at c r.select) stored
      ∙ at_same b r.select (written_entry r value) handed.buffer-fits (select-lt r handed.registers-fit)
      ∙ mod-eq_of_lt entry_lt

  after-fits : buffer_fits after ≡ true
  after-fits = ap buffer_fits stored ∙ fits-put b r.select (written_entry r value) ∙ handed.buffer-fits

  reply-left : reply ≡ done (put r TLB_LO value) 0
  reply-left = w.reply-is ∙ write_done r b TLB_LO handed value value-fits

  registers-fit : registers_fit reply.registers ≡ true
  registers-fit =
      ap (λ (s : Reply). registers_fit s.registers) reply-left
      ∙ put-fits r TLB_LO value handed.registers-fit value-fits

pub written-is-read : WrittenIsRead
unfolding WrittenIsRead hi_written written_entry
written-is-read r b after value reply w a later now f g same l k =
    let entry = same ∙ slot-left r b after value reply w a in
    let lt = value-lt r b after value reply w a in
    let shows = look-shows later now r.select l f g (select-lt r (handed r b after value reply w a).registers-fit) k in
    record {
      hi-is = shows.hi-is ∙ ap (done _) (ap (hi_of r.select) entry ∙ hi-from r.select r.tlb_hi value lt);
      lo-is = shows.lo-is ∙ ap (done _) (ap lo_of entry ∙ lo-from r.select r.tlb_hi value lt);
      buffer-stays = shows.buffer-stays;
    }

pub written-is-read-at-once : WrittenIsReadAtOnce
unfolding WrittenIsReadAtOnce WrittenIsRead
written-is-read-at-once r b after value reply w a l k =
    written-is-read r b after value reply w a reply.registers after (registers-fit r b after value reply w a)
    (after-fits r b after value reply w a) refl l k

-- the registers that a look leaves lead to the same looks
shows-slot : (r q : Registers) (b : Buffer) (slot : ℕ) (l : Look) → ((s : ℕ) → put q SELECT s ≡ put r SELECT s)
    → Shows q b slot (hi_of slot (slot_at b slot)) (lo_of (slot_at b slot)) l → ShowsSlot r b slot l
unfolding fits_at widths entry_from
shows-slot r q b slot l same k = record {
  hi = hi_of slot (slot_at b slot);
  lo = lo_of (slot_at b slot);
  shows = record {
    hi-is = k.hi-is ∙ ap (λ (p : Registers). done p (hi_of slot (slot_at b slot))) (same slot);
    lo-is = k.lo-is ∙ ap (λ (p : Registers). done p (lo_of (slot_at b slot))) (same slot);
    buffer-stays = k.buffer-stays;
  };
  hi-fits = lt-ltb _ _ (hi-lt slot (slot_at b slot));
  lo-fits = lt-ltb _ _ (lo-lt (slot_at b slot));
  entry-is = entry-back slot (slot_at b slot) (slot_lt b slot);
  location-is = hi-location slot (slot_at b slot);
}

dump-shows : (r q : Registers) (b : Buffer) → registers_fit q ≡ true → buffer_fits b ≡ true → ((s : ℕ) → put q SELECT s ≡ put r SELECT s)
    → (slot : ℕ) (looks : List Look) → slot + length looks ≤ 64 → Dump q b slot looks → ShowsSlots r b slot looks
unfolding Dump ShowsSlots
dump-shows r q b f g same slot [] le k = tt
dump-shows r q b f g same slot (l ∷ ls) le k =
    let lt : slot < 64 = omega arith in
    let shows = look-shows q b slot l f g lt k.0 in (
      shows-slot r q b slot l same shows,
      dump-shows r (put q SELECT slot) b (put-fits q SELECT slot f (select-fits slot lt)) g (λ s. put-again q SELECT slot s ∙ same s)
          (suc slot) ls (omega arith)
          (subst (λ (p : Registers). Dump p b (suc slot) ls) (ap (λ (s : Reply). s.registers) shows.lo-is)
          (subst (λ (c : Buffer). Dump l.lo-reply.registers c (suc slot) ls) shows.buffer-stays k.1)),
    )

pub dump-is-the-buffer : DumpIsTheBuffer
unfolding DumpIsTheBuffer
dump-is-the-buffer r b f g looks n k = dump-shows r r b f g (λ s. refl) 0 looks (omega arith) k

-- no statement is empty: there is a look at every slot, a write of every value, and a dump of every buffer
pub looked : (r : Registers) (b : Buffer) (slot : ℕ) → LookedAt r b slot (look_at r b slot)
unfolding look_at
looked r b slot = record {
  select-written = write-gives _ _ _ _ _ _ refl refl;
  hi-read = read-gives _ _ _ _ refl;
  lo-read = read-gives _ _ _ _ refl;
}

-- every write to TLB_LO that fits is accepted, and read back
pub every-write-read : (r : Registers) (b : Buffer) (value : ℕ) → registers_fit r ≡ true → buffer_fits b ≡ true
    → fits_at TLB_LO value ≡ true
    → Shows (put r TLB_LO value) (buffer_after_write r b TLB_LO value) r.select (hi_written r) value
    (look_at (put r TLB_LO value) (buffer_after_write r b TLB_LO value) r.select)
unfolding WrittenIsReadAtOnce refusal_of
every-write-read r b value f g h =
    written-is-read-at-once r b (buffer_after_write r b TLB_LO value) value (done (put r TLB_LO value) 0)
    (write-gives r b _ TLB_LO value _ (sym (write_done r b TLB_LO (number-accepted r b TLB_LO f g (lit< tt)) value h)) refl) refl _
    (looked (put r TLB_LO value) (buffer_after_write r b TLB_LO value) r.select)

dumped : (r : Registers) (b : Buffer) (slot count : ℕ) → Dump r b slot (dump_from r b slot count)
unfolding Dump dump_from
dumped r b slot zero = tt
dumped r b slot (suc n) = (looked r b slot, dumped (look_at r b slot).lo-reply.registers _ (suc slot) n)

dump-length : (r : Registers) (b : Buffer) (slot count : ℕ) → length (dump_from r b slot count) ≡ count
unfolding dump_from
dump-length r b slot zero = refl
dump-length r b slot (suc n) = ap suc (dump-length (look_at r b slot).lo-reply.registers _ (suc slot) n)

pub every-buffer-dumped : (r : Registers) (b : Buffer) → registers_fit r ≡ true → buffer_fits b ≡ true
    → ShowsSlots r b 0 (dump_from r b 0 64)
unfolding DumpIsTheBuffer
every-buffer-dumped r b f g = dump-is-the-buffer r b f g (dump_from r b 0 64) (dump-length r b 0 64) (dumped r b 0 64)
