-- What a served access that is not refused was handed, and the ways through it. Assumes nothing.
use Prim.Native.Nat.{ℕ, ◌+◌, ◌≤◌, ◌<◌}
use mathlib.Core.Path.{◌≡◌, refl, sym, ap, ◌∙◌, subst}
use mathlib.Core.Bool.{Bool, true, false, not, cond}
use mathlib.Core.List.{List}
use native.Mathlib.Omega.{arith}
use lib.ListN.{length}
use borrow.Author.Tests.{lt-ltb, not-true}
use Rattle.std.specs.Prelude.{Option, Some, None}
use Rattle.wire.specs.Wire.{AreBytes}
use Rattle.entry.specs.Address.{vpn_of}
use Rattle.registers.specs.Fields.{registers_fit}
use Rattle.registers.specs.Refusals.{machine_refusal, draw_fits}
use Rattle.registers.proofs.RefusalLaws.{passed, when-accepted, when-refused}
use Rattle.registers.specs.Replies.{answered}
use Rattle.registers.specs.declared.Access.{Access}
use Rattle.registers.specs.declared.Outcome.TheVariants.{Fault}
use Rattle.registers.specs.declared.Registers.{Registers}
use Rattle.registers.specs.declared.Reply.{Reply}
use Rattle.page_table.specs.Walk.{walk_page}
use Rattle.page_table.specs.Faults.{stop_place, walk_fault}
use Rattle.page_table.proofs.FaultLaws.{place-lt}
use Rattle.page_table.specs.declared.Found.{Found}
use Rattle.page_table.specs.declared.Walk.{Walk}
use Rattle.page_table.specs.declared.Walk.TheVariants.{Leaf, Absent, Broken}
use Rattle.slots.specs.Buffer.{Buffer}
use Rattle.slots.specs.Buffer.Buffer.{Wide}
use Rattle.access.specs.Translation.{Accepted, no_exception, translate}
use Rattle.access.specs.declared.Translation.{Translation}
use Rattle.access.proofs.AccessLaws.{draw-lt}
use Rattle.access.proofs.Plain.{Plain, plain, plain-registers}
use Rattle.access.proofs.Values.{translate-value-le}
use Rattle.store.specs.Machine.{Machine}
use Rattle.table_bytes.specs.TableBytes.{words_of}
use Rattle.mmu.specs.ServedAccess.{may_be_served, service_refusal, outcome_of, tried_reply, missed, after_miss, first_try, walk_for, access_reply}
use Rattle.mmu.specs.ServedAccess.{access_buffer, RetryGives, AccessGives}
use Rattle.mmu.proofs.ServedLaws.{first-accepted, serve-tried, serve-final, serve-loaded}
use Rattle.mmu.proofs.Locations.{loaded-reply-same}
use Rattle.mmu_c.specs.Runs.{registers_of, register_bytes, buffer_of, buffer_bytes, registers_taken, buffer_taken, tables_taken, machine_of}
use Rattle.mmu_c.specs.Answers.{refusal_answer, raw_answer, translation_answer, outcome_answer, reply_answer, outcome_fits}
use Rattle.mmu_c.specs.Location.{Fetched, put_back}
use Rattle.mmu_c.specs.ServedAccess.{served_refusal, served_reply, served_buffer, served_number, served_registers, served_bytes}
use Rattle.mmu_c.specs.ServedAccess.{AccessGivesBytes, ServedAccessGives}
use Rattle.mmu_c.proofs.AnswerLaws.{refusal-room, machine-room}
use Rattle.mmu_c.proofs.RunLaws.{short-refusal, long-refusal, registers-back, Handed, handed}
use Rattle.mmu_c.proofs.Locations.{buffer-fits, run_fits, fetched-same}
use Rattle.mmu_c.proofs.PutBack.{bytes_back, put-back}

-- the machine of registers and of a buffer's and the tables' bytes
abbrev pub machine : Registers → (buffer tables : List ℕ) → Machine
machine r buffer tables = record { registers = r; buffer = buffer_of buffer; words = words_of tables }

-- the three ways through an accepted access: the first try stands, or it missed and the walk gave no leaf, or one
module _ (r : Registers) (buffer tables run : List ℕ) (a : Access) (first : Translation) (fq : first ≡ translate r (buffer_of buffer) a)
    (f : Fetched buffer run (vpn_of a.address)) (room : length buffer ≡ 512) where
  -- the bytes are left alone where the buffer is
  same_bytes : (reply : Reply) → AccessGives (machine r buffer tables) a reply (buffer_of buffer)
      → AccessGivesBytes (machine r buffer tables) a reply buffer
  same_bytes reply g =
      record { reply-is = g.reply-is; buffer-is = sym (bytes_back buffer f.are-bytes room) ∙ ap buffer_bytes g.buffer-is }

  pub stands : (reply : Reply) → (first.value ≡ 8 → ⊥) → reply ≡ tried_reply first 0
      → AccessGivesBytes (machine r buffer tables) a reply buffer
  stands reply h q = same_bytes reply (serve-tried (machine r buffer tables) a first fq reply h q)

  pub miss-accepted : Accepted r (buffer_of buffer) a → Accepted first.registers (Wide run) a
  miss-accepted p =
      let q = first-accepted r (buffer_of buffer) a first fq p in
      record { registers-fit = q.registers-fit; buffer-fits = run_fits run f.long; draw-fits = q.draw-fits }

  module _ (reply : Reply) (vpn : ℕ) (found : Walk) (h : first.value ≡ 8) (vq : vpn ≡ vpn_of a.address)
      (wq : found ≡ walk_page (words_of tables) r.context vpn) where
    pub final : (value : ℕ) → ((leaf : Found) → found ≡ Leaf leaf → ⊥) → value ≡ walk_fault found
        → reply ≡ answered first.registers (Fault value) 0 → AccessGivesBytes (machine r buffer tables) a reply buffer
    final value k v q = same_bytes reply (serve-final (machine r buffer tables) a first fq reply vpn found h vq wq value k v q)

    pub loaded : Accepted r (buffer_of buffer) a → (leaf : Found) (run-after after : List ℕ) → found ≡ Leaf leaf
        → RetryGives leaf first.registers (Wide run) a reply (Wide run-after) → after ≡ put_back run-after vpn 4 buffer
        → AccessGivesBytes (machine r buffer tables) a reply after
    loaded p leaf run-after after lq g aq =
        let q = first-accepted r (buffer_of buffer) a first fq p in
        let same = fetched-same buffer run (vpn_of a.address) f in
        let whole = serve-loaded (machine r buffer tables) a first fq reply vpn found h vq wq leaf _ lq (record {
          reply-is =
              g.reply-is
              ∙ loaded-reply-same first.registers (Wide run) (buffer_of buffer) a (miss-accepted p) q same leaf;
          buffer-is = refl;
        }) in
        record {
          reply-is = whole.reply-is;
          buffer-is =
              aq
              ∙ ap (λ (v : ℕ). put_back run-after v 4 buffer) vq
              ∙ put-back first.registers buffer run a f room (draw-lt a.draw p.draw-fits) leaf run-after g.buffer-is
              ∙ ap buffer_bytes whole.buffer-is;
        }

-- a reply has room in its bits of the answer
abbrev pub ReplyFits : Reply → Type 0
ReplyFits reply = (outcome_fits reply.outcome ≡ true) × (reply.loads < 16)

tried-fits : (t : Translation) (loads : ℕ) → t.value ≤ 8 → loads < 16 → ReplyFits (tried_reply t loads)
unfolding tried_reply outcome_of outcome_fits
tried-fits t loads l k = (by-physical t.physical, k)
  where
    by-physical : (p : Option ℕ) → outcome_fits (outcome_of p t.value) ≡ true
    by-physical (Some address) = refl
    by-physical None = lt-ltb t.value 65536 (omega arith)

miss-fits : (found : Walk) (r : Registers) (b : Buffer) (a : Access) → ReplyFits (after_miss found r b a)
unfolding after_miss walk_fault outcome_fits
miss-fits (Leaf f) r b a = tried-fits _ 1 (translate-value-le _ _ a) (omega arith)
miss-fits (Absent s) r b a = (lt-ltb (16 + stop_place s) 65536 (omega (arith, place-lt s)), omega arith)
miss-fits (Broken s) r b a = (lt-ltb (32 + stop_place s) 65536 (omega (arith, place-lt s)), omega arith)

pub access-fits : (m : Machine) (a : Access) → ReplyFits (access_reply m a)
unfolding access_reply first_try
access-fits m a = by-try (missed (first_try m a))
  where
    by-try : (t : Bool)
        → ReplyFits (cond t (after_miss (walk_for m a) (first_try m a).registers m.buffer a) (tried_reply (first_try m a) 0))
    by-try true = miss-fits (walk_for m a) (first_try m a).registers m.buffer a
    by-try false = tried-fits (first_try m a) 0 (translate-value-le m.registers m.buffer a) (omega arith)

pub reply-fits : (m : Machine) (a : Access) (reply : Reply) (after : List ℕ) → AccessGivesBytes m a reply after → ReplyFits reply
reply-fits m a reply after g = subst ReplyFits (sym g.reply-is) (access-fits m a)

-- a try without an exception is no miss, and its answer is the reply's
module _ (r : Registers) (t : Translation) (p : Plain r t) where
  plain_value : t.value ≡ 8 → ⊥
  unfolding no_exception
  plain_value e = let z : t.value ≡ 0 = ap (λ (s : Translation). s.value) p.answer-is in omega arith

  plain-answer : translation_answer t ≡ reply_answer (tried_reply t 0)
  unfolding no_exception translation_answer raw_answer reply_answer tried_reply outcome_of outcome_answer
  plain-answer = subst (λ (s : Translation). translation_answer s ≡ reply_answer (tried_reply s 0)) (sym p.answer-is) refl

-- the refusal by the registers' length and by what the code tests then
module _ (registers buffer tables : List ℕ) (a : Access) where
  pub refusal-short : (length registers ≡ 44 → ⊥) → 1 ≡ served_refusal registers buffer tables a
  unfolding served_refusal
  refusal-short h = short-refusal registers _ h

  pub refusal-long : (r : Registers) (n : ℕ) → length registers ≡ 44 → r ≡ registers_of registers
      → n ≡ machine_refusal (registers_fit r) (buffer_taken buffer) (tables_taken tables) (service_refusal r a.draw)
      → n ≡ served_refusal registers buffer tables a
  unfolding served_refusal
  refusal-long r n e rq q =
      q
      ∙ long-refusal registers r _ e rq
      ∙ ap (λ (s : Registers). machine_refusal (registers_taken registers) (buffer_taken buffer) (tables_taken tables)
      (service_refusal s a.draw)) rq

-- the call
module _ (registers buffer tables : List ℕ) (a : Access) (n : ℕ) (nq : n ≡ served_refusal registers buffer tables a) where
  pub refusal-lt : n < 256
  unfolding served_refusal
  refusal-lt = subst (λ (k : ℕ). k < 256) (sym nq) (machine-room (registers_taken registers) (buffer_taken buffer) (tables_taken tables) _
      (refusal-room (draw_fits a.draw) 4 _ (omega arith)
      (refusal-room (may_be_served (registers_of registers)) 5 0 (omega arith) (omega arith))))

  pub refused : (answer : ℕ) → (n ≡ 0 → ⊥) → answer ≡ refusal_answer n
      → ServedAccessGives registers buffer tables a answer registers buffer
  unfolding served_number served_registers served_bytes
  refused answer h q = record {
    answer-is = when-refused _ n nq _ _ _ h (q ∙ ap refusal_answer nq);
    registers-are = when-refused _ n nq _ _ _ h refl;
    buffer-is = when-refused _ n nq _ _ _ h refl;
  }

  -- an access that is not refused
  module _ (z : n ≡ 0) where
    told : Handed registers buffer tables (service_refusal (registers_of registers) a.draw)
    unfolding served_refusal
    told = handed registers buffer tables _ n nq z

    pub lengths : (length registers ≡ 44) × (length buffer ≡ 512) × (256 ≤ length tables)
    lengths = (told.registers-long, told.buffer-long, told.tables-long)

    pub accepted : (r : Registers) → r ≡ registers_of registers → Accepted r (buffer_of buffer) a
    accepted r rq = record {
      registers-fit = ap registers_fit rq ∙ told.registers-fit;
      buffer-fits = buffer-fits buffer;
      draw-fits = (passed (draw_fits a.draw) 4 _ (λ e. omega arith) told.later-passed).0;
    }

    pub served : (r : Registers) (reply : Reply) (after : List ℕ) → r ≡ registers_of registers
        → AccessGivesBytes (machine r buffer tables) a reply after → (answer : ℕ) (registers-after : List ℕ)
        → registers-after ≡ register_bytes reply.registers → answer ≡ reply_answer reply
        → ServedAccessGives registers buffer tables a answer registers-after after
    unfolding served_number served_registers served_bytes served_reply served_buffer machine_of
    served r reply after rq g answer registers-after p q =
        let whole : reply ≡ access_reply (machine (registers_of registers) buffer tables) a =
        g.reply-is ∙ ap (λ (s : Registers). access_reply (machine s buffer tables) a) rq in
        record {
          answer-is = when-accepted _ n nq _ _ _ z (q ∙ ap reply_answer whole);
          registers-are = when-accepted _ n nq _ _ _ z (p ∙ ap (λ (s : Reply). register_bytes s.registers) whole);
          buffer-is =
              when-accepted _ n nq _ _ _ z
              (g.buffer-is ∙ ap (λ (s : Registers). buffer_bytes (access_buffer (machine s buffer tables) a)) rq);
        }

    -- the first try had no exception: the bytes are left alone
    pub plain-served : (r : Registers) (first : Translation) (run : List ℕ) → r ≡ registers_of registers
        → first ≡ translate r (buffer_of buffer) a → Fetched buffer run (vpn_of a.address) → AreBytes registers
        → not first.exception ≡ true → (answer : ℕ) → answer ≡ translation_answer first
        → ServedAccessGives registers buffer tables a answer registers buffer
    unfolding tried_reply
    plain-served r first run rq fq f are h answer q =
        let p = plain r (buffer_of buffer) a first fq (not-true first.exception h) in
        served r (tried_reply first 0) buffer rq
        (stands r buffer tables run a first fq f lengths.1 (tried_reply first 0) (plain_value r first p) refl) answer registers
        (sym (registers-back registers are lengths.0) ∙ ap register_bytes (sym rq ∙ sym (plain-registers r first p)))
        (q ∙ plain-answer r first p)
