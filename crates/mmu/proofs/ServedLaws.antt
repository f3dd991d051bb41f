-- What a served access that is not refused was handed, and the ways through it. Assumes nothing.
use Prim.Native.Nat.{ℕ, ◌≤◌, ◌<◌}
use mathlib.Core.Path.{◌≡◌, refl, sym, ap, ◌∙◌, subst}
use mathlib.Core.Bool.{Bool, true, false, cond, not, ◌&&◌, not-not}
use native.Mathlib.Omega.{arith}
use lib.Dec.{eqb}
use lib.ListN.{length}
use borrow.Author.Tests.{eq-eqb, ne_eqb}
use Rattle.std.specs.Prelude.{Option, Some, None}
use Rattle.entry.specs.Address.{vpn_of}
use Rattle.entry.specs.Entry.{pack}
use Rattle.entry.proofs.Fields.{vpn-lt}
use Rattle.registers.specs.Fields.{put, registers_fit}
use Rattle.registers.specs.Refusals.{draw_fits}
use Rattle.registers.specs.Replies.{refusal_of, refused, answered}
use Rattle.registers.proofs.RefusalLaws.{passed, machine-passed, when-accepted, when-refused, answer-refusal}
use Rattle.registers.specs.declared.Access.{Access}
use Rattle.registers.specs.declared.Outcome.TheVariants.{At, Fault}
use Rattle.registers.specs.declared.Registers.{Registers}
use Rattle.registers.specs.declared.Reply.{Reply}
use Rattle.page_table.specs.Stretches.{tables_fit}
use Rattle.page_table.proofs.Stretches.{fit-roots}
use Rattle.page_table.specs.Walk.{walk_page}
use Rattle.page_table.specs.Faults.{walk_fault}
use Rattle.page_table.specs.declared.Found.{Found}
use Rattle.page_table.specs.declared.Walk.{Walk}
use Rattle.page_table.specs.declared.Walk.TheVariants.{Leaf, Absent, Broken}
use Rattle.slots.specs.Buffer.{Buffer, buffer_fits}
use Rattle.tlb.specs.Load.{loaded_buffer, LoadGives}
use Rattle.tlb.proofs.Loads.{load-slot-lt, load_fits}
use Rattle.access.specs.Translation.{Accepted, is_set, translate}
use Rattle.access.specs.declared.Translation.{Translation}
use Rattle.access.proofs.AccessLaws.{draw-lt}
use Rattle.access.proofs.Keeping.{select-fits, translate-fits}
use Rattle.store.specs.Leaf.{leaf_entry}
use Rattle.store.specs.Machine.{Machine}
use Rattle.mmu.specs.ServedAccess.{may_be_served, served_refusal, outcome_of, tried_reply, missed, loaded_at, registers_loaded, buffer_loaded}
use Rattle.mmu.specs.ServedAccess.{after_miss, buffer_after_miss, first_try, walk_for, access_reply, access_buffer, served_reply}
use Rattle.mmu.specs.ServedAccess.{served_buffer}
use Rattle.mmu.specs.ServedAccess.{RetryGives, AccessGives, ServedAccessGives}

-- the code tests that a register is 0
pub served-test : (r : Registers) → (eqb r.test 0 && not (eqb r.context 63)) ≡ may_be_served r
unfolding may_be_served is_set
served-test r = ap (λ (t : Bool). t && not (eqb r.context 63)) (sym (not-not (eqb r.test 0)))

pub served-accepted : (m : Machine) (a : Access) → served_refusal m a ≡ 0
    → Accepted m.registers m.buffer a × (64 ≤ length m.words)
unfolding served_refusal
served-accepted m a h =
    let early = machine-passed (registers_fit m.registers) (buffer_fits m.buffer) (tables_fit m.words) _ h in
    let four = passed (draw_fits a.draw) 4 _ (λ e. omega arith) early.3 in
    (record { registers-fit = early.0; buffer-fits = early.1; draw-fits = four.0 }, fit-roots m.words early.2)

pub page-lt : (address vpn : ℕ) → vpn ≡ vpn_of address → vpn < 524288
page-lt address vpn q = subst (λ (n : ℕ). n < 524288) (sym q) (vpn-lt address)

-- a try's reply, by its physical address
module _ (t : Translation) (loads : ℕ) (reply : Reply) where
  pub tried-address : (address : ℕ) → t.physical ≡ Some address → reply ≡ answered t.registers (At address) loads
      → reply ≡ tried_reply t loads
  unfolding tried_reply outcome_of
  tried-address address h q = q ∙ sym (rw h)

  pub tried-none : t.physical ≡ None → reply ≡ answered t.registers (Fault t.value) loads → reply ≡ tried_reply t loads
  unfolding tried_reply outcome_of
  tried-none h q = q ∙ sym (rw h)

-- the load of a leaf, and what it gives
module _ (r : Registers) (b after : Buffer) (a : Access) (vpn e slot : ℕ) (selected : Registers)
    (g : LoadGives b after r.context vpn a.draw e slot) (sq : selected ≡ put r 6 slot) where
  pub loaded-accepted : Accepted r b a → Accepted selected after a
  loaded-accepted p =
      let l = load-slot-lt b r.context vpn a.draw (draw-lt a.draw p.draw-fits) in
      record {
        registers-fit =
            ap registers_fit sq ∙ select-fits r slot p.registers-fit (subst (λ (n : ℕ). n < 64) (sym g.slot_is) l);
        buffer-fits = ap buffer_fits g.buffer-is ∙ load_fits b r.context vpn a.draw e ∙ p.buffer-fits;
        draw-fits = p.draw-fits;
      }

  pub leaf-loaded : (leaf : Found) (second : Translation) (reply : Reply) → vpn ≡ vpn_of a.address
      → e ≡ pack (leaf_entry r.context vpn leaf) → second ≡ translate selected after a → reply ≡ tried_reply second 1
      → RetryGives leaf r b a reply after
  unfolding registers_loaded loaded_at buffer_loaded
  leaf-loaded leaf second reply vq eq tq q = record {
    reply-is = q ∙ rw (tq, sq, g.slot_is, buffer-is, vq);
    buffer-is = buffer-is ∙ rw vq;
  }
    where
      buffer-is : after ≡ loaded_buffer b r.context vpn a.draw (pack (leaf_entry r.context vpn leaf))
      buffer-is = g.buffer-is ∙ ap (loaded_buffer b r.context vpn a.draw) eq

-- an access is still accepted with the registers that a try left
pub first-accepted : (r : Registers) (b : Buffer) (a : Access) (first : Translation) → first ≡ translate r b a → Accepted r b a
    → Accepted first.registers b a
first-accepted r b a first q p = record {
  registers-fit = ap (λ (t : Translation). registers_fit t.registers) q ∙ translate-fits r b a p;
  buffer-fits = p.buffer-fits;
  draw-fits = p.draw-fits;
}

-- what follows a miss gives, by what the walk found
record MissGives (found : Walk) (r : Registers) (b : Buffer) (a : Access) (reply : Reply) (after : Buffer) : Type 0 where
  reply-is : reply ≡ after_miss found r b a
  buffer-is : after ≡ buffer_after_miss found r b a

miss-final : (found : Walk) (r : Registers) (b : Buffer) (a : Access) (value : ℕ) (reply : Reply)
    → ((leaf : Found) → found ≡ Leaf leaf → ⊥) → value ≡ walk_fault found → reply ≡ answered r (Fault value) 0
    → MissGives found r b a reply b
unfolding after_miss buffer_after_miss
miss-final (Leaf f) r b a value reply k v q = absurd (k f refl)
miss-final (Absent s) r b a value reply k v q = record { reply-is = q ∙ rw v; buffer-is = refl }
miss-final (Broken s) r b a value reply k v q = record { reply-is = q ∙ rw v; buffer-is = refl }

miss-loaded : (found : Walk) (leaf : Found) (r : Registers) (b : Buffer) (a : Access) (reply : Reply) (after : Buffer)
    → found ≡ Leaf leaf → RetryGives leaf r b a reply after → MissGives found r b a reply after
unfolding after_miss buffer_after_miss
miss-loaded found leaf r b a reply after e g = record { reply-is = g.reply-is ∙ sym (rw e); buffer-is = g.buffer-is ∙ sym (rw e) }

-- the three ways through an accepted access: the first try stands, or it missed and the walk gave no leaf, or one
module _ (m : Machine) (a : Access) (first : Translation) (fq : first ≡ translate m.registers m.buffer a) (reply : Reply) where
  pub serve-tried : (first.value ≡ 8 → ⊥) → reply ≡ tried_reply first 0 → AccessGives m a reply m.buffer
  unfolding access_reply access_buffer first_try missed
  serve-tried h q =
      let none = ne_eqb first.value 8 h in
      record { reply-is = q ∙ sym (rw (← fq, none)); buffer-is = sym (rw (← fq, none)) }

  module _ (vpn : ℕ) (found : Walk) (h : first.value ≡ 8) (vq : vpn ≡ vpn_of a.address)
      (wq : found ≡ walk_page m.words m.registers.context vpn) where
    serve-missed : (after : Buffer) → MissGives found first.registers m.buffer a reply after → AccessGives m a reply after
    unfolding access_reply access_buffer first_try missed walk_for
    serve-missed after g =
        let one = eq-eqb first.value 8 h in
        record {
          reply-is = g.reply-is ∙ rw (wq, vq) (sym (rw (← fq, one)));
          buffer-is = g.buffer-is ∙ rw (wq, vq) (sym (rw (← fq, one)));
        }

    pub serve-final : (value : ℕ) → ((leaf : Found) → found ≡ Leaf leaf → ⊥) → value ≡ walk_fault found
        → reply ≡ answered first.registers (Fault value) 0 → AccessGives m a reply m.buffer
    serve-final value k v q = serve-missed m.buffer (miss-final found first.registers m.buffer a value reply k v q)

    pub serve-loaded : (leaf : Found) (after : Buffer) → found ≡ Leaf leaf → RetryGives leaf first.registers m.buffer a reply after
        → AccessGives m a reply after
    serve-loaded leaf after e g = serve-missed after (miss-loaded found leaf first.registers m.buffer a reply after e g)

-- an access that is served is not refused
tried-answers : (t : Translation) (loads : ℕ) → refusal_of (tried_reply t loads).outcome ≡ 0
unfolding tried_reply outcome_of refusal_of
tried-answers t loads = by-physical t.physical
  where
    by-physical : (p : Option ℕ) → refusal_of (outcome_of p t.value) ≡ 0
    by-physical (Some address) = refl
    by-physical None = refl

miss-answers : (found : Walk) (r : Registers) (b : Buffer) (a : Access) → refusal_of (after_miss found r b a).outcome ≡ 0
unfolding after_miss refusal_of
miss-answers (Leaf f) r b a = tried-answers _ 1
miss-answers (Absent s) r b a = refl
miss-answers (Broken s) r b a = refl

access-answers : (m : Machine) (a : Access) → refusal_of (access_reply m a).outcome ≡ 0
unfolding access_reply
access-answers m a = by-try (missed (first_try m a))
  where
    by-try : (t : Bool)
        → refusal_of (cond t (after_miss (walk_for m a) (first_try m a).registers m.buffer a)
        (tried_reply (first_try m a) 0)).outcome ≡ 0
    by-try true = miss-answers (walk_for m a) (first_try m a).registers m.buffer a
    by-try false = tried-answers (first_try m a) 0

-- what every reply promises
pub served-gives : (m : Machine) (a : Access) (reply : Reply) (after : Buffer) → reply ≡ served_reply m a → after ≡ served_buffer m a
    → ServedAccessGives m a reply after
unfolding served_reply
served-gives m a reply after q b = record {
  refusal_is =
      ap (λ (s : Reply). refusal_of s.outcome) q
      ∙ answer-refusal (served_refusal m a) (access_reply m a) m.registers (access-answers m a);
  reply-is = q;
  buffer-is = b;
}

-- the two ways through the call
module _ (m : Machine) (a : Access) (n : ℕ) (nq : n ≡ served_refusal m a) (reply : Reply) where
  pub served-refused : (n ≡ 0 → ⊥) → reply ≡ refused m.registers n → ServedAccessGives m a reply m.buffer
  unfolding served_reply served_buffer
  served-refused h q =
      served-gives m a reply m.buffer (when-refused _ n nq _ _ _ h (q ∙ ap (refused m.registers) nq))
      (when-refused _ n nq _ _ _ h refl)

  pub served-done : (after : Buffer) → n ≡ 0 → AccessGives m a reply after → ServedAccessGives m a reply after
  unfolding served_reply served_buffer
  served-done after z g =
      served-gives m a reply after (when-accepted _ n nq _ _ _ z g.reply-is) (when-accepted _ n nq _ _ _ z g.buffer-is)
