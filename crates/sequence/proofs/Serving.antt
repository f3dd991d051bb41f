-- An accepted access, over a buffer with the invariant: it answers what the reader gets, counts a load exactly when its first try missed
-- and the walk found a leaf, leaves the guarded settings, and keeps the invariant. Assumes nothing.
use Prim.Native.Nat.{ℕ, ◌≤◌, ◌<◌}
use mathlib.Core.Path.{◌≡◌, refl, sym, ap, ◌∙◌, subst}
use mathlib.Core.Logic.{⊎_elim}
use mathlib.Core.Bool.{Bool, true, false, cond, not, ◌&&◌}
use lib.Dec.{eqb}
use Rattle.runs.specs.Bits.{bit}
use Rattle.runs.specs.Counts.{lowest}
use Rattle.runs.proofs.Bools.{both, and-false}
use Rattle.runs.proofs.Counts.{count_none, none_or_some}
use Rattle.entry.specs.Address.{vpn_of, slot_of}
use Rattle.entry.specs.Entry.{pack}
use Rattle.entry.proofs.Fields.{vpn-lt}
use Rattle.registers.specs.Fields.{to_words, from_words, put}
use Rattle.registers.specs.declared.Access.{Access}
use Rattle.registers.specs.declared.Outcome.TheVariants.{At}
use Rattle.registers.specs.declared.Registers.{Registers}
use Rattle.page_table.specs.Walk.{walk_page}
use Rattle.page_table.specs.declared.Found.{Found}
use Rattle.page_table.specs.declared.Walk.{Walk}
use Rattle.page_table.specs.declared.Walk.TheVariants.{Leaf, Absent, Broken}
use Rattle.slots.specs.Buffer.{Buffer, buffer_fits}
use Rattle.tlb.specs.Hit.{valid_or_inv_exc, matches_page, hit}
use Rattle.tlb.specs.Search.{fields_at, set_hits, hit_count}
use Rattle.tlb.specs.Load.{set_matches, loaded_buffer}
use Rattle.access.specs.Segments.{in_linear_segment}
use Rattle.access.specs.Exceptions.{inv_exc, MISS}
use Rattle.access.specs.Translation.{is_set, no_exception, with_cause, exception_answer, translate}
use Rattle.access.specs.declared.Translation.{Translation}
use Rattle.store.specs.Leaf.{leaf_entry}
use Rattle.store.specs.Machine.{Machine}
use Rattle.mmu.specs.ServedAccess.{outcome_of, tried_reply, missed, registers_loaded, buffer_loaded, after_miss, buffer_after_miss, first_try}
use Rattle.mmu.specs.ServedAccess.{walk_for, access_reply, access_buffer}
use Rattle.sequence.specs.Reader.{Settings, Reader, settings_of, reader_walk, found_leaf, walk_answer, reader_answer}
use Rattle.sequence.proofs.Invariant.{Inv, LeafFor, load-set-lt, load-keeps, load-matches}
use Rattle.sequence.proofs.Tries.{told, Kept, kept_then, try-linear, try-off, try-missed, try-keeps, hit-missed, miss-is}
use Rattle.sequence.proofs.Tries.{page-leaf, seen-is, try-told}

-- the reader that has a machine's words and guarded settings
unfoldable pub reader_of : Machine → Reader
reader_of m = record { words = m.words; settings = settings_of m.registers }

pub loaded-keeps : (r : Registers) (b : Buffer) (a : Access) → Kept (registers_loaded r b a) r
unfolding registers_loaded put to_words from_words settings_of
loaded-keeps r b a = record { settings = refl; test = refl }

pub context-kept : {q r : Registers} → Kept q r → q.context ≡ r.context
unfolding settings_of
context-kept k = ap (λ (s : Settings). s.context) k.settings

module _ (m : Machine) (a : Access) where
  abbrev r : Registers
  r = m.registers

  abbrev first : Translation
  first = translate m.registers m.buffer a

  abbrev after : Registers
  after = (translate m.registers m.buffer a).registers

  pub access-loads : (access_reply m a).loads ≡ bit (missed (first_try m a) && found_leaf (walk_for m a))
  unfolding access_reply after_miss tried_reply found_leaf
  access-loads = go (missed (first_try m a)) (walk_for m a)
    where
      go : (t : Bool) (x : Walk) → (cond t (after_miss x (first_try m a).registers m.buffer a) (tried_reply (first_try m a) 0)).loads
          ≡ bit (t && found_leaf x)
      go true (Leaf f) = refl
      go true (Absent s) = refl
      go true (Broken s) = refl
      go false x = refl

  -- where the walk finds no leaf nothing is loaded
  pub access-no-load : found_leaf (walk_for m a) ≡ false → (access_reply m a).loads ≡ 0
  access-no-load none = access-loads ∙ rw (none, and-false)

  pub access-keeps : Kept (access_reply m a).registers m.registers
  unfolding access_reply after_miss tried_reply first_try
  access-keeps = go (missed (first_try m a)) (walk_for m a)
    where
      go : (t : Bool) (x : Walk) → Kept (cond t (after_miss x after m.buffer a) (tried_reply first 0)).registers r
      go true (Leaf f) =
          kept_then (try-keeps (registers_loaded after m.buffer a) (buffer_loaded after m.buffer a f) a)
          (kept_then (loaded-keeps after m.buffer a) (try-keeps r m.buffer a))
      go true (Absent s) = try-keeps r m.buffer a
      go true (Broken s) = try-keeps r m.buffer a
      go false x = try-keeps r m.buffer a

  -- the load is the context's, which the first try leaves
  pub loaded-is : (f : Found)
      → buffer_loaded (first_try m a).registers m.buffer a f
      ≡ loaded_buffer m.buffer m.registers.context (vpn_of a.address) a.draw
      (pack (leaf_entry m.registers.context (vpn_of a.address) f))
  unfolding buffer_loaded first_try
  loaded-is f = rw (context-kept (try-keeps r m.buffer a))

  not-missed : missed (first_try m a) ≡ false → (access_reply m a).outcome ≡ told (first_try m a)
  unfolding access_reply tried_reply told
  not-missed h = rw h

  module _ (te : is_set m.registers.test ≡ false) (lc : m.registers.context ≤ 62) (ld : a.draw < 4)
      (fits : buffer_fits m.buffer ≡ true) (inv : Inv m.words m.buffer) where
    abbrev vpn : ℕ
    vpn = vpn_of a.address

    pub access-inv : Inv m.words (access_buffer m a)
    unfolding access_buffer buffer_after_miss walk_for
    access-inv = go (missed (first_try m a)) (walk_page m.words r.context vpn) refl
      where
        go : (t : Bool) (x : Walk) → walk_page m.words r.context vpn ≡ x
            → Inv m.words (cond t (buffer_after_miss x (first_try m a).registers m.buffer a) m.buffer)
        go true (Leaf f) e =
            subst (Inv m.words) (sym (loaded-is f))
            (load-keeps m.words m.buffer inv fits r.context vpn a.draw f lc (vpn-lt a.address) ld e)
        go true (Absent s) e = inv
        go true (Broken s) e = inv
        go false x e = inv

    first-missed : missed (first_try m a)
        ≡ (is_set m.registers.enable && not (in_linear_segment m.registers.kseg a)
        && eqb (hit_count m.buffer (inv_exc m.registers.ctrl) m.registers.context (vpn_of a.address)) 0)
    unfolding first_try
    first-missed = try-missed r m.buffer a te

    -- enable off
    answer-off : is_set r.enable ≡ false → (access_reply m a).outcome ≡ reader_answer (reader_of m) a
    unfolding reader_answer reader_of settings_of first_try told no_exception outcome_of
    answer-off e = not-missed (first-missed ∙ rw e) ∙ go (in_linear_segment r.kseg a) refl ∙ sym (rw e)
      where
        go : (l : Bool) → in_linear_segment r.kseg a ≡ l → told (translate r m.buffer a) ≡ At a.address
        go true l = rw (try-linear r m.buffer a l) (rw e)
        go false l = rw (try-off r m.buffer a l e te)

    answer-linear : is_set r.enable ≡ true → in_linear_segment r.kseg a ≡ true
        → (access_reply m a).outcome ≡ reader_answer (reader_of m) a
    unfolding reader_answer reader_of settings_of first_try told no_exception outcome_of
    answer-linear e l = not-missed (first-missed ∙ rw (e, l)) ∙ rw (try-linear r m.buffer a l) (rw (e, l))

    module _ (en : is_set m.registers.enable ≡ true) (li : in_linear_segment m.registers.kseg a ≡ false) where
      -- the reader's answer is the walk's
      by-walk : reader_answer (reader_of m) a ≡ walk_answer (walk_page m.words r.context vpn) r.ctrl a
      unfolding reader_answer reader_of settings_of reader_walk
      by-walk = rw (en, li)

      answer-hit : (set : ℕ) → set < 4 → set_hits m.buffer (inv_exc r.ctrl) r.context vpn set ≡ true
          → (access_reply m a).outcome ≡ reader_answer (reader_of m) a
      unfolding set_hits hit set_matches first_try walk_answer
      answer-hit set l h =
          not-missed none-missed
          ∙ try-told r m.buffer m.words a en te li inv lc set l seen.1 x.found x.is
          ∙ sym (by-walk ∙ ap (λ (y : Walk). walk_answer y r.ctrl a) x.is)
        where
          seen : (valid_or_inv_exc (inv_exc r.ctrl) (fields_at m.buffer vpn set) ≡ true)
              × (matches_page r.context vpn (fields_at m.buffer vpn set) ≡ true)
          seen = both _ (matches_page r.context vpn (fields_at m.buffer vpn set)) h

          x : LeafFor (walk_page m.words r.context vpn) (fields_at m.buffer vpn set)
          x = page-leaf r m.buffer m.words a en te li inv lc set l seen.1

          none-missed : missed (translate r m.buffer a) ≡ false
          none-missed =
              ap missed (seen-is r m.buffer m.words a en te li inv lc set l seen.1 seen.0) ∙ hit-missed r m.buffer a _ _

      -- after a miss, by what the walk found: the second try is over the loaded buffer
      second : (x : Walk) → walk_page m.words r.context vpn ≡ x
          → (after_miss x (with_cause r a (slot_of a.draw vpn) MISS) m.buffer a).outcome ≡ walk_answer x r.ctrl a
      unfolding after_miss tried_reply told walk_answer registers_loaded buffer_loaded with_cause put to_words from_words
      second (Leaf f) e =
          try-told
          (registers_loaded (with_cause r a (slot_of a.draw vpn) MISS) m.buffer a)
          (loaded_buffer m.buffer r.context vpn a.draw (pack (leaf_entry r.context vpn f)))
          m.words
          a
          en
          te
          li
          (load-keeps m.words m.buffer inv fits r.context vpn a.draw f lc (vpn-lt a.address) ld e)
          lc
          (lowest (set_matches m.buffer r.context vpn) 4 a.draw)
          (load-set-lt m.words m.buffer inv fits r.context vpn a.draw f lc (vpn-lt a.address) ld e)
          (load-matches m.words m.buffer inv fits r.context vpn a.draw f lc (vpn-lt a.address) ld e)
          f
          e
      second (Absent s) e = refl
      second (Broken s) e = refl

      answer-miss : hit_count m.buffer (inv_exc r.ctrl) r.context vpn ≡ 0 → (access_reply m a).outcome ≡ reader_answer (reader_of m) a
      unfolding access_reply first_try walk_for missed exception_answer
      answer-miss h =
          rw (miss-is r m.buffer m.words a en te li h) (second (walk_page m.words r.context vpn) refl ∙ sym by-walk)

      answer-mapped : (access_reply m a).outcome ≡ reader_answer (reader_of m) a
      unfolding hit_count
      answer-mapped =
          ⊎_elim
          (λ none. answer-miss (count_none (set_hits m.buffer (inv_exc r.ctrl) r.context vpn) 4 none))
          (λ some. answer-hit some.0 some.1 some.2)
          (none_or_some (set_hits m.buffer (inv_exc r.ctrl) r.context vpn) 4)

    pub access-answer : (access_reply m a).outcome ≡ reader_answer (reader_of m) a
    access-answer = go (is_set r.enable) refl (in_linear_segment r.kseg a) refl
      where
        go : (e : Bool) → is_set r.enable ≡ e → (l : Bool) → in_linear_segment r.kseg a ≡ l
            → (access_reply m a).outcome ≡ reader_answer (reader_of m) a
        go false p l q = answer-off p
        go true p true q = answer-linear p q
        go true p false q = answer-mapped p q
