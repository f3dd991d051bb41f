-- The slots of a location put back: the bytes are then those of the buffer that the load leaves. Assumes nothing.
use Prim.Native.Nat.{ℕ, zero, suc, ◌+◌, ◌/◌, ◌%◌, ◌^◌, ◌≤◌, ◌<◌}
use mathlib.Core.Path.{◌≡◌, refl, sym, ap, ◌∙◌, subst}
use mathlib.Core.Logic.{◌≢◌, ⊎_elim}
use mathlib.Core.List.{List}
use native.Mathlib.Nat.{eq-or-lt_of_le, le_of_suc-le-suc}
use native.Mathlib.Numerals.{add-one}
use native.Mathlib.Decide.{ℕ_discrete}
use native.Mathlib.Omega.{arith}
use lib.ListN.{length, get_or, set, length-set}
use lib.Seq.{get_or-set_same, get_or-set_other, ext_get_or}
use Rattle.wire.specs.Wire.{with_element, encoded, decoded, AreBytes}
use Rattle.wire.proofs.Elements.{decoded-length, decoded-at, with-length, encoded-set}
use Rattle.wire.proofs.Trips.{back}
use Rattle.runs.specs.Counts.{lowest}
use Rattle.runs.proofs.Counts.{lowest-lt}
use Rattle.entry.specs.Address.{location, vpn_of, slot_of}
use Rattle.entry.specs.Entry.{pack}
use Rattle.entry.proofs.Fields.{slot_lt}
use Rattle.registers.specs.declared.Access.{Access}
use Rattle.registers.specs.declared.Registers.{Registers}
use Rattle.page_table.specs.declared.Found.{Found}
use Rattle.slots.specs.Buffer.{Buffer, with_slot}
use Rattle.slots.specs.Buffer.Buffer.{Wide}
use Rattle.tlb.specs.Load.{set_matches, load_slot, loaded_buffer}
use Rattle.tlb.proofs.Locations.{load-slot-same}
use Rattle.store.specs.Leaf.{leaf_entry}
use Rattle.mmu.specs.ServedAccess.{buffer_loaded}
use Rattle.mmu_c.specs.Runs.{buffer_of, buffer_bytes}
use Rattle.mmu_c.specs.Location.{Fetched, put_back}
use Rattle.mmu_c.proofs.Locations.{slot-inside, fetched-same}

-- the loop that puts back: the slots of the sets below n are written
pub record Putting (numbers first bytes : List ℕ) (vpn n : ℕ) : Type 0 where
  pub in-range : n ≤ 4
  pub long : length bytes ≡ 512
  pub same : bytes ≡ put_back numbers vpn n first

module _ (numbers first : List ℕ) (vpn : ℕ) where
  pub put-none : length first ≡ 512 → Putting numbers first first vpn 0
  unfolding put_back
  put-none e = record { in-range = omega arith; long = e; same = refl }

  pub put-more : (bytes after : List ℕ) (n slot : ℕ) → Putting numbers first bytes vpn n → n < 4 → slot ≡ slot_of n vpn
      → after ≡ with_element 8 bytes slot (get_or numbers slot 0) → Putting numbers first after vpn (n + 1)
  unfolding put_back
  put-more bytes after n slot p l q e = rw (add-one n) (record {
    in-range = l;
    long =
        ap length e
        ∙ with-length 8 bytes slot (get_or numbers slot 0) (omega (arith, p.long, slot-inside n vpn slot q l))
        ∙ p.long;
    same = e ∙ rw (q, p.same);
  })

  pub put_all : (bytes : List ℕ) (n : ℕ) → Putting numbers first bytes vpn n → 4 ≤ n → bytes ≡ put_back numbers vpn 4 first
  put_all bytes n p l =
      let e : n ≡ 4 = omega (arith, p.in-range) in
      p.same ∙ ap (λ (k : ℕ). put_back numbers vpn k first) e

-- a run with another's numbers at the slots of the first n sets
unfoldable into : (numbers : List ℕ) (vpn n : ℕ) (old : List ℕ) → List ℕ
into numbers vpn zero old = old
into numbers vpn (suc n) old = set (into numbers vpn n old) (slot_of n vpn) (get_or numbers (slot_of n vpn) 0)

module _ (numbers old : List ℕ) (vpn : ℕ) (long : length old ≡ 64) where
  into-length : (n : ℕ) → length (into numbers vpn n old) ≡ 64
  unfolding into
  into-length zero = long
  into-length (suc n) = length-set (into numbers vpn n old) (slot_of n vpn) (get_or numbers (slot_of n vpn) 0) ∙ into-length n

  into-other : (n i : ℕ) → ((j : ℕ) → j < n → i ≢ slot_of j vpn) → get_or (into numbers vpn n old) i 0 ≡ get_or old i 0
  unfolding into
  into-other zero i h = refl
  into-other (suc n) i h =
      get_or-set_other (into numbers vpn n old) (slot_of n vpn) i (get_or numbers (slot_of n vpn) 0) 0 (h n (omega arith))
      ∙ into-other n i (λ j l. h j (omega arith))

  into-at : (n j : ℕ) → n ≤ 4 → j < n → get_or (into numbers vpn n old) (slot_of j vpn) 0 ≡ get_or numbers (slot_of j vpn) 0
  unfolding into slot_of
  into-at zero j m l = absurd (omega arith)
  into-at (suc n) j m l = ⊎_elim here (λ (k : j < n). there k (into-at n j (omega arith) k)) (eq-or-lt_of_le (le_of_suc-le-suc l))
    where
      room : slot_of n vpn < length (into numbers vpn n old)
      room = subst (λ (k : ℕ). slot_of n vpn < k) (sym (into-length n)) (slot_lt n vpn (omega arith))

      here : j ≡ n → get_or (into numbers vpn (suc n) old) (slot_of j vpn) 0 ≡ get_or numbers (slot_of j vpn) 0
      here e = rw e (get_or-set_same (into numbers vpn n old) (slot_of n vpn) (get_or numbers (slot_of n vpn) 0) 0 room)

      there : j < n → get_or (into numbers vpn n old) (slot_of j vpn) 0 ≡ get_or numbers (slot_of j vpn) 0
          → get_or (into numbers vpn (suc n) old) (slot_of j vpn) 0 ≡ get_or numbers (slot_of j vpn) 0
      there k ih =
          get_or-set_other (into numbers vpn n old) (slot_of n vpn) (slot_of j vpn) (get_or numbers (slot_of n vpn) 0) 0 (λ e. omega arith) ∙ ih

  -- the run that has these numbers at the location's slots and the old ones elsewhere
  into-is : (new : List ℕ) → length new ≡ 64 → ((j : ℕ) → j < 4 → get_or new (slot_of j vpn) 0 ≡ get_or numbers (slot_of j vpn) 0)
      → ((i : ℕ) → ((j : ℕ) → j < 4 → i ≢ slot_of j vpn) → get_or new i 0 ≡ get_or old i 0) → into numbers vpn 4 old ≡ new
  unfolding slot_of location
  into-is new e inside outside =
      ext_get_or 0 (into numbers vpn 4 old) new (into-length 4 ∙ sym e) (λ i l. each i (subst (λ (k : ℕ). i < k) (into-length 4) l))
    where
      each : (i : ℕ) → i < 64 → get_or (into numbers vpn 4 old) i 0 ≡ get_or new i 0
      each i l = elim (ℕ_discrete (i % 16) (location vpn)) [ yes q ↦ there q | no d ↦ elsewhere d ]
        where
          there : i % 16 ≡ location vpn → get_or (into numbers vpn 4 old) i 0 ≡ get_or new i 0
          there q =
              let s : i ≡ slot_of (i / 16) vpn = omega arith in
              subst (λ (k : ℕ). get_or (into numbers vpn 4 old) k 0 ≡ get_or new k 0) (sym s)
              (into-at 4 (i / 16) (omega arith) (omega arith) ∙ sym (inside (i / 16) (omega arith)))

          elsewhere : (i % 16 ≡ location vpn → ⊥) → get_or (into numbers vpn 4 old) i 0 ≡ get_or new i 0
          elsewhere d = into-other 4 i away ∙ sym (outside i away)
            where
              away : (j : ℕ) → j < 4 → i ≢ slot_of j vpn
              away j k s = d (omega arith)

module _ (bytes : List ℕ) (are : AreBytes bytes) (room : length bytes ≡ 512) where
  -- bytes that nothing is put into
  pub bytes_back : buffer_bytes (buffer_of bytes) ≡ bytes
  unfolding buffer_bytes buffer_of
  bytes_back = back 8 bytes 64 are room

  -- what is put into the bytes is put into their numbers
  back-into : (numbers : List ℕ) (vpn n : ℕ) → n ≤ 4 → put_back numbers vpn n bytes ≡ encoded 8 (into numbers vpn n (decoded 8 bytes 64))
  unfolding put_back into
  back-into numbers vpn zero l = sym (back 8 bytes 64 are room)
  back-into numbers vpn (suc n) l =
      let k : slot_of n vpn < length (into numbers vpn n (decoded 8 bytes 64)) =
      subst (λ (m : ℕ). slot_of n vpn < m) (sym (into-length numbers (decoded 8 bytes 64) vpn (decoded-length 8 bytes 64) n))
      (slot_lt n vpn (omega arith)) in
      rw (back-into numbers vpn n (omega arith))
      (sym (encoded-set 8 (into numbers vpn n (decoded 8 bytes 64)) (slot_of n vpn) (get_or numbers (slot_of n vpn) 0) k))

-- runs that agree in the location's slots
module _ (old run : List ℕ) (vpn : ℕ) (long : length old ≡ 64) (long' : length run ≡ 64)
    (same : (j : ℕ) → j < 4 → get_or run (slot_of j vpn) 0 ≡ get_or old (slot_of j vpn) 0) where
  -- one number was stored in the run, at a slot of the location
  into_one : (m slot x : ℕ) → m < 4 → slot ≡ slot_of m vpn → into (set run slot x) vpn 4 old ≡ set old slot x
  into_one m slot x k q =
      into-is (set run slot x) old vpn long (set old slot x) (length-set old slot x ∙ long) each
      (λ i h. get_or-set_other old slot i x 0 (λ e. h m k (e ∙ q)))
    where
      inside : (xs : List ℕ) → length xs ≡ 64 → slot < length xs
      inside xs e = rw (e, q) (slot_lt m vpn k)

      each : (j : ℕ) → j < 4 → get_or (set old slot x) (slot_of j vpn) 0 ≡ get_or (set run slot x) (slot_of j vpn) 0
      each j l = elim (ℕ_discrete (slot_of j vpn) slot) [ yes e ↦ here e | no d ↦ there d ]
        where
          here : slot_of j vpn ≡ slot → get_or (set old slot x) (slot_of j vpn) 0 ≡ get_or (set run slot x) (slot_of j vpn) 0
          here e = rw e (get_or-set_same old slot x 0 (inside old long) ∙ sym (get_or-set_same run slot x 0 (inside run long')))

          there : (slot_of j vpn ≡ slot → ⊥) → get_or (set old slot x) (slot_of j vpn) 0 ≡ get_or (set run slot x) (slot_of j vpn) 0
          there d = get_or-set_other old slot (slot_of j vpn) x 0 d ∙ sym (same j l) ∙ sym (get_or-set_other run slot (slot_of j vpn) x 0 d)

abbrev numbers_of : Buffer → List ℕ
numbers_of (Wide numbers) = numbers

-- the load of a leaf, on the run and on the bytes' buffer
module _ (r : Registers) (bytes run : List ℕ) (a : Access) (f : Fetched bytes run (vpn_of a.address)) (room : length bytes ≡ 512)
    (l : a.draw < 4) where
  abbrev vpn : ℕ
  vpn = vpn_of a.address

  abbrev old : List ℕ
  old = decoded 8 bytes 64

  same : (j : ℕ) → j < 4 → get_or run (slot_of j vpn) 0 ≡ get_or old (slot_of j vpn) 0
  same j k = f.each j k ∙ sym (decoded-at 8 bytes 64 (slot_of j vpn) (slot_lt j vpn k))

  loaded : (g : Found) (after : List ℕ) → Wide after ≡ buffer_loaded r (Wide run) a g
      → Wide (into after vpn 4 old) ≡ buffer_loaded r (buffer_of bytes) a g
  unfolding buffer_loaded loaded_buffer with_slot buffer_of load_slot
  loaded g after q =
      ap Wide
      (ap (λ (ns : List ℕ). into ns vpn 4 old) (ap numbers_of q)
      ∙ into_one old run vpn (decoded-length 8 bytes 64) f.long same
      (lowest (set_matches (Wide run) r.context vpn) 4 a.draw) _ _
      (lowest-lt (set_matches (Wide run) r.context vpn) 4 a.draw l) refl
      ∙ ap (λ (k : ℕ). set old k (pack (leaf_entry r.context vpn g) % 2 ^ 44))
      (load-slot-same (Wide run) (buffer_of bytes) vpn (fetched-same bytes run vpn f) r.context a.draw))

  pub put-back : (g : Found) (after : List ℕ) → Wide after ≡ buffer_loaded r (Wide run) a g
      → put_back after vpn 4 bytes ≡ buffer_bytes (buffer_loaded r (buffer_of bytes) a g)
  unfolding buffer_bytes
  put-back g after q = back-into bytes f.are-bytes room after vpn 4 (omega arith) ∙ ap buffer_bytes (loaded g after q)
