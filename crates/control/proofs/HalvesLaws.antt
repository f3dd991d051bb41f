-- Laws of an entry as TLB_HI and TLB_LO have it. Assumes nothing.
use Prim.Native.Nat.{ℕ, ◌+◌, ◌*◌, ◌%◌, ◌^◌, ◌<◌}
use mathlib.Core.Path.{◌≡◌, ap, ◌∙◌}
use native.Mathlib.Omega.{arith}
use Rattle.runs.specs.Bits.{bits}
use Rattle.entry.specs.Address.{location, vpn_at}
use Rattle.entry.specs.Entry.{unpack, join}
use Rattle.entry.proofs.Fields.{unpack-fits}
use Rattle.control.specs.Halves.{hi_of, lo_of, entry_from}

-- a vpn and a page_id in TLB_HI, taken out again
module _ (slot vpn15 page-id : ℕ) (p : page-id < 2 ^ 6) where
  page-id-out : bits 5 0 (vpn_at slot vpn15 * 64 + page-id) ≡ page-id
  unfolding vpn_at
  page-id-out = omega arith

  vpn-out : vpn15 < 2 ^ 15 → bits 24 6 (vpn_at slot vpn15 * 64 + page-id) ≡ vpn_at slot vpn15
  unfolding vpn_at
  vpn-out v = omega arith

  vpn15-out : vpn15 < 2 ^ 15 → bits 24 10 (vpn_at slot vpn15 * 64 + page-id) ≡ vpn15
  unfolding vpn_at
  vpn15-out v = omega arith

-- the parts that the code takes are within their bits, and make up TLB_HI
module _ (e vpn15 page-id : ℕ) (v : vpn15 ≡ (unpack e).vpn15) (p : page-id ≡ (unpack e).page_id) where
  pub parts-lt : (vpn15 < 2 ^ 15) × (page-id < 2 ^ 6)
  parts-lt = let f = unpack-fits e in (omega (arith, v, f.vpn15-fits), omega (arith, p, f.page-id-fits))

  pub hi-is : (slot : ℕ) → (16 * vpn15 + slot % 16) * 64 + page-id ≡ hi_of slot e
  unfolding hi_of vpn_at
  hi-is slot = rw (v, p)

pub hi-lt : (slot e : ℕ) → hi_of slot e < 2 ^ 25
unfolding hi_of vpn_at
hi-lt slot e = let f = unpack-fits e in omega (arith, f.vpn15-fits, f.page-id-fits)

pub lo-lt : (e : ℕ) → lo_of e < 2 ^ 23
unfolding lo_of
lo-lt e = omega arith

-- the vpn has the slot's location
at-mod : (slot vpn15 : ℕ) → vpn_at slot vpn15 % 16 ≡ slot % 16
unfolding vpn_at
at-mod slot vpn15 = omega arith

pub hi-location : (slot e : ℕ) → location (bits 24 6 (hi_of slot e)) ≡ slot % 16
unfolding hi_of location
hi-location slot e =
    let f = unpack-fits e in
    ap (λ (n : ℕ). n % 16) (vpn-out slot (unpack e).vpn15 (unpack e).page_id f.page-id-fits f.vpn15-fits)
    ∙ at-mod slot (unpack e).vpn15

-- put together again they are the entry
joined : (e : ℕ) → e < 2 ^ 44 → join (unpack e).vpn15 (unpack e).page_id (bits 22 0 e) ≡ e
unfolding unpack join
joined e l = omega arith

pub entry-back : (slot e : ℕ) → e < 2 ^ 44 → entry_from (hi_of slot e) (lo_of e) ≡ e
unfolding hi_of lo_of entry_from
entry-back slot e l =
    let f = unpack-fits e in
    rw (
      vpn15-out slot (unpack e).vpn15 (unpack e).page_id f.page-id-fits f.vpn15-fits,
      page-id-out slot (unpack e).vpn15 (unpack e).page_id f.page-id-fits,
    ) (joined e l)

-- of an entry that is put together, TLB_HI has its vpn15, the slot's location and its page_id, and TLB_LO the rest
module _ (slot hi lo : ℕ) (l : lo < 2 ^ 23) where
  pub hi-from : hi_of slot (entry_from hi lo) ≡ (bits 24 10 hi * 16 + slot % 16) * 64 + bits 5 0 hi
  unfolding hi_of entry_from unpack join vpn_at
  hi-from = omega arith

  pub lo-from : lo_of (entry_from hi lo) ≡ lo
  unfolding lo_of entry_from join
  lo-from = omega arith
