-- Laws of the hit test and of the search, over any set below 4. Assumes nothing.
use Prim.Native.Nat.{ℕ, ◌<◌}
use mathlib.Core.Path.{◌≡◌, sym, ◌∙◌}
use mathlib.Core.Bool.{Bool, true, ◌&&◌, or-true, and_assoc}
use lib.Dec.{eqb}
use borrow.Author.Tests.{eqb-true, eq-eqb}
use Rattle.runs.proofs.Bools.{same_test}
use Rattle.runs.proofs.Counts.{lowest-lt}
use Rattle.entry.specs.Address.{slot_of}
use Rattle.entry.specs.Entry.{unpack}
use Rattle.entry.specs.declared.Entry.{Entry}
use Rattle.slots.specs.Buffer.{Buffer, slot_at}
use Rattle.tlb.specs.Hit.{valid_or_inv_exc, vpn15_matches, id_matches_or_global, matches_page, hit}
use Rattle.tlb.specs.Search.{fields_at, set_hits, hit_set, Searched}

-- a comparison with its sides exchanged, one of them known as n
pub compared : (a : ℕ) {b n : ℕ} → b ≡ n → eqb a b ≡ eqb n a
compared a {b} {n} q =
    same_test (eqb a b) (eqb n a) (λ h. eq-eqb n a (sym (eqb-true a b h ∙ q))) (λ h. eq-eqb a b (sym (q ∙ eqb-true n a h)))

-- the three conditions, joined in the formula's order
pub joined : (inv-exc : Bool) (context vpn : ℕ) (f : Entry) (valid page id : Bool) → valid ≡ valid_or_inv_exc inv-exc f
    → page ≡ vpn15_matches vpn f → id ≡ id_matches_or_global context f → valid && page && id ≡ hit inv-exc context vpn f
unfolding hit matches_page
joined inv-exc context vpn f valid page id p q r = and_assoc valid page id ∙ (λ i. p i && (q i && r i))

-- with inv_exc on, an entry hits exactly where it is the page's, whatever its valid bit
pub hit-inv : (context vpn : ℕ) (f : Entry) → hit true context vpn f ≡ matches_page context vpn f
unfolding hit valid_or_inv_exc
hit-inv context vpn f = rw (or-true f.valid)

-- one turn of the search, by what the functions that it calls gave
pub set_told : (b : Buffer) (inv-exc : Bool) (context vpn set slot e : ℕ) (t : Bool) → slot ≡ slot_of set vpn → e ≡ slot_at b slot
    → t ≡ hit inv-exc context vpn (unpack e) → set_hits b inv-exc context vpn set ≡ t
unfolding set_hits fields_at
set_told b inv-exc context vpn set slot e t p q h = sym (h ∙ rw (q, p))

-- the set that a search answers is one of the four
pub searched-lt : {b : Buffer} {inv-exc : Bool} {context vpn otherwise count set : ℕ} → Searched b inv-exc context vpn otherwise count set
    → otherwise < 4 → set < 4
unfolding hit_set
searched-lt {b} {inv-exc} {context} {vpn} {otherwise} s l =
    rw s.set_is (lowest-lt (set_hits b inv-exc context vpn) 4 otherwise l)
