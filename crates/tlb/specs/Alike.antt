-- Which bits of an entry's number each condition of the hit test looks at: numbers that agree in them are answered alike.
use Rattle.std.specs.Prelude.{ℕ, ◌<◌, ◌≡◌, Bool}
use Rattle.runs.specs.Bits.{bits, flag}
use Rattle.entry.specs.Address.{slot_of}
use Rattle.entry.specs.Entry.{unpack}
use Rattle.entry.specs.declared.Entry.{Entry}
use Rattle.slots.specs.Buffer.{Buffer, slot_at}
use Rattle.tlb.specs.Hit.{valid_or_inv_exc, vpn15_matches, id_matches_or_global, hit}
use Rattle.tlb.specs.Search.{Searched}

-- Two numbers that agree in what is looked at get the same answers, r and r', from a condition, whatever their other bits.
abbrev pub LooksOnlyAt : {A : Type 0} → (looked-at : ℕ → A) (condition : Entry → Bool) → Type 0
LooksOnlyAt looked-at condition =
    (e e' : ℕ) (r r' : Bool) → r ≡ condition (unpack e) → r' ≡ condition (unpack e') → looked-at e ≡ looked-at e' → r ≡ r'

-- valid | inv_excp looks at bit 21
abbrev pub ValidAlike : Type 0
ValidAlike = (inv-excp : Bool) → LooksOnlyAt (flag 21) (valid_or_inv_exc inv-excp)

-- cpu_vpn == tlb_vpn looks at bits 43 to 29
abbrev pub VpnAlike : Type 0
VpnAlike = (vpn : ℕ) → LooksOnlyAt (bits 43 29) (vpn15_matches vpn)

-- (context_pid == tlb_pid) | global looks at bits 28 to 23 and at bit 22
abbrev pub PidAlike : Type 0
PidAlike = (context-pid : ℕ) → LooksOnlyAt {A = ℕ × Bool} (λ e. (bits 28 23 e, flag 22 e)) (id_matches_or_global context-pid)

-- so the hit test looks at bits 43 to 21, and not at kernel, we and pfn, which are bits 20 to 0, nor at bits 44 and up
abbrev pub hit_bits : (e : ℕ) → ℕ
hit_bits e = bits 43 21 e

abbrev pub HitAlike : Type 0
HitAlike = (inv-excp : Bool) (context-pid vpn : ℕ) → LooksOnlyAt hit_bits (hit inv-excp context-pid vpn)

-- two buffers agree in these bits of the slots of a page's location
unfoldable pub SameHitBits : (b c : Buffer) (vpn : ℕ) → Type 0
SameHitBits b c vpn = (set : ℕ) → set < 4 → hit_bits (slot_at b (slot_of set vpn)) ≡ hit_bits (slot_at c (slot_of set vpn))

-- such buffers are searched alike
abbrev pub SearchedAlike : Type 0
SearchedAlike = (b c : Buffer) (inv-excp : Bool) (context-pid vpn otherwise count count' set set' : ℕ)
    → Searched b inv-excp context-pid vpn otherwise count set → Searched c inv-excp context-pid vpn otherwise count' set'
    → SameHitBits b c vpn → (count ≡ count') × (set ≡ set')
