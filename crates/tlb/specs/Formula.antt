-- The hit test as the reference writes it (section 4.2.2), under its names.
use Rattle.std.specs.Prelude.{ℕ, ◌/◌, ◌^◌, ◌≡◌, Bool, ◌&&◌, ◌||◌, eqb}
use Rattle.runs.specs.Bits.{bits, flag}
use Rattle.entry.specs.Entry.{unpack}
use Rattle.tlb.specs.Hit.{hit}

-- hit = (valid | inv_excp) & (cpu_vpn == tlb_vpn) & ((context_pid == tlb_pid) | global)
unfoldable pub formula : (valid inv-excp : Bool) (cpu-vpn tlb-vpn context-pid tlb-pid : ℕ) (global : Bool) → Bool
formula valid inv-excp cpu-vpn tlb-vpn context-pid tlb-pid global =
    (valid || inv-excp) && eqb cpu-vpn tlb-vpn && (eqb context-pid tlb-pid || global)

-- the formula of an entry's number: valid is bit 21, tlb_vpn bits 43 to 29, tlb_pid bits 28 to 23 and global bit 22
abbrev pub formula_of : (inv-excp : Bool) (cpu-vpn context-pid e : ℕ) → Bool
formula_of inv-excp cpu-vpn context-pid e = formula (flag 21 e) inv-excp cpu-vpn (bits 43 29 e) context-pid (bits 28 23 e) (flag 22 e)

-- The hit test's answer is the formula's. The lower four bits of a page number are the location, and cpu_vpn is the rest.
abbrev pub HitIsFormula : Type 0
HitIsFormula = (inv-excp : Bool) (context-pid vpn e : ℕ) (answer : Bool) → answer ≡ hit inv-excp context-pid vpn (unpack e)
    → answer ≡ formula_of inv-excp (vpn / 2 ^ 4) context-pid e
