-- Each condition of the hit test looks only at the fields that it names, and the search at no others. Assumes nothing.
use Prim.Native.Nat.{ℕ, ◌/◌, ◌%◌, ◌^◌, ◌<◌}
use mathlib.Core.Path.{◌≡◌, refl, sym, ap, ◌∙◌}
use mathlib.Core.Bool.{Bool, ◌&&◌, ◌||◌}
use native.Mathlib.Omega.{arith}
use lib.Dec.{eqb}
use Rattle.runs.specs.Bits.{bits, flag}
use Rattle.runs.proofs.Counts.{count_same, lowest-same}
use Rattle.entry.specs.Address.{vpn15_of, slot_of}
use Rattle.entry.specs.Entry.{unpack}
use Rattle.entry.specs.declared.Entry.{Entry}
use Rattle.slots.specs.Buffer.{Buffer, slot_at}
use Rattle.tlb.specs.Hit.{valid_or_inv_exc, vpn15_matches, id_matches_or_global, matches_page, hit}
use Rattle.tlb.specs.Search.{fields_at, set_hits, hit_count, hit_set}
use Rattle.tlb.specs.Alike.{LooksOnlyAt, ValidAlike, VpnAlike, PidAlike, hit_bits, HitAlike, SameHitBits, SearchedAlike}

-- a condition that can be told by what is looked at
told-by : {A : Type 0} (looked-at : ℕ → A) (condition : Entry → Bool) (by : A → Bool)
    → ((e : ℕ) → condition (unpack e) ≡ by (looked-at e)) → LooksOnlyAt looked-at condition
told-by looked-at condition by told e e' r r' p p' same = p ∙ told e ∙ ap by same ∙ sym (p' ∙ told e')

pub valid-alike : ValidAlike
unfolding valid_or_inv_exc unpack
valid-alike inv-excp = told-by _ (valid_or_inv_exc inv-excp) (λ (valid : Bool). valid || inv-excp) (λ e. refl)

pub vpn-alike : VpnAlike
unfolding vpn15_matches unpack
vpn-alike vpn = told-by _ (vpn15_matches vpn) (λ (tlb-vpn : ℕ). eqb tlb-vpn (vpn15_of vpn)) (λ e. refl)

pub pid-alike : PidAlike
unfolding id_matches_or_global unpack
pid-alike context-pid =
    told-by _ (id_matches_or_global context-pid) (λ (named : ℕ × Bool). eqb named.0 context-pid || named.1) (λ e. refl)

-- the fields that are looked at, out of bits 43 to 21
module _ (e e' : ℕ) (same : hit_bits e ≡ hit_bits e') where
  same-vpn : bits 43 29 e ≡ bits 43 29 e'
  same-vpn = omega arith

  same-pid : bits 28 23 e ≡ bits 28 23 e'
  same-pid = omega arith

  same-global : flag 22 e ≡ flag 22 e'
  same-global = let at : e / 2 ^ 22 % 2 ≡ e' / 2 ^ 22 % 2 = omega arith in ap (λ (n : ℕ). eqb n 1) at

  same-valid : flag 21 e ≡ flag 21 e'
  same-valid = let at : e / 2 ^ 21 % 2 ≡ e' / 2 ^ 21 % 2 = omega arith in ap (λ (n : ℕ). eqb n 1) at

pub hit-alike : HitAlike
unfolding hit matches_page
hit-alike inv-excp context-pid vpn e e' r r' p p' same =
    let valid = valid-alike inv-excp e e' _ _ refl refl (same-valid e e' same) in
    let page = vpn-alike vpn e e' _ _ refl refl (same-vpn e e' same) in
    let id = pid-alike context-pid e e' _ _ refl refl (λ i. (same-pid e e' same i, same-global e e' same i)) in
    p ∙ (λ i. valid i && (page i && id i)) ∙ sym p'

-- the search looks at a slot only through the hit test
module _ (b c : Buffer) (inv-excp : Bool) (context-pid vpn : ℕ) (same : SameHitBits b c vpn) where
  sets-alike : (set : ℕ) → set < 4 → set_hits b inv-excp context-pid vpn set ≡ set_hits c inv-excp context-pid vpn set
  unfolding set_hits fields_at SameHitBits
  sets-alike set l =
      hit-alike inv-excp context-pid vpn (slot_at b (slot_of set vpn)) (slot_at c (slot_of set vpn)) _ _ refl refl (same set l)

  pub hit-count-alike : hit_count b inv-excp context-pid vpn ≡ hit_count c inv-excp context-pid vpn
  unfolding hit_count
  hit-count-alike = count_same (set_hits b inv-excp context-pid vpn) (set_hits c inv-excp context-pid vpn) 4 sets-alike

  pub hit-set-alike : (otherwise : ℕ) → hit_set b inv-excp context-pid vpn otherwise ≡ hit_set c inv-excp context-pid vpn otherwise
  unfolding hit_set
  hit-set-alike otherwise = lowest-same (set_hits b inv-excp context-pid vpn) (set_hits c inv-excp context-pid vpn) 4 otherwise sets-alike

pub searched-alike : SearchedAlike
searched-alike b c inv-excp context-pid vpn otherwise count count' set set' s s' same = (
  s.count-is ∙ hit-count-alike b c inv-excp context-pid vpn same ∙ sym s'.count-is,
  s.set_is ∙ hit-set-alike b c inv-excp context-pid vpn same otherwise ∙ sym s'.set_is,
)
