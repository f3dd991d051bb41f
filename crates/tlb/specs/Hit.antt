-- Hit: (valid or inv_exc), and vpn15 equal, and (page_id equal to the context or global).
use Rattle.std.specs.Prelude.{ℕ, Bool, ◌&&◌, ◌||◌, eqb}
use Rattle.entry.specs.Address.{vpn15_of}
use Rattle.entry.specs.declared.Entry.{Entry}

unfoldable pub valid_or_inv_exc : (inv-exc : Bool) → Entry → Bool
valid_or_inv_exc inv-exc f = f.valid || inv-exc

unfoldable pub vpn15_matches : (vpn : ℕ) → Entry → Bool
vpn15_matches vpn f = eqb f.vpn15 (vpn15_of vpn)

unfoldable pub id_matches_or_global : (context : ℕ) → Entry → Bool
id_matches_or_global context f = eqb f.page_id context || f.global

-- the second and the third condition: the entry is this page's, whatever its valid bit
unfoldable pub matches_page : (context vpn : ℕ) → Entry → Bool
matches_page context vpn f = vpn15_matches vpn f && id_matches_or_global context f

unfoldable pub hit : (inv-exc : Bool) (context vpn : ℕ) → Entry → Bool
hit inv-exc context vpn f = valid_or_inv_exc inv-exc f && matches_page context vpn f
