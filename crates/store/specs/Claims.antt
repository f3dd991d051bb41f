-- What the entry of a slot claims of the tables, before they are walked.
use Rattle.std.specs.Prelude.{ℕ, ◌≤◌, ◌<◌, ◌≡◌, cond, leb}
use Rattle.entry.specs.Address.{PAGES, vpn15_of, vpn_at}
use Rattle.entry.specs.declared.Entry.{Entry}
use Rattle.store.specs.Sweep.{is_empty}
use Rattle.store.specs.declared.Claim.{Claim}
use Rattle.store.specs.declared.Claim.TheVariants.{Nothing, Void, Of}
use Rattle.store.specs.declared.Page.{Page}

-- the page of an entry: "its vpn under that page_id"
unfoldable pub page_of : (slot : ℕ) → Entry → Page
page_of slot f = record { id = f.page_id; vpn = vpn_at slot f.vpn15 }

-- nothing "if it is empty"; a leaf of its page if "its page_id is at most 62"; else what no tables give
unfoldable pub claim_of : (slot : ℕ) → Entry → Claim
claim_of slot f = cond (is_empty slot f) Nothing (cond (leb f.page_id 62) (Of (page_of slot f)) Void)

-- the page is one of an entry's
pub record PageOf (f : Entry) (page : Page) : Type 0 where
  pub id-is : page.id ≡ f.page_id
  pub id-known : page.id ≤ 62
  pub vpn15-is : f.vpn15 ≡ vpn15_of page.vpn
  pub vpn-fits : page.vpn < PAGES
