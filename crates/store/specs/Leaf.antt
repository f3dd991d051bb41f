-- A leaf of the page tables as an entry of the buffer.
use Rattle.std.specs.Prelude.{ℕ}
use Rattle.entry.specs.Address.{vpn15_of}
use Rattle.entry.specs.declared.Entry.{Entry}
use Rattle.page_table.specs.Words.{leaf_valid, leaf_kernel, leaf_we, leaf_pfn}
use Rattle.page_table.specs.declared.Found.{Found}

-- the entry of a page under an identification: its vpn15, the page_id, and the leaf's fields
unfoldable pub leaf_entry : (id vpn : ℕ) → Found → Entry
leaf_entry id vpn f = record {
  vpn15 = vpn15_of vpn;
  page_id = id;
  global = f.global;
  valid = leaf_valid f.word;
  kernel = leaf_kernel f.word;
  we = leaf_we f.word;
  pfn = leaf_pfn f.word;
}
