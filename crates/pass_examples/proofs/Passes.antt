-- What an accepted pass answers and leaves. Assumes nothing.
use Prim.Native.Nat.{ℕ}
use mathlib.Core.Path.{◌≡◌, refl, ap, ap₂, ◌∙◌}
use mathlib.Core.List.{List, [], ◌∷◌}
use lib.ListN.{length, set}
use Rattle.runs.specs.Bits.{with_flag}
use Rattle.runs.specs.Counts.{all, count}
use Rattle.entry.specs.Address.{location, vpn15_of, set_of, vpn_at}
use Rattle.entry.specs.Entry.{unpack, join, low_bits, pack, same_low, same_entry}
use Rattle.entry.specs.Empty.{empty_fields, empty_entry}
use Rattle.registers.specs.Fields.{to_words, from_words, field, widths, fits_at, registers_fit, zero_registers}
use Rattle.registers.specs.Refusals.{refuse_unless, by_refusal}
use Rattle.registers.specs.Replies.{done}
use Rattle.page_table.specs.Words.{present, reserved, number, leaf_valid, leaf_kernel, leaf_we, leaf_pfn}
use Rattle.page_table.specs.Stretches.{length_fits, tables_fit, stretch_size, index_in, inside, broken}
use Rattle.page_table.specs.Walk.{leaf_at, stop_at, index_below, descend, walk_tree, global_first, walk_page}
use Rattle.slots.specs.Buffer.{buffer_fits, slot_at, with_slot}
use Rattle.slots.specs.Start.{empty_first, start_buffer}
use Rattle.store.specs.Leaf.{leaf_entry}
use Rattle.store.specs.Sweep.{is_empty, agrees_with_leaf, agrees_with_tables, kept, kept_at, settled, swept_slot, swept_first, swept, emptied}
use Rattle.store.specs.Rewrite.{Put, written}
use Rattle.store.specs.Scan.{put_at}
use Rattle.store.specs.TableStore.{index_fits, store_refusal, stored_words, store_reply, buffer_after_store, words_after_store}
use Rattle.store.specs.Stores.{done_of, after_store, after_stores, emptied_in}
use Rattle.heap.specs.Bits.{held_at, with_held}
use Rattle.heap.specs.Pools.{frames_fit, pool_fits, holds, pool_with}
use Rattle.heap.specs.Give.{give_refusal, given_pool, give_reply}
use Rattle.collector.specs.Visits.{aged, pass_leaves, aged_puts}
use Rattle.collector.specs.Frames.{given_of, pool_after_gives}
use Rattle.collector.specs.Collect.{visited_by, stores_of, refused_collect, collect_answer, buffer_after_collect, words_after_collect}
use Rattle.collector.specs.declared.Collected.{Collected}
use Rattle.pass_examples.specs.Scene.{tree, pages, three-pages, frames, two-held, empty, loaded, lent}
use Rattle.pass_examples.specs.Passes.{OnePass}
use Rattle.pass_examples.proofs.Trees.{visits}
use Rattle.pass_examples.proofs.Refusals.{accepted}

-- the two stores
abbrev made : List Put
made = put_at 1024 0x9FF80064 ∷ put_at 1025 0x10000065 ∷ []

puts : aged_puts (pass_leaves three-pages 100 3 5) ≡ made
unfolding aged_puts aged leaf_valid with_flag
puts = ap aged_puts visits

-- what is left, with the slots emptied
pub record Left : Type 0 where
  pub empties : emptied_in (lent three-pages) made ≡ 1
  pub sweeps : (after_stores (lent three-pages) made).buffer ≡ empty
  pub writes : (after_stores (lent three-pages) made).words ≡ set (set three-pages 1024 0x9FF80064) 1025 0x10000065

stores : Left
unfolding emptied_in done_of after_stores after_store store_reply buffer_after_store words_after_store stored_words store_refusal index_fits
    refuse_unless by_refusal registers_fit all fits_at field to_words from_words widths zero_registers buffer_fits tables_fit length_fits
    emptied count kept_at kept is_empty agrees_with_tables agrees_with_leaf swept swept_first swept_slot settled written slot_at with_slot
    unpack pack join low_bits same_low same_entry empty_fields empty_entry set_of location vpn15_of vpn_at leaf_entry leaf_valid leaf_kernel
    leaf_we leaf_pfn walk_page global_first walk_tree descend leaf_at stop_at index_below index_in stretch_size present broken inside reserved
    number lent loaded empty start_buffer empty_first three-pages pages tree
stores = record { empties = refl; sweeps = refl; writes = refl }

-- the answer, by the slots emptied
abbrev answer : (slots : ℕ) → Collected
answer slots = record { reply = done zero_registers slots; given = 1; pool = frames 0xFFF9 }

answers : collect_answer (lent three-pages) two-held 5 ≡ answer 1
unfolding collect_answer visited_by stores_of lent two-held frames given_of leaf_valid leaf_pfn pool_after_gives give_reply give_refusal refuse_unless
    by_refusal pool_fits frames_fit holds held_at given_pool pool_with with_held aged_puts aged with_flag
answers =
    ap₂
    (λ (n : ℕ) (ls : List Put).
    by_refusal n
    (record {
      reply = done zero_registers (emptied_in (lent three-pages) (aged_puts ls));
      given = length (given_of ls);
      pool = pool_after_gives two-held (given_of ls);
    })
    (refused_collect zero_registers n two-held)) accepted visits
    ∙ ap answer stores.empties

buffer-left : buffer_after_collect (lent three-pages) two-held 5 ≡ empty
unfolding buffer_after_collect visited_by stores_of by_refusal two-held frames lent
buffer-left =
    ap₂ (λ (n : ℕ) (ps : List Put). by_refusal n (after_stores (lent three-pages) ps).buffer loaded) accepted puts ∙ stores.sweeps

words_left : words_after_collect (lent three-pages) two-held 5 ≡ set (set three-pages 1024 0x9FF80064) 1025 0x10000065
unfolding words_after_collect visited_by stores_of by_refusal two-held frames lent
words_left =
    ap₂ (λ (n : ℕ) (ps : List Put). by_refusal n (after_stores (lent three-pages) ps).words three-pages) accepted puts ∙ stores.writes

pub one-pass : OnePass
one-pass = record { visited = visits; stored = puts; answered = answers; swept = buffer-left; left = words_left }
