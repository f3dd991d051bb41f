-- Every example of a C host's bytes and answers holds, computed from the definitions. Assumes nothing.
use mathlib.Core.Path.{◌≡◌, refl}
use Rattle.runs.specs.Counts.{all, count, lowest}
use Rattle.entry.specs.Address.{vpn_of, offset_of, location, vpn15_of, slot_of, set_of, vpn_at}
use Rattle.entry.specs.Entry.{unpack, join, low_bits, pack, same_low, same_entry}
use Rattle.entry.specs.Empty.{empty_fields, empty_entry}
use Rattle.registers.specs.Fields.{to_words, from_words, field, put, widths, fits_at, registers_fit, zero_registers}
use Rattle.registers.specs.Refusals.{refuse_unless, by_refusal, draw_fits}
use Rattle.page_table.specs.Words.{present, reserved, number, leaf_valid, leaf_kernel, leaf_we, leaf_pfn}
use Rattle.page_table.specs.Stretches.{stretch_size, index_in, inside, broken}
use Rattle.page_table.specs.Walk.{leaf_at, stop_at, index_below, descend, walk_tree, global_first, walk_page}
use Rattle.page_table.specs.Faults.{stop_place, walk_fault}
use Rattle.slots.specs.Buffer.{slot_at, with_slot}
use Rattle.slots.specs.Start.{empty_first, start_buffer}
use Rattle.tlb.specs.Hit.{valid_or_inv_exc, vpn15_matches, id_matches_or_global, matches_page, hit}
use Rattle.tlb.specs.Search.{fields_at, set_hits, hit_count, hit_set}
use Rattle.tlb.specs.Load.{set_matches, load_slot, loaded_buffer}
use Rattle.access.specs.Segments.{segment_of, in_linear_segment, nibble, segment_base, linear_address}
use Rattle.access.specs.Exceptions.{inv_exc, acc_exc, we_exc, write_error, access_violation, invalid_page, exception_value}
use Rattle.access.specs.Translation.{page_address, is_set, no_exception, with_cause, exception_address, interrupts, exception_answer, hit_value}
use Rattle.access.specs.Translation.{on_hit, by_hit_count, found_set, page_mapped, translate}
use Rattle.store.specs.Leaf.{leaf_entry}
use Rattle.store.specs.Sweep.{is_empty, agrees_with_leaf, agrees_with_tables, kept, kept_at, settled, swept_slot, swept_first, swept, emptied}
use Rattle.store.specs.Rewrite.{written}
use Rattle.store.specs.TableStore.{index_fits}
use Rattle.control.specs.Setting.{is_guarded, switch_fits, argument_refusal}
use Rattle.mmu.specs.ServedAccess.{may_be_served, outcome_of, tried_reply, missed, loaded_at, registers_loaded, buffer_loaded}
use Rattle.mmu.specs.ServedAccess.{after_miss, buffer_after_miss, first_try, walk_for, access_reply, access_buffer}
use Rattle.wire.specs.Wire.{bytes_of, number_at, element_at, with_element, encoded, decoded}
use Rattle.table_bytes.specs.TableBytes.{words_of}
use Rattle.mmu_c.specs.Runs.{registers_of, register_bytes, buffer_of, buffer_bytes, registers_long, registers_taken, buffer_taken, length_taken}
use Rattle.mmu_c.specs.Runs.{tables_taken, machine_of}
use Rattle.mmu_c.specs.Answers.{refusal_answer, access_answer, raw_answer, translation_answer, outcome_answer, reply_answer}
use Rattle.mmu_c.specs.RawAccess.{raw_refusal, translation, raw_number, raw_registers}
use Rattle.mmu_c.specs.ServedAccess.{served_refusal, served_reply, served_buffer, served_number, served_registers, served_bytes}
use Rattle.mmu_c.specs.TableStore.{store_refusal, stored_words, store_number, store_bytes, store_tables}
use Rattle.mmu_c.specs.Start.{start_refusal, start_number, start_registers, start_bytes}
use Rattle.mmu_c.specs.GuardedSetting.{setting_refusal, setting_number, setting_registers}
use Rattle.hosts.specs.HostCalls.{host_accepts, host_refusal}
use Rattle.hosts.specs.Hosts.{bytes_after}
use Rattle.hosts.specs.Asking.{call_with, event_with, raw_event_with, run_of}
use Rattle.examples.specs.Claims.{Values, all_computed, all_owed}
use Rattle.examples.specs.Scene.{user, supervisor}
use Rattle.examples.specs.HostBytes.{word, slot, zeros, times, eleven_bytes, eleven, slot_bytes, root_bytes, layout, answers}
use Rattle.examples.specs.HostBytes.{dirty_registers, dirty_buffer, empty_bytes, set_bytes, settings_made, missed_bytes, leaf_bytes, host_calls}
use Rattle.examples.specs.HostBytes.{longer, lengths, started, asks, answers_of, runs, host_bytes}

pub host-bytes-hold : all_computed host_bytes ≡ all_owed host_bytes
unfolding all count lowest vpn_of offset_of location vpn15_of slot_of set_of unpack join low_bits pack empty_fields empty_entry to_words from_words
    field put widths fits_at registers_fit zero_registers refuse_unless by_refusal draw_fits present reserved number leaf_valid leaf_kernel leaf_we
    leaf_pfn stretch_size index_in inside broken leaf_at stop_at index_below descend walk_tree global_first walk_page stop_place walk_fault slot_at
    with_slot empty_first start_buffer valid_or_inv_exc vpn15_matches id_matches_or_global matches_page hit fields_at set_hits hit_count hit_set set_matches
    load_slot loaded_buffer segment_of in_linear_segment nibble segment_base linear_address inv_exc acc_exc we_exc write_error access_violation
    invalid_page exception_value page_address is_set no_exception with_cause exception_address interrupts exception_answer hit_value on_hit by_hit_count
    found_set page_mapped translate leaf_entry index_fits is_guarded switch_fits argument_refusal may_be_served outcome_of tried_reply missed loaded_at
    registers_loaded buffer_loaded after_miss buffer_after_miss first_try walk_for access_reply access_buffer bytes_of number_at element_at with_element
    encoded decoded words_of registers_of register_bytes buffer_of buffer_bytes registers_long registers_taken buffer_taken length_taken tables_taken
    machine_of refusal_answer access_answer raw_answer translation_answer outcome_answer reply_answer raw_refusal translation raw_number raw_registers
    served_refusal served_reply served_buffer served_number served_registers served_bytes store_refusal store_number store_tables start_refusal
    start_number start_registers start_bytes setting_refusal setting_number setting_registers Values all_computed all_owed user supervisor word slot
    zeros times eleven_bytes eleven slot_bytes root_bytes layout answers dirty_registers dirty_buffer empty_bytes set_bytes settings_made missed_bytes
    leaf_bytes host_calls longer lengths started asks answers_of runs host_bytes is_empty agrees_with_leaf agrees_with_tables kept kept_at settled swept_slot
    swept_first swept emptied written stored_words store_bytes call_with event_with raw_event_with run_of bytes_after host_accepts host_refusal same_low
    same_entry vpn_at
host-bytes-hold = refl
