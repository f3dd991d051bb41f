-- Every example holds, computed from the definitions. Assumes nothing.
use mathlib.Core.Path.{◌≡◌, refl}
use Rattle.runs.specs.Bits.{with_flag}
use Rattle.runs.specs.Counts.{all, count, lowest}
use Rattle.entry.specs.Address.{vpn_of, offset_of, location, vpn15_of, slot_of, set_of, vpn_at}
use Rattle.entry.specs.Entry.{unpack, join, low_bits, pack, same_low, same_entry}
use Rattle.entry.specs.Empty.{empty_fields, empty_entry}
use Rattle.registers.specs.Fields.{to_words, from_words, field, put, widths, fits_at, registers_fit, zero_registers}
use Rattle.registers.specs.Refusals.{refuse_unless, refused_or, by_refusal, draw_fits}
use Rattle.page_table.specs.Words.{present, reserved, number, leaf_valid, leaf_kernel, leaf_we, leaf_pfn}
use Rattle.page_table.specs.Stretches.{length_fits, tables_fit, stretch_size, index_in, inside, broken}
use Rattle.page_table.specs.Walk.{leaf_at, stop_at, index_below, descend, walk_tree, global_first, walk_page}
use Rattle.page_table.specs.Faults.{stop_place, walk_fault, fault_kind, fault_level, fault_global}
use Rattle.slots.specs.Buffer.{buffer_fits, slot_at, with_slot}
use Rattle.slots.specs.Start.{empty_first, start_buffer}
use Rattle.tlb.specs.Hit.{valid_or_inv_exc, vpn15_matches, id_matches_or_global, matches_page, hit}
use Rattle.tlb.specs.Search.{fields_at, set_hits, hit_count, hit_set}
use Rattle.tlb.specs.Load.{set_matches, load_slot, loaded_buffer}
use Rattle.access.specs.Segments.{segment_of, in_linear_segment, nibble, segment_base, linear_address}
use Rattle.access.specs.Exceptions.{inv_exc, acc_exc, we_exc, write_error, access_violation, invalid_page, exception_value}
use Rattle.access.specs.Translation.{page_address, is_set, no_exception, with_cause, exception_address, interrupts, exception_answer, hit_value}
use Rattle.access.specs.Translation.{on_hit, by_hit_count, found_set, page_mapped, translate}
use Rattle.store.specs.Leaf.{leaf_entry}
use Rattle.store.specs.Sweep.{is_empty, agrees_with_leaf, agrees_with_tables, kept, kept_at, settled, swept_slot, swept_first, swept, emptied}
use Rattle.store.specs.Rewrite.{written}
use Rattle.store.specs.TableStore.{index_fits, store_refusal, stored_words, store_reply, buffer_after_store, words_after_store}
use Rattle.heap.specs.Bits.{held_at, free_at, with_held}
use Rattle.heap.specs.Pools.{frames_fit, pool_fits, is_full, lowest_free, held_frames, holds, pool_with}
use Rattle.heap.specs.NewPool.{new_refusal, clear_pool, new_reply}
use Rattle.heap.specs.Take.{full_refusal, take_refusal, taken_pfn, taken_pool, take_reply}
use Rattle.heap.specs.Give.{give_refusal, given_pool, give_reply}
use Rattle.heap.specs.Held.{held_refusal, held_outcome}
use Rattle.heap.specs.Map.{map_refusal, mapped_word, map_put, map_answer, buffer_after_map, words_after_map}
use Rattle.heap.specs.Sequences.{last_pool, taken_in, given_in, history_of}
use Rattle.heap.specs.Histories.{pool_left, if_done, done_value, taken_by, given_by}
use Rattle.heap.specs.Histories.{event_of as pool_event}
use Rattle.mmu.specs.RawAccess.{raw_refusal, raw_reply}
use Rattle.mmu.specs.ServedAccess.{may_be_served, served_refusal, outcome_of, tried_reply, missed, loaded_at, registers_loaded, buffer_loaded}
use Rattle.mmu.specs.ServedAccess.{after_miss, buffer_after_miss, first_try, walk_for, access_reply, access_buffer, served_reply, served_buffer}
use Rattle.control.specs.Starting.{start_refusal, start_reply, started_buffer}
use Rattle.control.specs.Numbers.{is_register, number_refusal}
use Rattle.control.specs.Halves.{hi_of, lo_of, entry_from}
use Rattle.control.specs.Writing.{write_refusal, written_entry, written_buffer, write_reply, buffer_after_write}
use Rattle.control.specs.Reading.{read_refusal, read_value, read_reply}
use Rattle.control.specs.ReadingBack.{look_at}
use Rattle.control.specs.Setting.{is_guarded, switch_fits, argument_refusal, setting_refusal, setting_reply}
use Rattle.sequence.specs.Reader.{settings_of, reader_walk, leaf_answer, walk_answer, reader_answer}
use Rattle.sequence.specs.Calls.{refusal, accepted, request_of, effect_by, left_by}
use Rattle.sequence.specs.Requests.{effect_of}
use Rattle.sequence.specs.Calls.{call_on}
use Rattle.sequence.specs.Systems.{begun, system_after}
use Rattle.sequence.specs.Asks.{call_of, event_of, events_of, lines_of}
use Rattle.wire.specs.Wire.{bytes_of, number_at, element_at, encoded}
use Rattle.trace.specs.Commands.{kind_of, user_of, write_of, draw_of, index_of, value_of, is_plain, well_formed, setting_numbers, setting_of}
use Rattle.trace.specs.Commands.{access_of, asked_by, command_of, command_at, commands_from, record_count, commands_of}
use Rattle.trace.specs.Steps.{step_reply, buffer_after_step, words_after_step, machine_after_step}
use Rattle.line.specs.Text.{ascii, digit, digits, length_within, decimal_length, decimal, hex}
use Rattle.line.specs.Lines.{word_of, head_of, line_of}
use Rattle.line.specs.Lines.{value_of as line_value}
use Rattle.trace.specs.Traces.{lines_of as trace_lines, start_machine, trace_text}
use Rattle.rows.specs.Rows.{signed, total_text, totals_text, row_of, rows_of, report_of, refused_text, unread_text}
use Rattle.rows.specs.Rows.{row_head}
use Rattle.report.specs.Totals.{total_at, booked, within, booked_within, booked_all}
use Rattle.report.specs.Gains.{gain, has_column, fault_column, fault_gains, access_gains, store_gains}
use Rattle.examples.specs.Claims.{Values, all_computed, all_owed}
use Rattle.examples.specs.Scene.{registers_with, enabled, enabled_after, started, user, supervisor, replied, entry_with, one_entry}
use Rattle.examples.specs.Scene.{ones, two_entries}
use Rattle.examples.specs.Marked.{slots_of, linear, selected, marked}
use Rattle.examples.specs.Accesses.{row, row_after, kernel_page, open_page, rows, based, segments, too_wide, refusals}
use Rattle.examples.specs.Conditions.{exceptions, global_entry, high_bits, hits}
use Rattle.examples.specs.Calls.{short, caused, calls, largest, fields}
use Rattle.examples.specs.Reads.{distinct, upper_bits, after_missing, refilled, reads}
use Rattle.examples.specs.Walks.{tables, good, shared, global_broken, walks}
use Rattle.examples.specs.Served.{machine, aged_entry, aged, reading, served}
use Rattle.examples.specs.Stops.{unit_says, reader_says, both_say, global_directory_broken, global_leaf_absent, stops}
use Rattle.examples.specs.Stores.{entry_of, agreeing, sweeps, numbers, stores, guarded_settings}
use Rattle.examples.specs.Pools.{pool_of, three, pool_calls, page_loaded, mapped, maps, asked, history, histories}
use Rattle.examples.specs.Ends.{last, ends}
use Rattle.examples.specs.Sequences.{lent, fresh, worked, worked_lines, strays, stray_lines, outcomes}
use Rattle.examples.specs.Sequences.{outcome_lines, changes, change_lines, sequences}
use Rattle.examples.specs.Traces.{worked_input, worked_text, traces}
use Rattle.examples.specs.Reports.{reports}
use Rattle.examples.specs.Examples.{examples}

pub all_hold : all_computed examples ≡ all_owed examples
unfolding all count lowest vpn_of offset_of location vpn15_of slot_of set_of unpack join low_bits pack empty_fields empty_entry to_words from_words
    field put widths fits_at registers_fit zero_registers refuse_unless by_refusal draw_fits present reserved number stretch_size index_in inside
    broken leaf_at stop_at index_below descend walk_tree global_first walk_page buffer_fits slot_at with_slot empty_first start_buffer valid_or_inv_exc
    vpn15_matches id_matches_or_global matches_page hit fields_at set_hits hit_count hit_set segment_of in_linear_segment nibble segment_base
    linear_address inv_exc acc_exc we_exc write_error access_violation invalid_page exception_value page_address is_set no_exception with_cause
    exception_address interrupts exception_answer hit_value on_hit by_hit_count found_set page_mapped translate raw_refusal raw_reply start_refusal
    start_reply started_buffer is_register number_refusal hi_of lo_of entry_from write_refusal written_entry written_buffer write_reply
    buffer_after_write read_refusal read_value read_reply look_at Values all_computed all_owed registers_with enabled enabled_after started user
    supervisor replied entry_with one_entry two_entries slots_of linear selected marked row row_after kernel_page open_page rows based segments
    too_wide refusals exceptions global_entry high_bits hits short caused calls largest fields ones distinct upper_bits after_missing refilled reads
    tables good shared global_broken walks vpn_at same_low same_entry leaf_valid leaf_kernel leaf_we leaf_pfn length_fits tables_fit stop_place
    walk_fault fault_kind fault_level fault_global settings_of reader_walk leaf_answer walk_answer reader_answer unit_says reader_says both_say
    global_directory_broken global_leaf_absent stops
    set_matches load_slot loaded_buffer leaf_entry is_empty agrees_with_leaf agrees_with_tables kept kept_at settled swept_slot swept_first swept
    emptied written index_fits store_refusal stored_words store_reply buffer_after_store words_after_store may_be_served served_refusal outcome_of
    tried_reply missed loaded_at registers_loaded buffer_loaded after_miss buffer_after_miss first_try walk_for access_reply access_buffer served_reply
    served_buffer is_guarded switch_fits setting_refusal argument_refusal setting_reply refusal accepted effect_by request_of effect_of left_by call_on
    begun system_after call_of event_of events_of lines_of machine aged_entry aged reading served entry_of agreeing sweeps numbers stores
    guarded_settings last ends lent fresh worked worked_lines strays stray_lines outcomes outcome_lines changes change_lines sequences bytes_of number_at element_at
    encoded kind_of user_of write_of draw_of index_of value_of is_plain well_formed setting_numbers setting_of access_of asked_by command_of command_at
    commands_from record_count commands_of step_reply buffer_after_step words_after_step machine_after_step ascii digit digits length_within
    decimal_length decimal hex word_of head_of line_of line_value trace_lines start_machine trace_text worked_input worked_text traces signed
    total_text totals_text row_head row_of rows_of report_of refused_text unread_text total_at booked within booked_within booked_all gain has_column fault_column
    fault_gains access_gains store_gains reports with_flag refused_or held_at free_at with_held frames_fit pool_fits is_full lowest_free held_frames
    holds pool_with new_refusal clear_pool new_reply full_refusal take_refusal taken_pfn taken_pool take_reply give_refusal given_pool give_reply
    held_refusal held_outcome map_refusal mapped_word map_put map_answer buffer_after_map words_after_map pool_left last_pool if_done done_value taken_by
    given_by taken_in given_in history_of pool_event pool_of three pool_calls page_loaded mapped maps asked history histories examples
all_hold = refl
