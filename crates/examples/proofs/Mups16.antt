-- Every example of the MUPS/16 unit holds, computed from the definitions. Assumes nothing.
use mathlib.Core.Path.{◌≡◌, refl}
use Rattle.mups16.specs.Answers.{refusal_of, by_entries}
use Rattle.mups16.specs.Entries.{entries_fit}
use Rattle.mups16.specs.Map.{mapping_of, map_reply}
use Rattle.mups16.specs.Read.{read_low, read_high}
use Rattle.mups16.specs.Set.{set_answer, entries_after_set}
use Rattle.mups16.specs.Histories.{state_left, last_state}
use Rattle.mups16.specs.Requests.{event_of, history_of}
use Rattle.mups16.specs.LastFault.{any_fault, fault_in, fault_by, last_fault}
use Rattle.examples.specs.Claims.{Values, all_computed, all_owed}
use Rattle.examples.specs.Mups16.{kept, answered, refused, one, full, page, maps, reads, sets, faults, mups16}

pub mups16-hold : all_computed mups16 ≡ all_owed mups16
unfolding refusal_of by_entries entries_fit mapping_of map_reply read_low read_high set_answer entries_after_set state_left last_state
    event_of history_of any_fault fault_in fault_by last_fault Values all_computed all_owed kept answered refused one full page maps reads
    sets faults mups16
mups16-hold = refl
