-- A map depends on the entries of its own table alone, and in boot mode on none. Assumes nothing.
use mathlib.Core.Path.{refl, sym, ◌∙◌}
use Rattle.mups16.specs.Map.{virtual_page, boot_mapping}
use Rattle.mups16.specs.OwnTable.{SameTable, MapsAlike, OwnTable, BootNone}
use Rattle.mups16.proofs.EntryLaws.{length-fits, page-lt}
use Rattle.mups16.proofs.MapLaws.{boot-made}
use Rattle.mups16.proofs.MapsAlike.{maps-alike, same-entry}

pub own-table : OwnTable
unfolding OwnTable SameTable MapsAlike
own-table s a b a-long b-long same virtual user write =
    maps-alike s a b (length-fits a a-long) (length-fits b b-long) virtual user write
    (same-entry s a b virtual user write (same (virtual_page virtual) (page-lt virtual)))

pub boot-none : BootNone
unfolding BootNone MapsAlike
boot-none s a b a-long b-long boot virtual user write =
    maps-alike s a b (length-fits a a-long) (length-fits b b-long) virtual user write
    (sym (boot-made a s virtual user write boot (boot_mapping virtual) refl)
    ∙ boot-made b s virtual user write boot (boot_mapping virtual) refl)
