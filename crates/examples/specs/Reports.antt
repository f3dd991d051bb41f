-- The report: the limit of a total at its ends, what a call gives to the totals, and lines.
use Rattle.std.specs.Prelude.{true, false, List, [], ◌∷◌, pos, negsuc, length, replicate}
use Rattle.registers.specs.declared.Outcome.TheVariants.{At, Fault, Done, Refused}
use Rattle.line.specs.Text.{ascii}
use Rattle.rows.specs.Rows.{signed, row_of, report_of, refused_text, unread_text}
use Rattle.report.specs.Totals.{SERVED, LOADS, EMPTIED, CHANGE, within, booked_all}
use Rattle.report.specs.Gains.{gain, fault_gains, access_gains, store_gains}
use Rattle.examples.specs.Claims.{Example, ◌gives◌}

unfoldable pub reports : List Example
reports =
    -- a total is within 4,294,967,295 either way; negsuc n is -(n + 1)
    (within (pos 0) gives true)
    ∷ (within (pos 4294967295) gives true)
    ∷ (within (pos 4294967296) gives false)
    ∷ (within (negsuc 4294967294) gives true)
    ∷ (within (negsuc 4294967295) gives false)
    -- the file stops at the amount that takes a total past it, and at none that brings it to it
    ∷ (booked_all 0 (gain SERVED (pos 1) ∷ []) (pos 4294967294 ∷ []) gives record { totals = pos 4294967295 ∷ []; fits = true })
    ∷ (booked_all 0 (gain SERVED (pos 1) ∷ []) (pos 4294967295 ∷ []) gives record { totals = pos 4294967296 ∷ []; fits = false })
    ∷ (booked_all 63 (gain SERVED (pos 1) ∷ []) (pos 7 ∷ []) gives record { totals = pos 7 ∷ []; fits = true })
    -- faults by kind: columns 2 to 9 for 1 to 8, 10 for 16, 11 for 32; no other kind has one
    ∷ (fault_gains 0 gives [])
    ∷ (fault_gains 1 gives gain 2 (pos 1) ∷ [])
    ∷ (fault_gains 8 gives gain 9 (pos 1) ∷ [])
    ∷ (fault_gains 9 gives [])
    ∷ (fault_gains 16 gives gain 10 (pos 1) ∷ [])
    ∷ (fault_gains 32 gives gain 11 (pos 1) ∷ [])
    -- what a call gives, by its outcome
    ∷ (access_gains (At 0x2ABC) 1 gives gain SERVED (pos 1) ∷ gain LOADS (pos 1) ∷ [])
    ∷ (access_gains (Fault 4) 1 gives gain SERVED (pos 1) ∷ gain LOADS (pos 1) ∷ gain 5 (pos 1) ∷ [])
    ∷ (access_gains (Fault 0x310) 0 gives gain SERVED (pos 1) ∷ gain LOADS (pos 0) ∷ gain 10 (pos 1) ∷ [])
    ∷ (access_gains (Fault 0x1220) 0 gives gain SERVED (pos 1) ∷ gain LOADS (pos 0) ∷ gain 11 (pos 1) ∷ [])
    ∷ (access_gains (Refused 5) 0 gives [])
    ∷ (store_gains (Done 2) (negsuc 0) gives gain EMPTIED (pos 2) ∷ gain CHANGE (negsuc 0) ∷ [])
    ∷ (store_gains (Refused 6) (pos 0) gives [])
    -- lines
    ∷ (signed (pos 0) gives ascii "0")
    ∷ (signed (negsuc 0) gives ascii "-1")
    ∷ (signed (negsuc 4294967294) gives ascii "-4294967295")
    ∷ (row_of 12 0 (pos 3 ∷ pos 1 ∷ pos 0 ∷ pos 0 ∷ pos 0 ∷ pos 0 ∷ pos 0 ∷ pos 0 ∷ pos 0 ∷ pos 0 ∷ pos 1 ∷ pos 0 ∷ pos 4 ∷ negsuc 2 ∷ [])
    gives ascii "12 0 3 1 0 0 0 0 0 0 0 0 1 0 4 -3\n")
    -- a file has 63 lines: ten of 32 bytes where all is 0, and 53 with one digit more
    ∷ (length (report_of 0 (replicate 882 (pos 0))) gives 2069)
    ∷ (refused_text 7 gives ascii "7 refused 9\n")
    ∷ (unread_text 0 gives ascii "0 unread\n")
    ∷ []
