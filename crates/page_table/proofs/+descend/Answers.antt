-- The next word stands in the stretch that was lent, and the descent from it ends where the whole ends.
use native.Mathlib.Nat.{pos_of_ne-zero}
use native.Mathlib.Omega.{arith}
use mathlib.Core.Path.{sym, ◌∙◌}
use Rattle.page_table.specs.Ends.{end_at}
use Rattle.page_table.proofs.Descents.{in-run, lent-inside, lent, next-inside, next-stands, below-lt, end-leaf, end-stuck, end_on}
use Rattle.page_table.proofs.+descend.Goals as goal

pub returns-then-levels-eq0 : goal.returns-then-levels-eq0
unfolding end_at
returns-then-levels-eq0 g t c = end-leaf _ _ _ _ _ c.requires.3 c.if-levels-eq0.true

pub returns-then-not-leads_on : goal.returns-then-not-leads_on
unfolding end_at
returns-then-not-leads_on g t c =
    let judged = in-run _ _ _ _ _ c.count.ensures c.leads_on.ensures in
    end-stuck _ _ _ _ _ c.requires.3 c.if-levels-eq0.false _ judged c.if-not-leads_on.true

pub stretch-part-requires : goal.stretch-part-requires
stretch-part-requires g t c =
    let judged = in-run _ _ _ _ _ c.count.ensures c.leads_on.ensures in
    let on = sym judged ∙ c.if-not-leads_on.false in
    lent-inside _ _ _ _ _ on c.stretch_size.ensures c.number_of.ensures

pub word_at-next-requires : goal.word_at-next-requires
word_at-next-requires g t c =
    let judged = in-run _ _ _ _ _ c.count.ensures c.leads_on.ensures in
    let on = sym judged ∙ c.if-not-leads_on.false in
    let part = lent _ _ _ _ _ c.stretch_size.ensures c.number_of.ensures c.stretch-part.ensures in
    next-inside _ _ _ _ c.requires.0 on _ part _ c.index_in.ensures

pub descend-requires : goal.descend-requires
descend-requires g t c κs within =
    let more = pos_of_ne-zero c.if-levels-eq0.false in
    let judged = in-run _ _ _ _ _ c.count.ensures c.leads_on.ensures in
    let on = sym judged ∙ c.if-not-leads_on.false in
    let part = lent _ _ _ _ _ c.stretch_size.ensures c.number_of.ensures c.stretch-part.ensures in
    let stands =
    next-stands _ _ _ _ c.requires.0 on _ part _ c.index_in.ensures _ _ c.word_at-next.ensures c.index_below.ensures in
    let room = below-lt _ _ _ _ c.requires.0 c.index_below.ensures in
    (omega (arith, c.decreases, more), (within, (c.requires.0, omega arith, room, stands)))

pub returns : goal.returns
returns g t c =
    let judged = in-run _ _ _ _ _ c.count.ensures c.leads_on.ensures in
    end_on _ _ _ _ _ c.requires.3 c.if-levels-eq0.false _ judged c.if-not-leads_on.false _ c.index_below.ensures _ c.descend.ensures
