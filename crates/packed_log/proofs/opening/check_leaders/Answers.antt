-- `packed_log::opening::check_leaders`: 3, then 27, then what is left.
use mathlib.Core.Path.{sym, ◌∙◌}
use borrow.Author.Tests.{not-true, not-false}
use Rattle.packed_log.proofs.Stray.{is_stray}
use Rattle.packed_log.proofs.OpeningLaws.{led_cut, led_stray, led_whole}
use Rattle.packed_log.proofs.opening.check_leaders.Goals as goal
use Rattle.packed_log.proofs.opening.check_leaders.Goals.{else-schedule-k-via-then-schedule-k+else-ne, else-schedule-k-via-else-schedule-k}

pub returns-then-ne : goal.returns-then-ne
returns-then-ne c =
    let pre = c.requires in
    let other = not-true _ (sym c.ne.ensures ∙ c.if-ne.true) in
    led_cut _ _ _ _ pre.0 pre.1 pre.2 pre.3 _ c.check_opening-opening.ensures c.if-schedule-k.true (sym (is_stray _) ∙ other)

pub returns : goal.returns
returns c =
    let pre = c.requires in
    elim c.else-schedule-k.branch [
      | else-schedule-k-via-then-schedule-k+else-ne w ↦
          let stray = not-false _ (sym w.ne.ensures ∙ w.if-ne.false) in
          led_stray _ _ _ _ pre.0 pre.1 pre.2 pre.3 _ c.check_opening-opening.ensures (sym (is_stray _) ∙ stray)
      | else-schedule-k-via-else-schedule-k w ↦
          led_whole _ _ _ _ pre.0 pre.1 pre.2 pre.3 _ c.check_opening-opening.ensures w.if-schedule-k.false
    ]
