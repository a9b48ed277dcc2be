-- `leader_table`: each turn puts in the next leader.
use mathlib.Core.Path.{refl, sym, ap, ◌∙◌}
use mathlib.Core.List.{map}
use native.Mathlib.Omega.{arith}
use lib.ListN.{get_or}
use lib.Seq.{take_all}
use Rattle.std.proofs.lemmas.List.{map-set}
use Rattle.register.specs.Books.{office}
use Rattle.register.specs.Opening.{leader_table}
use Rattle.register.proofs.OpeningLaws.{next_leader}
use Rattle.register.proofs.opening.leader_table.Goals as goal

pub loop-i-init : goal.loop-i-init
unfolding leader_table
loop-i-init c = refl

pub loop-i-preserved : goal.loop-i-preserved
loop-i-preserved c =
    let put = next_leader c.args.schedule.now c.loop-i.i c.loop-i-test.true c.requires in
    rw c.loop-i.invariant (sym (map-set office _ c.loop-i.i (get_or c.args.schedule.now c.loop-i.i 0)) ∙ ap (map office) put)

pub returns : goal.returns
returns c = c.loop-i.invariant ∙ rw (take_all c.loop-i.i c.args.schedule.now (omega arith))
