-- `report::text::write_word`: at each turn the first i bytes of the word are written.
use lib.ListN.{take}
use Rattle.report.specs.Text.{TextWritten}
use Rattle.report.proofs.text.write_word.Given as goal

abbrev pub invariant-loop-byte : goal.invariant-loop-byte
invariant-loop-byte l = TextWritten l.initial.report l.at (take l.byte-index l.word) l.next l.report
