-- `view_of`: the columns have no entry past their end, and what they have tells.
use mathlib.Core.Path.{◌∙◌}
use Rattle.tables.proofs.Views.{view_most}
use Rattle.register.proofs.read.view_of.Goals as goal

pub returns : goal.returns
returns c =
    let a = c.args in
    c.view.ensures ∙ view_most a.messages.now.places _ _ a.messages.now.count a.office.0 c.know_sizes.ensures.2
