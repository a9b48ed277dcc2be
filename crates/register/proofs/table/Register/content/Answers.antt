-- `Register::content`: the entries of a message that was sent, and zeros of any other.
use Prim.Native.Nat.{◌<◌}
use mathlib.Core.Path.{sym, ◌∙◌}
use Rattle.register.proofs.Telling.{in_table, content_none, content_found}
use Rattle.register.proofs.table.Register.content.Goals as goal
use Rattle.register.proofs.table.Register.content.Goals.{Else-not-is_sent}

-- once the test has let it pass, the message's entries are in the table
within : (c : Else-not-is_sent) → c.args.message.0 < 1024
within c = in_table c.args.self.now _ (sym c.is_sent.ensures ∙ c.if-not-is_sent.false)

pub returns-then-not-is_sent : goal.returns-then-not-is_sent
returns-then-not-is_sent c =
    let a = c.args in
    content_none a.self.now a.message.0 (sym c.is_sent.ensures ∙ c.if-not-is_sent.true)

pub bounds-self-m : goal.bounds-self-m
bounds-self-m c = within (goal.at.bounds-self-m c).Else-not-is_sent

pub bounds-self-m-2 : goal.bounds-self-m-2
bounds-self-m-2 c = within (goal.at.bounds-self-m-2 c).Else-not-is_sent

pub bounds-self-m-3 : goal.bounds-self-m-3
bounds-self-m-3 c = within (goal.at.bounds-self-m-3 c).Else-not-is_sent

pub returns : goal.returns
returns c =
    let a = c.args in
    content_found a.self.now a.message.0 (sym c.is_sent.ensures ∙ c.if-not-is_sent.false)
