-- `lines::saying::say_body` meets its contract: each arm makes its call. A rule alone changes the table.
use Rattle.meaning.proofs.Kit.{refl}
use Rattle.lines.specs.Commands.{command_table}
use Rattle.lines.proofs.saying.say_body.Goals as goal

pub returns-in-Open-clause-table_after : goal.returns-in-Open-clause-table_after
unfolding command_table
returns-in-Open-clause-table_after c = rw c.in-Open.is refl

pub returns-in-Hold-clause-table_after : goal.returns-in-Hold-clause-table_after
unfolding command_table
returns-in-Hold-clause-table_after c = rw c.in-Hold.is refl

pub returns-in-Drop-clause-table_after : goal.returns-in-Drop-clause-table_after
unfolding command_table
returns-in-Drop-clause-table_after c = rw c.in-Drop.is refl

pub returns-in-Ask-clause-table_after : goal.returns-in-Ask-clause-table_after
unfolding command_table
returns-in-Ask-clause-table_after c = rw c.in-Ask.is refl

pub returns-in-Why-clause-table_after : goal.returns-in-Why-clause-table_after
unfolding command_table
returns-in-Why-clause-table_after c = rw c.in-Why.is refl

pub returns-in-Other-clause-table_after : goal.returns-in-Other-clause-table_after
unfolding command_table
returns-in-Other-clause-table_after c = rw c.in-Other.is refl
