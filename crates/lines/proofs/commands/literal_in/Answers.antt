-- `lines::commands::literal_in` meets its contract: the two bytes are a number below 65,536, and 65,536 is taken off where the sign bit is set.
use Rattle.meaning.proofs.Kit.{◌∙◌, sym, ◌<◌, arith}
use Rattle.lines.proofs.Reading.{cut_is, literal_high, literal_low, two_bytes}
use Rattle.lines.proofs.commands.literal_in.Goals as goal

-- the number that the two bytes make is below 65,536
small : (c : goal.Else-n-lt32768) → two_bytes c.args.body.now < 65536
small c = omega (arith, c.type_inv.body 0, c.type_inv.body 1)

pub returns-then-n-lt32768 : goal.returns-then-n-lt32768
returns-then-n-lt32768 c = literal_low c.args.body.now c.if-n-lt32768.true

pub returns : goal.returns
returns c =
    let body = c.args.body.now in
    cut_is (two_bytes body) c.if-n-lt32768.false (small c) ∙ sym (literal_high body c.if-n-lt32768.false)
