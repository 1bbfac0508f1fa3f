-- `put_shown` meets its contract: a byte more.
use Rattle.meaning.proofs.Kit.{◌≡◌, ◌+◌, ℕ, add-zero, arith, length, map, subst, take_all}
use Rattle.spelling.specs.Text.{Put, shown}
use Rattle.spelling.proofs.Pieces.{put_none, shown_put}
use Rattle.spelling.proofs.put_shown.Goals as goal

pub loop-k-init : goal.loop-k-init
loop-k-init c = rw add-zero (put_none _ _)

pub loop-k-preserved : goal.loop-k-preserved
loop-k-preserved c = shown_put c.args.line.now c.loop-k.k (omega arith) c.shown.ensures c.loop-k.invariant

pub returns-clause-put : goal.returns-clause-put
returns-clause-put c =
    let line = c.args.line.now in
    let l = c.loop-k in
    let all : l.k ≡ length line = omega arith in
    subst (λ (k : ℕ). Put c.args.out.now l.out c.args.at (map shown line) (c.args.at + k)) all (rw (take_all l.k line c.loop-k-test.false) at l.invariant)
