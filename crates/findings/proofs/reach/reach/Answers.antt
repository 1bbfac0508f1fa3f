-- The queue is a part of an array, lent three times.
use Rattle.meaning.proofs.Kit.{◌∙◌, sym, ap, subst, ◌++◌, arith, eqb, length, drop, replicate}
use Rattle.literals.specs.Row.{rows_in}
use Rattle.literals.proofs.Scanning.{few_places, few_rows}
use Rattle.findings.specs.Reach.{Followed, join}
use Rattle.findings.proofs.RankTables.{length_ranks_of}
use Rattle.findings.proofs.Reaching.{begun_none, begun_more, begun_again, followed_is}
use Rattle.findings.proofs.reach.reach.Goals as goal

pub mark_literal-one-requires-clause-room : goal.mark_literal-one-requires-clause-room
mark_literal-one-requires-clause-room c =
    let few = few_places c.requires.fit in (begun_none 400 few (omega (arith, few)) c.requires.marks_value).room

pub follow-requires-clause-ranks_len : goal.follow-requires-clause-ranks_len
follow-requires-clause-ranks_len c =
    let long = length_ranks_of (length c.args.marks.now) (rows_in c.args.rows c.args.table.now) c.args.held.now in
    ap length c.requires.ranks_value ∙ long ∙ sym (c.mark_literal-two.auto.marks ∙ c.mark_literal-one.auto.marks)

-- no literal stands in the queue, the first, the second
pub follow-requires-clause-queued : goal.follow-requires-clause-queued
follow-requires-clause-queued c =
    let n = length c.args.marks.now in
    let few = few_places c.requires.fit in
    let zero = begun_none 400 few (omega (arith, few)) c.requires.marks_value in
    let a = c.mark_literal-one in
    let one = begun_more zero a.auto.marks a.ensures.queued a.auto.queue in
    let rest = drop n (replicate 400 0) in
    let b = c.mark_literal-two in
    let two = begun_more (begun_again one rest) b.auto.marks b.ensures.queued b.auto.queue in
    let w = begun_again two (drop n (a.new.queue ++ rest)) in
    rw w.long w.queued

pub returns : goal.returns
returns c =
    let a = c.args in
    let p = c.requires in
    let places = length a.marks.now in
    let rows = rows_in a.rows a.table.now in
    let few = few_places p.fit in
    let long = c.follow.auto.marks ∙ c.mark_literal-two.auto.marks ∙ c.mark_literal-one.auto.marks in
    let followed = subst (λ l. Followed rows l c.mark_literal-two.new.marks c.follow.new.marks) p.ranks_value c.follow.ensures in
    let one = c.mark_literal-one.ensures.marks_after ∙ ap (λ l. join l (eqb a.p)) p.marks_value in
    let both = c.mark_literal-two.ensures.marks_after ∙ ap (λ l. join l (eqb a.q)) one in
    c.keep_held.ensures
    ∙ followed_is places rows a.held.now (omega (arith, few)) (few_rows p.fit) long followed p.marks_in_bounds.1 p.marks_in_bounds.2 both
