-- `fill_hits` meets its contract: the two calls fill the first two thirds, and the last is joined of them.
use Rattle.meaning.proofs.Kit.{◌≡◌, ◌∙◌, ap, ℕ, ◌-◌, suc, ◌/◌, arith, length, length-drop, length-take}
use Rattle.implicates.specs.Hits.{hit_table}
use Rattle.implicates.proofs.Table.{pow_down, fill_one, middle_long, put_long, fill_blocks}
use Rattle.implicates.proofs.hits.+fill_hits.Goals as goal

pub fill_hits-requires : goal.fill_hits-requires
fill_hits-requires t c =
    let n = c.args.n in
    let truth = c.requires.0 ∙ pow_down 2 n c.if-n-eq0.false in
    let hits = c.requires.1 ∙ pow_down 3 n c.if-n-eq0.false in
    (omega arith, (simp length-take (omega arith), simp length-take (omega arith)))

pub fill_hits-requires-else-n-eq0 : goal.fill_hits-requires-else-n-eq0
fill_hits-requires-else-n-eq0 t c =
    let n = c.args.n in
    let table = c.args.hits.now in
    let truth = c.requires.0 ∙ pow_down 2 n c.if-n-eq0.false in
    let hits = c.requires.1 ∙ pow_down 3 n c.if-n-eq0.false in
    let middle = middle_long (length table / 3) table c.fill_hits.new.hits (omega arith) c.fill_hits.auto.hits in
    (omega arith, (simp (length-take, length-drop) (omega arith), omega (arith, middle)))

pub join_thirds-requires : goal.join_thirds-requires
join_thirds-requires t c =
    let n = c.args.n in
    let table = c.args.hits.now in
    let hits = c.requires.1 ∙ pow_down 3 n c.if-n-eq0.false in
    put_long (length table / 3) table c.fill_hits.new.hits (omega arith) c.fill_hits.auto.hits
    c.fill_hits-else-n-eq0.new.hits c.fill_hits-else-n-eq0.auto.hits

pub returns-then-n-eq0 : goal.returns-then-n-eq0
returns-then-n-eq0 t c = fill_one c.args.n c.args.truth.now c.args.hits.now c.if-n-eq0.true c.requires.1

pub returns-else-n-eq0 : goal.returns-else-n-eq0
returns-else-n-eq0 t c =
    let n = c.args.n in
    let truth = c.args.truth.now in
    let table = c.args.hits.now in
    let truths = c.requires.0 ∙ pow_down 2 n c.if-n-eq0.false in
    let hits = c.requires.1 ∙ pow_down 3 n c.if-n-eq0.false in
    let up : suc (n - 1) ≡ n = omega arith in
    c.join_thirds.ensures
    ∙ fill_blocks (n - 1) (length truth / 2) (length table / 3) truth table c.fill_hits.new.hits
    c.fill_hits-else-n-eq0.new.hits (omega arith) (omega arith) (omega arith) c.fill_hits.ensures c.fill_hits-else-n-eq0.ensures
    ∙ ap (λ (j : ℕ). hit_table j truth) up
