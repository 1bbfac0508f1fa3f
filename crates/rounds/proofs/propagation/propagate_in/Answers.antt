use Rattle.meaning.proofs.Kit.{◌≡◌, ◌∙◌, ap, List, ℕ, arith, ℤ, length, length-replicate, replicate}
use Rattle.meaning.specs.Tests.{none}
use Rattle.literals.specs.Row.{rows_in}
use Rattle.literals.proofs.Scanning.{few_places}
use Rattle.index.specs.Index.{heads_of, links_of, Index}
use Rattle.index.proofs.Following.{filled}
use Rattle.findings.proofs.Final.{supports_are}
use Rattle.rounds.proofs.propagation.propagate_in.Goals as goal

-- the index: there was a head for each place
indexed : {places used : ℕ} {table : List ℤ} {blank heads links : List ℕ} (lent : List ℕ) → blank ≡ replicate places none
    → heads ≡ heads_of (length blank) used table → links ≡ links_of used table lent → Index places used table heads links
indexed {places} {used} {table} lent e h l =
    filled lent (h ∙ ap (λ n. heads_of n used table) (ap length e ∙ length-replicate places none)) l

pub rank_all-end-requires-clause-index : goal.rank_all-end-requires-clause-index
rank_all-end-requires-clause-index c = let e = c.fill.ensures in indexed c.args.links.now c.requires.heads_value e.heads_after e.links_after

pub reach_asked-requires-clause-index : goal.reach_asked-requires-clause-index
reach_asked-requires-clause-index c =
    let e = c.fill.ensures in
    let same : length c.args.marks.now ≡ length c.args.ranks.now = omega arith in
    rw same (indexed c.args.links.now c.requires.heads_value e.heads_after e.links_after)

pub write_supports-requires-clause-index : goal.write_supports-requires-clause-index
write_supports-requires-clause-index c =
    let e = c.fill.ensures in rw c.rank_all-end.auto.ranks (indexed c.args.links.now c.requires.heads_value e.heads_after e.links_after)

pub returns-clause-supports_after : goal.returns-clause-supports_after
returns-clause-supports_after c =
    let a = c.args in
    c.write_supports.ensures
    ∙ supports_are (length a.ranks.now) (rows_in a.rows a.table.now) a.held.now (omega (arith, few_places c.requires.fit))
    c.rank_all-end.ensures.ranks_after (length a.supports.now) a.from c.requires.ranks_in_bounds.1
