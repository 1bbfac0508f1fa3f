-- Whether the opposite of a row's literal has a rank below k.
use Rattle.meaning.proofs.Kit.{◌≡◌, ◌∙◌, true, false, List, ◌≤◌, ℕ, ◌<◌, ltb, ℤ, length, get_or, lt-ltb, le-ltb}
use Rattle.meaning.specs.Literals.{opp, has}
use Rattle.literals.proofs.Scanning.{Literal}
use Rattle.findings.specs.Ranks.{below}
use Rattle.findings.proofs.RankTables.{below_rank}

module _ (ranks : List ℕ) (k : ℕ) {table : List ℤ} {r j q : ℕ} (l : Literal (length ranks) table r j q) {o : ℕ} (is : o ≡ opp q) where
  known : has (below k ranks) (opp q) ≡ ltb (get_or ranks o 0) k
  known = rw is (below_rank k ranks (opp q) l.opposite)

  pub known_yes : get_or ranks o 0 < k → has (below k ranks) (opp q) ≡ true
  known_yes h = known ∙ lt-ltb (get_or ranks o 0) k h

  pub known_no : k ≤ get_or ranks o 0 → has (below k ranks) (opp q) ≡ false
  known_no h = known ∙ le-ltb (get_or ranks o 0) k h
