-- The loop of `survey_clauses`: the clauses from i on, behind `count` of which this was found, come to what the whole does. The measure is how many
-- bytes are left.
use Rattle.meaning.proofs.Kit.{◌≡◌, [], ◌≤◌, ◌-◌, length, drop}
use Rattle.dimacs.specs.Words.{words}
use Rattle.dimacs.specs.Form.{clauses_in}
use Rattle.dimacs.proofs.Surveying.{Sofar}
use Rattle.dimacs.proofs.survey.survey_clauses.Given as goal

abbrev pub invariant-loop-row : goal.invariant-loop-row
invariant-loop-row l =
    (length l.row ≡ 8) × (l.i ≤ length l.text) × (l.count ≤ l.i)
    × Sofar l.symbols l.used l.rules l.lent l.clauses (clauses_in l.variables [] (words (drop l.at l.text))) (clauses_in l.variables [] (words (drop l.i l.text)))
    l.count l.found

abbrev pub decreases-loop-row : goal.decreases-loop-row
decreases-loop-row l = length l.text - l.i
