-- A rule of a journal is handed its formula's bytes and no more, so that none are left over.
use Rattle.meaning.proofs.Kit.{◌≡◌, ◌∙◌, sym, ap, refl, List, ℕ, arith, length, take, take-length}
use Rattle.formula.specs.Parse.{Parsed, good, bad, levels, parse, whole_of}
use Rattle.formula.proofs.Alone.{whole_alone}
use Rattle.formula.proofs.Faults.{UpTo, parse_faults}
use Rattle.board.specs.Faults.{number_in}
use Rattle.board.specs.Rules.{rule_faults}
use Rattle.board.proofs.Answered.{fault_not, Without, never_answered, rule_told}
use Rattle.lines.specs.Commands.{formula_bytes, formula_length, length_of}
use Rattle.lines.specs.Promises.{NeverSix}

-- the bytes that are tried are a formula, or have a fault of the numbers up to 5
bytes_faults_lem : (S : ℕ) (body : List ℕ) → UpTo 5 (whole_of S (take (formula_length S body) body))
unfolding formula_length whole_of
bytes_faults_lem S body = go (parse S levels body) refl
  where
    go : (p : Parsed) → parse S levels body ≡ p → UpTo 5 (whole_of S (take (length_of (length body) p) body))
    go (good f used) e = rw (whole_alone S body f used e) tt
    go (bad why at) e = rw (take-length body, e) (rw e at (parse_faults S levels body))

pub never_six : NeverSix
unfolding rule_faults
never_six table b body e =
    let bytes = formula_bytes b body in
    let read = fault_not 5 6 (whole_of b.symbols bytes) (bytes_faults_lem b.symbols body) (omega arith) in
    let none : Without 6 (rule_faults table b bytes) =
    (λ g six. omega arith, (read, (λ g six. omega arith, (λ g six. omega arith, (λ g six. omega arith, tt))))) in
    never_answered 6 (rule_faults table b bytes) (omega arith) none (ap number_in (sym (rule_told table b bytes)) ∙ e)
