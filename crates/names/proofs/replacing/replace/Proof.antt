-- `replacing::replace` meets its contract. The invariant: the bytes before `at` are done. The measure is how many bytes are left.
use Rattle.meaning.proofs.Kit.{◌≡◌, ◌∙◌, sym, ap, refl, List, ◌≤◌, ℕ, ◌-◌, ◌+◌, arith, length, drop}
use Rattle.formula.proofs.Parts.{onward_drop}
use Rattle.names.specs.Names.{run}
use Rattle.names.specs.Replacing.{replaced}
use Rattle.names.proofs.Replaced.{coming, coming_byte, coming_run, coming_all, run_inside, run_length}
use Rattle.names.proofs.replacing.replace.Statement.{statement}
use Rattle.names.proofs.replacing.replace.Tie as tie

abbrev invariant_loop : tie.invariant-loop-at
invariant_loop text₀ names at₀ text at = (at ≤ length text) × (length text ≡ length text₀) × (replaced names text₀ ≡ coming names text at)

abbrev decreases_loop : tie.decreases-loop-at
decreases_loop text₀ names at₀ text at = length text₀ - at

abbrev names_at : tie.At-loop-at invariant_loop decreases_loop → List ℕ
names_at l = l.args.names.now

-- where a run is sought
abbrev at : tie.After-run-n invariant_loop decreases_loop → tie.At-loop-at invariant_loop decreases_loop
at c = c.before.before.before

-- its end, and that it is one
abbrev end : tie.After-run-n invariant_loop decreases_loop → ℕ
end c = (at c).loop-at.at + c.run-n.result

runs : (c : tie.After-run-n invariant_loop decreases_loop) → let l = (at c).loop-at in end c - l.at ≡ run (drop l.at l.text)
runs c = let l = (at c).loop-at in omega (arith, c.run-n.ensures, ap run (onward_drop l.at l.text))

-- it lies within the text
inside : (c : tie.After-run-n invariant_loop decreases_loop) → end c ≤ length (at c).loop-at.text
inside c = let l = (at c).loop-at in run_inside l.text l.at (end c) (omega arith) l.invariant.0 (runs c)

loop_again : tie.Need-loop-at-preserved-then-n-eq0 invariant_loop decreases_loop
loop_again c =
    let l = at c.before in
    let t = l.loop-at in
    (omega arith, t.invariant.1, t.invariant.2 ∙ coming_byte (names_at l) t.text t.at (omega arith) (omega (arith, runs c.before)))

-- the run that was renamed
abbrev here : tie.After-slice_known-else-n-eq0-1 invariant_loop decreases_loop → tie.After-run-n invariant_loop decreases_loop
here c = c.before.before.before.before.before

loop_again_2 : tie.Need-loop-at-preserved invariant_loop decreases_loop
loop_again_2 c =
    let f = here c in
    let l = at f in
    let t = l.loop-at in
    let r = c.rename in
    let same = run_length t.text t.at (end f) (omega arith) t.invariant.0 (runs f) (names_at l) r.new.part r.ensures in (
      omega (arith, same, inside f),
      same ∙ t.invariant.1,
      t.invariant.2 ∙ coming_run t.text t.at (end f) (omega arith) t.invariant.0 (runs f) (names_at l) r.new.part r.ensures,
    )

returns : tie.Need-returns invariant_loop decreases_loop
returns c = let t = c.loop-at in sym (t.invariant.2 ∙ coming_all (names_at c.before) t.text t.at (omega arith))

pub replace_spec : {M : Type 1} → statement M
replace_spec = tie.close (tie.spec
    invariant_loop decreases_loop (λ c. (omega arith, refl, refl)) (λ c. omega arith) (λ c. omega arith) (λ c. omega arith) (λ c κs. tt) (λ c. omega arith)
    (λ c. omega arith) loop_again (λ c. omega (arith, inside c.before)) (λ c. omega arith) (λ c. omega arith)
    (λ c. omega (arith, inside c.before)) (λ c κs. omega arith) (λ c. omega (arith, inside (here c))) (λ c. omega (arith, inside (here c)))
    loop_again_2 (λ c. omega arith) returns)
