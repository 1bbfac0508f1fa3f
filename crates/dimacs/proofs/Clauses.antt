-- The clauses of words, one at a time: the first of them, and those that follow it.
use Rattle.meaning.proofs.Kit.{leb, ◌≡◌, ◌∙◌, refl, cond, List, [], ◌∷◌, ◌++◌, append-nil, append_assoc, ◌≤◌, ℕ, ◌+◌, arith, eqb, ℤ, nat_abs, length}
use Rattle.meaning.proofs.Kit.{length-append}
use Rattle.dimacs.specs.Words.{literal_of}
use Rattle.dimacs.specs.Form.{Parsed, good, broken, clauses_in, clause_then}
use Rattle.dimacs.specs.Gathering.{keeps_form, next_clause, past_clause}
use Rattle.dimacs.proofs.Tested.{by_test}

-- words whose first clause keeps the form are that clause and what follows it; other words break the form
abbrev by_first_lem : (variables : ℕ) → (sofar : List ℤ) → List (List ℕ) → Parsed
by_first_lem v sofar ws = cond (keeps_form v ws) (clause_then (sofar ++ next_clause ws) (clauses_in v [] (past_clause ws))) broken

clause_behind : (v : ℕ) (sofar : List ℤ) (ws : List (List ℕ)) → 1 ≤ length sofar + length ws → clauses_in v sofar ws ≡ by_first_lem v sofar ws
unfolding clauses_in keeps_form next_clause past_clause
clause_behind v [] [] h = absurd (omega arith)
clause_behind v (l ∷ sofar) [] h = refl
clause_behind v sofar (w ∷ ws) h =
    let l = literal_of w in
    let ih = clause_behind v (sofar ++ (l ∷ [])) ws (omega (arith, length-append sofar (l ∷ []))) in
    by_test (leb (nat_abs l) v)
    (λ b. by_test (eqb (nat_abs l) 0) (λ z. rw (b, z, append-nil sofar)) (λ z. rw (b, z) (ih ∙ rw append_assoc)))
    (λ b. rw b)

pub first_clause : (v : ℕ) (ws : List (List ℕ)) → 1 ≤ length ws
    → clauses_in v [] ws ≡ cond (keeps_form v ws) (clause_then (next_clause ws) (clauses_in v [] (past_clause ws))) broken
first_clause v ws h = clause_behind v [] ws (omega arith)

pub no_clause : (v : ℕ) (ws : List (List ℕ)) → ws ≡ [] → clauses_in v [] ws ≡ good v []
unfolding clauses_in
no_clause v ws e = rw e
