-- A line without bytes is plain.
use Rattle.meaning.proofs.Kit.{◌≡◌, ◌∙◌, refl, ⊎_elim, List, [], ◌∷◌, ◌≤◌, ℕ, ◌-◌, arith, eqb, length, get_or, take}
use Rattle.meaning.proofs.Tests.{true_or_false}
use Rattle.orders.specs.States.{State, ordered, did}
use Rattle.desk.specs.Sittings.{after_line, plain_length}

pub plain_none : (line : List ℕ) → length line ≡ 0 → 0 ≡ plain_length line
unfolding plain_length
plain_none [] h = refl
plain_none (c ∷ line) h = absurd (omega arith)

pub plain_within : (line : List ℕ) → plain_length line ≤ length line
unfolding plain_length
plain_within line = ⊎_elim (λ e. rw e (omega arith)) (λ e. rw e (omega arith)) (true_or_false (eqb (get_or line (length line - 1) 0) 13))

-- a line taken without its carriage return
pub plain_taken : (s : State) (line : List ℕ) (n : ℕ) {t : State} → n ≡ plain_length line → t ≡ did s (ordered s (take n line)) → t ≡ after_line s line
unfolding after_line
plain_taken s line n e moved = moved ∙ rw e
