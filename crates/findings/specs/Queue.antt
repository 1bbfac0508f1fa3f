-- A queue: the places that got a rank, or a mark, in the order in which they got it. Each is put there once, and taken from it once.
use Rattle.std.specs.Prelude.{◌≡◌, ◌⊎◌, Bool, cond, List, [], ◌∷◌, ℕ, ◌+◌, ◌≤◌, ◌<◌, length, get_or}
use Rattle.meaning.specs.Tests.{none}

-- how many of a list pass a test
unfoldable pub counted : {A : Type 0} → (A → Bool) → List A → ℕ
counted test [] = 0
counted test (x ∷ l) = cond (test x) 1 0 + counted test l

-- as many places stand in the queue as pass the test; it has room for all, and each fits 16 bits
pub record Room {A : Type 0} (test : A → Bool) (list : List A) (queue : List ℕ) (end : ℕ) : Type 0 where
  pub count : end ≡ counted test list
  pub long : length list ≤ length queue
  pub few : length list ≤ none

-- the list was written to, and each place that was changed was put at the end of the queue; `d` stands past the list's end
pub record Queued {A : Type 0} (test : A → Bool) (d : A) (before after : List A) (queue : List ℕ) (end : ℕ) (longer : List ℕ) (next : ℕ)
    : Type 0 where
  pub count : next ≡ counted test after
  pub more : end ≤ next
  pub kept : (i : ℕ) → i < end → get_or longer i 0 ≡ get_or queue i 0
  pub put : (p : ℕ) → p < length before → (get_or after p d ≡ get_or before p d) ⊎ ((i : ℕ) × (end ≤ i) × (i < next) × (get_or longer i 0 ≡ p))
  pub inside : (i : ℕ) → end ≤ i → i < next → get_or longer i 0 < length before

-- of the marks, those that are set
abbrev pub marked : Bool → Bool
marked m = m

-- the places that have a rank stand in the queue before its end
pub record AllQueued (ranks queue : List ℕ) (end : ℕ) : Type 0 where
  pub few : end ≤ length ranks
  pub has : (p : ℕ) → p < length ranks → (get_or ranks p 0 ≡ none → ⊥) → (i : ℕ) × (i < end) × (get_or queue i 0 ≡ p)
  pub inside : (i : ℕ) → i < end → get_or queue i 0 < length ranks
