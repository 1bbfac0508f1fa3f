-- The bytes of a word, tested one after the other.
use Rattle.meaning.proofs.Kit.{◌≡◌, refl, ap, Bool, ◌&&◌, List, [], ◌∷◌, ℕ}
use Rattle.std.specs.List.{list_all}
use Rattle.meaning.specs.Tests.{all}

pub all_of : (test : ℕ → Bool) (word : List ℕ) → list_all test word ≡ all test word
all_of test [] = refl
all_of test (c ∷ word) = ap (λ b. test c && b) (all_of test word)
