-- A test, by what it answers.
use Rattle.meaning.proofs.Kit.{◌≡◌, refl, true, false, Bool}

pub by_test : {C : Type 0} (b : Bool) → (b ≡ true → C) → (b ≡ false → C) → C
by_test true t f = t refl
by_test false t f = f refl
