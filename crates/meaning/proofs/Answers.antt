-- 01, "How tight each contract must be": two results that a contract allows are equal. Here is what that says of any function; proofs/Unique of
-- each crate shows it of each of its public functions, over the contract as it stands in the source.
use Rattle.meaning.proofs.Kit.{◌≡◌}
use contract.Lifetimes.{Lfts}
use denote.Triple.Entry.{Args, Res}
use denote.Triple.Clauses.{Ended, Lasts, AtExit, at_exit}

-- T has the types of a function's parameters and of its result. Its contract speaks of the arguments, of the result, and of the parameters as
-- the function returns.
module _ (T : Ended) where
  abbrev pub Contract : Type 1
  Contract = (κs : Lfts T.signature.lifetimes) → Args T.signature κs → Res T.signature κs → AtExit T κs → Type 0

  -- an answer that the contract allows: the result, and what every lent place holds afterwards
  pub record Answer (says : Contract) (κs : Lfts T.signature.lifetimes) (a : Args T.signature κs) : Type 0 where
    pub result : Res T.signature κs
    pub left : Lasts T κs a
    pub allowed : says κs a result (at_exit T κs a left)

  -- for all arguments there is one answer at most
  abbrev pub One : Contract → Type 0
  One says =
      (κs : Lfts T.signature.lifetimes) (a : Args T.signature κs) (x y : Answer says κs a) → (x.result ≡ y.result) × (x.left ≡ y.left)

-- Pairs are equal where their parts are. What is left has a part for each parameter in turn; where the parameter is not lent to be written the
-- part is empty, and `refl` will do.
infixr 20 ◌&◌
pub ◌&◌ : {A B : Type 0} {x y : A × B} → x.0 ≡ y.0 → x.1 ≡ y.1 → x ≡ y
◌&◌ p q i = (p i, q i)
