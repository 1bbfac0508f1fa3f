-- `line_length` meets its contract: the first line feed's place, or the length.
use Rattle.std.proofs.Common.{◌≡◌, ◌∙◌, refl, ap, true, false, Bool, cond, not, Some, None, List, ℕ, ◌==◌, arith, length, rules, tests, nat_lt}
use Rattle.std.specs.List.{position, position_or_len}
use Rattle.std.specs.Option.{unwrap_or}
use Rattle.std.proofs.lemmas.Iterator.{YieldsList-from_slice}
use Rattle.std.proofs.lemmas.Iterator.Search.{position_from_yields_List}
use Rattle.std.proofs.lemmas.List.Sums.{prefix_len-le-length}
use borrow.Author.Tests.{ltb-false}
use Rattle.input.proofs.line_length.Goals as goal

-- the place, or the length where there is none
place_or_length : (p : ℕ → Bool) (bytes : List ℕ) → unwrap_or (position p bytes) (length bytes) ≡ position_or_len p bytes
place_or_length p bytes = go (nat_lt place (length bytes)) refl
  where
    place : ℕ
    place = position_or_len p bytes

    go : (t : Bool) → nat_lt place (length bytes) ≡ t → unwrap_or (cond t (Some place) None) (length bytes) ≡ place
    go true e = refl
    go false e = omega (arith, prefix_len-le-length (λ b. not (p b)) bytes, ltb-false _ _ e)

pub returns-clause-value : goal.returns-clause-value
returns-clause-value c =
    let bytes = c.args.bytes.now in
    let place =
    position_from_yields_List (λ b. b == 10) _ _ c.position.result c.position.ensures.ran (YieldsList-from_slice bytes cc)
    (λ x b q k. search (rules, tests)) in
    c.unwrap_or.ensures ∙ ap (λ o. unwrap_or o (length bytes)) place ∙ place_or_length (λ b. b == 10) bytes
