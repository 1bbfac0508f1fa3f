-- There and back: the bytes of a text, read, are the formula that it says, and the text of a formula's bytes has those bytes.
use Rattle.meaning.proofs.Kit.{◌≡◌, ◌∙◌, sym, ap, refl, subst, true, arith, length}
use Rattle.chains.proofs.Words.{Parsed, good, bad, whole_of, bytes_of, is_good, formula_of, whole_text, spelled}
use Rattle.formula.proofs.OwnBytes.{whole_bytes}
use Rattle.formula.proofs.Owned.{Owned, whole_owned}
use Rattle.formula.proofs.Walk.{never}
use Rattle.board.proofs.Adding.{whole_is}
use Rattle.chains.proofs.Again.{spelled_says}
use Rattle.text.specs.Promises.{ReadsAs, SameBytes, TwoOrFive, SaysSame}

pub two_or_five : TwoOrFive
two_or_five S text why at e =
    let f = formula_of (whole_text text) in
    subst (Owned S f (length (bytes_of f))) e (whole_owned S f)

pub says_same : SaysSame
says_same S text f used h e =
    let g = formula_of (whole_text text) in
    sym ((subst (Owned S g (length (bytes_of g))) e (whole_owned S g)).0 (omega arith))

pub same_bytes : SameBytes
same_bytes S bytes h g = by (whole_of S bytes) refl g
  where
    by : (p : Parsed) → whole_of S bytes ≡ p → is_good p ≡ true → ReadsAs (spelled (formula_of p)) bytes
    by (good f used) e k =
        let says = spelled_says S bytes f used (sym (whole_is S bytes g) ∙ e) in
        record { keeps = ap is_good says; same = ap (λ p. bytes_of (formula_of p)) says ∙ whole_bytes S bytes f used (omega (arith, h)) e }
    by (bad why at) e k = never k
