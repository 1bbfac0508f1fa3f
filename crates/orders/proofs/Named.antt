-- A symbol that is given a name is one that there is a slot for.
use Rattle.meaning.proofs.Kit.{◌≡◌, ◌∙◌, sym, ap, refl, true, false, Bool, cond, ◌&&◌, not, false≢true, List, [], ◌∷◌, ◌++◌, ◌≤◌, ℕ, ◌+◌, arith, eqb}
use Rattle.meaning.proofs.Kit.{leb, length, drop, take, length-drop, length-take-le, leb-true}
use borrow.Rule.Slice.PartMut.{mid_of, put_mid}
use denote.Enum.Declared.{tag_of}
use types.Run.{OneOf, miss}
use Rattle.meaning.proofs.Tests.{both_true}
use Rattle.names.specs.Slots.{padded}
use Rattle.names.specs.Names.{most_named}
use Rattle.orders.specs.States.{named_reply, is_symbol, is_taken, is_made, simply}
use Rattle.orders.specs.declared.Told.{Told}
use Rattle.orders.specs.declared.Reply.{Reply}
use Rattle.orders.specs.declared.Reply.TheVariants.{Done as Made, Refused as Denied, Not, Asks, Nothing}
use Rattle.orders.specs.contracts.Reply.{the_type}
use Rattle.orders.specs.declared.Slip.TheVariants.{NameTaken}
use Rattle.literals.specs.declared.refusal.Refusal.TheVariants.{BadBoard, BadLiteral}

symbol_fits : (S s : ℕ) → is_symbol S s ≡ true → (1 ≤ s) × (s ≤ 200)
symbol_fits S s e =
    let both = both_true (leb 1 s && leb s S) (leb s most_named) e in
    (leb-true 1 s (both_true (leb 1 s) (leb s S) both.0).0, leb-true s 200 both.1)

pub named_fits : (S : ℕ) (names : List ℕ) (s : ℕ) (word : List ℕ) (told : Told) → told ≡ named_reply S names s word → told.reply ≡ Made
    → (1 ≤ s) × (s ≤ 200)
unfolding named_reply
named_fits S names s word told e made =
    go (eqb S 0) (is_symbol S s) refl (ap (λ (t : Told). is_made t.reply) (sym e) ∙ ap is_made made)
  where
    go : (z t : Bool) → is_symbol S s ≡ t
        → is_made
        (cond z (simply (Denied BadBoard))
        (cond (not t) (simply (Denied BadLiteral))
        (cond (is_taken names s word) (record { reply = Not NameTaken; place = 2; added = 0 }) (simply Made)))
        ).reply
        ≡ true → (1 ≤ s) × (s ≤ 200)
    go z true f h = symbol_fits S s f
    go true false f h = absurd (false≢true h)
    go false false f h = absurd (false≢true h)

-- where the tests are not passed, nothing is written
pub unmade : (r : Reply) → OneOf (1 ∷ 2 ∷ 3 ∷ 4 ∷ []) (tag_of the_type r) → is_made r ≡ false
unmade Made k = absurd (miss (1 ∷ 2 ∷ 3 ∷ 4 ∷ []) 0 tt k)
unmade (Denied why) k = refl
unmade (Not slip) k = refl
unmade Asks k = refl
unmade Nothing k = refl

-- the slot as it is written
pub slot_written : (names : List ℕ) (at k : ℕ) (word part : List ℕ) → k ≡ 24 → at + 24 ≤ length names
    → part ≡ padded (length (mid_of at k names)) word
    → put_mid at k names part ≡ take at names ++ (padded 24 word ++ drop 24 (drop at names))
slot_written names at k word part e h p =
    let long : length (take 24 (drop at names)) ≡ 24 = length-take-le 24 (drop at names) (omega (arith, length-drop at names)) in
    rw (p, e, long)
