-- From the start of a run to its end: what was handed on and what is left are the whole journal.
use Rattle.meaning.proofs.Kit.{◌≡◌, ◌∙◌, sym, ap, refl, true, false, Bool, List, [], ◌++◌, append-nil, append_assoc, ℕ, suc, zero, ℤ, length, take}
use Rattle.meaning.proofs.Kit.{drop_of_length-le, ltb-false}
use Rattle.board.specs.declared.Board.{Board}
use Rattle.lines.specs.Commands.{lines_of}
use Rattle.journal.specs.Told.{left}
use Rattle.journal.specs.Promises.{all_lines, Begins, Ends, Handed, nothing, another, WritesAll}
use Rattle.journal.specs.declared.Run.{Run}

pub begins : Begins
begins table input = refl

no_lines : (most ordinal : ℕ) (b : Board) (table : List ℤ) → lines_of most ordinal b table [] ≡ []
unfolding lines_of
no_lines zero ordinal b table = refl
no_lines (suc most) ordinal b table = refl

pub ends : Ends
ends run table input e = go run.stops refl
  where
    go : (t : Bool) → run.stops ≡ t → left run table input ≡ []
    go true f = rw f
    go false f =
        rw (f, drop_of_length-le input {i = run.next} (ltb-false run.next (length input) (rw f at e)))
        (no_lines (length input) run.ordinal run.board table)

module _ (table : List ℤ) (input : List ℕ) where
  handed_and_left : {run : Run} {after : List ℤ} {text : List ℕ} → Handed table input run after text
      → text ++ left run after input ≡ all_lines table input
  handed_and_left nothing = begins table input
  handed_and_left (another {next = next} {after = after} {text = text} out h filled) =
      append_assoc text (take next.filled out) (left next after input) ∙ ap (λ (l : List ℕ). text ++ l) filled ∙ handed_and_left h

pub writes_all : WritesAll
writes_all table input run after text h e =
    sym (append-nil text) ∙ ap (λ (l : List ℕ). text ++ l) (sym (ends run after input e)) ∙ handed_and_left table input h
