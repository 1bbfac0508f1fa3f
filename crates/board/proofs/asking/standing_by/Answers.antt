-- What is derived are the places with a rank, and the conflict is the symbol's own or any.
use Rattle.meaning.proofs.Kit.{◌≡◌, ◌∙◌, sym, ap, refl, ap₂, ⊎_elim, Bool, ◌&&◌, not, List, ℕ, ◌<◌, ◌/◌, arith, eqb, nat_abs, length, to_z-of_z, eqb-true}
use Rattle.meaning.proofs.Kit.{eqb-false}
use Rattle.std.specs.Prelude.{Option}
use Rattle.std.specs.Option.{is_some}
use Rattle.meaning.specs.Tests.{none, first}
use Rattle.meaning.specs.Literals.{has, conflict}
use Rattle.meaning.proofs.Tests.{true_or_false}
use Rattle.literals.proofs.Opposites.{opposite_at}
use Rattle.findings.specs.Ranks.{below, clash_in, found}
use Rattle.findings.proofs.Clashes.{clash_none, clash_some}
use Rattle.findings.proofs.Searching.{found_is_some}
use Rattle.board.specs.Asking.{standing_if}
use Rattle.board.proofs.asking.standing_by.Goals as goal
use Rattle.board.proofs.asking.standing_by.Goals.{then-whole, else-whole}

-- there is a symbol whose two literals are derived exactly if there is a conflict
any : (ranks : List ℕ) {one : Option ℕ} → length ranks < none → one ≡ found (first (clash_in ranks) (length ranks / 2))
    → is_some one ≡ conflict (below none ranks)
any ranks few e =
    let n = first (clash_in ranks) (length ranks / 2) in
    found_is_some n e
    ∙ ⊎_elim (λ t. ap not t ∙ sym (clash_none ranks few (eqb-true n none t))) (λ f. ap not f ∙ sym (clash_some ranks few (eqb-false n none f)))
    (true_or_false (eqb n none))

same : {a b c x y z : Bool} → a ≡ x → b ≡ y → c ≡ z → standing_if a b c ≡ standing_if x y z
same e f g = rw (e, f, g)

pub returns : goal.returns
returns c =
    let known = below none c.args.ranks.now in
    let small : nat_abs c.args.l < 32768 = omega arith in
    let derived = rw (to_z-of_z c.ranges.l) at c.is_ranked-derived.ensures in
    let opposed = c.is_ranked-opposed.ensures ∙ ap (has known) (opposite_at c.ranges.l small c.opposite.ensures c.requires.0 refl) in
    c.standing_if.ensures
    ∙ elim c.if-whole.branch [
      | then-whole w ↦ rw w.if-whole.true
          (same (w.clash-is ∙ w.is_some-clash.ensures ∙ any c.args.ranks.now (omega arith) w.first_clash.ensures) derived opposed)
      | else-whole w ↦ rw w.if-whole.false (same (w.clash-is ∙ ap₂ ◌&&◌ derived opposed) derived opposed)
    ]
