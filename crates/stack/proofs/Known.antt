-- What a call knows of a furnace's stack once it has tested the stacks, the board and the furnace.
use Rattle.meaning.proofs.Kit.{◌≡◌, true, List, ◌≤◌, ℕ, arith, ℤ, length}
use Rattle.board.specs.Furnaces.{is_furnace, held_by}
use Rattle.board.specs.Faults.{good_board}
use Rattle.board.specs.declared.Board.{Board}
use Rattle.board.proofs.Goodness.{good_is}
use Rattle.stack.specs.Stacking.{stack_of, good_stack, good_stacks}
use Rattle.stack.specs.declared.Stacks.{Stacks}
use Rattle.stack.proofs.GoodStacks.{GoodStack, stack_is, of_furnace, stack_of_good}

pub record Known (b : Board) (s : Stacks) (furnace : ℕ) : Type 0 where
  pub symbols : b.symbols ≤ 200
  pub is_good_lem : good_stack b.symbols (held_by b furnace) (stack_of s furnace) ≡ true
  pub good : GoodStack b.symbols (held_by b furnace) (stack_of s furnace)
  pub most : (stack_of s furnace).count ≤ 400
  pub places : (stack_of s furnace).count ≤ length (stack_of s furnace).literals

pub known : (table : List ℤ) (b : Board) (s : Stacks) (furnace : ℕ) → good_stacks b s ≡ true → good_board table b ≡ true → is_furnace furnace ≡ true
    → length s.first.literals ≡ 400 → length s.second.literals ≡ 400 → Known b s furnace
known table b s furnace good board f long long' =
    let is = stack_of_good b s furnace good f in
    let g = stack_is b.symbols (held_by b furnace) (stack_of s furnace) is in
    let places = of_furnace (λ held t. length t.literals ≡ 400) b s furnace long long' f in
    let few = (good_is table b board).sound.symbols in
    let most : (stack_of s furnace).count ≤ 400 = omega (arith, g.few, few) in
    record { symbols = few; is_good_lem = is; good = g; most = most; places = omega (arith, most, places) }
