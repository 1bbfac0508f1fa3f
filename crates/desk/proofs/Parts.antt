-- A part of the input that was gathered, where a line feed ends it and where none does.
use Rattle.meaning.proofs.Kit.{◌≡◌, true, false, List, ◌++◌, ℕ, take}
use Rattle.orders.specs.States.{State}
use Rattle.desk.specs.Sittings.{Sat, kept, after_line, after_part}

module _ (s : Sat) (part : List ℕ) where
  pub part_ended : (next : State) (filled : ℕ) (line : List ℕ) → next ≡ after_line s.state (kept (s.pending ++ part)) → filled ≡ 0
      → ◌≡◌ {A = Sat} (record { state = next; pending = take filled line }) (after_part s part true)
  part_ended next filled line e none = rw (e, none)

  pub part_goes_on : (line : List ℕ) (filled : ℕ) → take filled line ≡ kept (s.pending ++ part)
      → ◌≡◌ {A = Sat} (record { state = s.state; pending = take filled line }) (after_part s part false)
  part_goes_on line filled e = rw e
