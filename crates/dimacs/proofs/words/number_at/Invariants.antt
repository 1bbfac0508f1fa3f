-- The loop of `words::number_at`: no gap stands before this byte, and what is left of the word goes on from `value`.
use Rattle.meaning.proofs.Kit.{◌≡◌, ◌≤◌, ◌+◌, drop}
use Rattle.dimacs.specs.Words.{beyond, is_gap, number_of, up_to}
use Rattle.dimacs.proofs.Scanning.{Sought}
use Rattle.dimacs.proofs.Numbers.{spelled}
use Rattle.dimacs.proofs.words.number_at.Given as goal

abbrev pub invariant-loop-k : goal.invariant-loop-k
invariant-loop-k l = record {
  sought : Sought is_gap l.text l.at (l.at + l.k);
  goes_on : number_of (up_to is_gap (drop l.at l.text)) ≡ spelled l.value (up_to is_gap (drop (l.at + l.k) l.text));
  most : l.value ≤ beyond;
}
