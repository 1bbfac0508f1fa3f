-- What is left where an answer cannot be written; and what is known where all the input was read.
use Rattle.std.proofs.Common.{◌≡◌, ap, subst, List, ℕ, ℤ, Result, Ok, Err, Option, None, Some, take}
use Rattle.std.specs.Result.{OnErr}
use Rattle.std.specs.Option.{IfSome}
use Rattle.std.specs.Io.KnownBytes.{Consumes, IsAtEnd}
use Rattle.std.proofs.KnownBytes.{Consumes-whole}
use Rattle.orders.specs.States.{State, state_of}
use Rattle.orders.specs.declared.Desk.{Desk}
use Rattle.desk.specs.Sittings.{Sat, after_bytes, Leaves}

-- a desk's table and names, where its state is known
pub leaves : {s : State} {d : Desk} {table : List ℤ} {names : List ℕ} → state_of d table names ≡ s → Leaves s table names
leaves e = (ap (λ (u : State). u.world.table) e, ap (λ (u : State). u.names) e)

-- the same where so many bytes were taken
pub leaves_up_to : (s : Sat) (bytes : List ℕ) (n : ℕ) {t : Sat} {table : List ℤ} {names : List ℕ} → t ≡ after_bytes s (take n bytes) → Leaves t.state table names
    → (m : ℕ) × Leaves (after_bytes s (take m bytes)).state table names
leaves_up_to s bytes n {table} {names} e h = (n, subst (λ (u : Sat). Leaves u.state table names) e h)

-- what holds anyway holds where there is an error
pub on_err : {T E P : Type 0} (r : Result T E) → P → OnErr r P
on_err (Ok x) p = tt
on_err (Err y) p = p

-- what holds of the bytes that were read holds of all that there were, once the end is reached
pub of_all : (before after : Option (List ℕ)) (text : List ℕ) (H : Type 0) (P : List ℕ → Type 0) → Consumes before after text → (H → IsAtEnd after) → P text
    → IfSome before (λ all. H → P all)
of_all None after text H P took ends p = tt
of_all (Some all) after text H P took ends p = λ h. Consumes-whole (Some all) after text P took (ends h) p
