-- What a line orders, by the bytes of its first word.
use Rattle.meaning.proofs.Kit.{◌≡◌, refl, List, [], ◌∷◌, ℕ, ◌<◌, arith, length, get_or, ne_eqb, eq-eqb}
use Rattle.names.specs.Names.{run}
use Rattle.orders.specs.Orders.{order_at, order_of, slot_of_order}
use Rattle.orders.specs.declared.order.Order.TheVariants.{Nothing, Unknown}

pub order_of_none : (word : List ℕ) → length word ≡ 0 → Nothing ≡ order_of word
unfolding order_of
order_of_none [] h = refl
order_of_none (c ∷ rest) h = absurd (omega arith)

pub order_of_remark : (word : List ℕ) → 0 < length word → get_or word 0 0 ≡ 35 → Nothing ≡ order_of word
unfolding order_of
order_of_remark [] h e = absurd (omega arith)
order_of_remark (c ∷ rest) h e = rw (eq-eqb c 35 e)

pub order_unknown : (word : List ℕ) → 0 < length word → (get_or word 0 0 ≡ 35 → ⊥) → (run word ≡ length word → ⊥) → Unknown ≡ order_of word
unfolding order_of
order_unknown [] h e n = absurd (omega arith)
order_unknown (c ∷ rest) h e n = rw (ne_eqb c 35 e, ne_eqb (run (c ∷ rest)) (length (c ∷ rest)) n)

pub order_in_table : (word : List ℕ) → 0 < length word → (get_or word 0 0 ≡ 35 → ⊥) → run word ≡ length word → order_at (slot_of_order word) ≡ order_of word
unfolding order_of
order_in_table [] h e n = absurd (omega arith)
order_in_table (c ∷ rest) h e n = rw (ne_eqb c 35 e, eq-eqb (run (c ∷ rest)) (length (c ∷ rest)) n)
