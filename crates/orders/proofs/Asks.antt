-- The lines that ask: the eleven orders that take nothing to do.
use Rattle.meaning.proofs.Kit.{◌≡◌, refl, List, [], ◌∷◌, ℕ}
use types.Run.{OneOf, miss}
use denote.Enum.Declared.{tag_of}
use Rattle.orders.specs.Lines.{ordered_by, asking}
use Rattle.orders.specs.declared.order.Order.{Order}
use Rattle.orders.specs.contracts.order.Order.{the_type}
use Rattle.orders.specs.declared.order.Order.TheVariants.{Open, Name, Rule, Hold, Drop, Push, Pop, Valve, Pairs, Furnace, Ask, Why, Ground}
use Rattle.orders.specs.declared.order.Order.TheVariants.{Marks, Blame, Least, Sets, Rows, Cnf, Echo, Help, Unknown, Nothing}

abbrev asks : List ℕ
asks = 10 ∷ 11 ∷ 12 ∷ 13 ∷ 14 ∷ 15 ∷ 16 ∷ 17 ∷ 18 ∷ 19 ∷ 20 ∷ []

pub asks_only : (o : Order) (lent furnace : ℕ) (names line : List ℕ) → OneOf asks (tag_of the_type o) → ordered_by o lent furnace names line ≡ asking
asks_only Open lent furnace names line k = absurd (miss asks 0 tt k)
asks_only Name lent furnace names line k = absurd (miss asks 1 tt k)
asks_only Rule lent furnace names line k = absurd (miss asks 2 tt k)
asks_only Hold lent furnace names line k = absurd (miss asks 3 tt k)
asks_only Drop lent furnace names line k = absurd (miss asks 4 tt k)
asks_only Push lent furnace names line k = absurd (miss asks 5 tt k)
asks_only Pop lent furnace names line k = absurd (miss asks 6 tt k)
asks_only Valve lent furnace names line k = absurd (miss asks 7 tt k)
asks_only Pairs lent furnace names line k = absurd (miss asks 8 tt k)
asks_only Furnace lent furnace names line k = absurd (miss asks 9 tt k)
asks_only Ask lent furnace names line k = refl
asks_only Why lent furnace names line k = refl
asks_only Ground lent furnace names line k = refl
asks_only Marks lent furnace names line k = refl
asks_only Blame lent furnace names line k = refl
asks_only Least lent furnace names line k = refl
asks_only Sets lent furnace names line k = refl
asks_only Rows lent furnace names line k = refl
asks_only Cnf lent furnace names line k = refl
asks_only Echo lent furnace names line k = refl
asks_only Help lent furnace names line k = refl
asks_only Unknown lent furnace names line k = absurd (miss asks 21 tt k)
asks_only Nothing lent furnace names line k = absurd (miss asks 22 tt k)
