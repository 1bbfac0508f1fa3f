-- The desk's request: "Lines for every call: open, name, rule .., hold, drop, ask, why .., ground, marks .., blame, least .., sets .., push, pop,
-- valve and pairs .., furnace 1 or 2, rows, cnf .., help. Blank lines and lines that begin with `#` are taken."
use Rattle.std.specs.Prelude.{ℕ, cond, List, [], ◌∷◌, eqb, length, Option, Some, None}
use Rattle.names.specs.Slots.{slot_of}
use Rattle.names.specs.Names.{run}
use Rattle.orders.specs.declared.order.Order.{Order}
use Rattle.orders.specs.declared.order.Order.TheVariants.{Open, Name, Rule, Hold, Drop, Push, Pop, Valve, Pairs, Furnace, Ask, Why, Ground}
use Rattle.orders.specs.declared.order.Order.TheVariants.{Marks, Blame, Least, Sets, Rows, Cnf, Echo, Help, Unknown, Nothing}

-- the first words, in ASCII, in slots of eight bytes
abbrev pub first_words : List ℕ
first_words =
    111 ∷ 112 ∷ 101 ∷ 110 ∷ 0 ∷ 0 ∷ 0 ∷ 0 ∷ {- open -}
    110 ∷ 97 ∷ 109 ∷ 101 ∷ 0 ∷ 0 ∷ 0 ∷ 0 ∷ {- name -}
    114 ∷ 117 ∷ 108 ∷ 101 ∷ 0 ∷ 0 ∷ 0 ∷ 0 ∷ {- rule -}
    104 ∷ 111 ∷ 108 ∷ 100 ∷ 0 ∷ 0 ∷ 0 ∷ 0 ∷ {- hold -}
    100 ∷ 114 ∷ 111 ∷ 112 ∷ 0 ∷ 0 ∷ 0 ∷ 0 ∷ {- drop -}
    112 ∷ 117 ∷ 115 ∷ 104 ∷ 0 ∷ 0 ∷ 0 ∷ 0 ∷ {- push -}
    112 ∷ 111 ∷ 112 ∷ 0 ∷ 0 ∷ 0 ∷ 0 ∷ 0 ∷ {- pop -}
    118 ∷ 97 ∷ 108 ∷ 118 ∷ 101 ∷ 0 ∷ 0 ∷ 0 ∷ {- valve -}
    112 ∷ 97 ∷ 105 ∷ 114 ∷ 115 ∷ 0 ∷ 0 ∷ 0 ∷ {- pairs -}
    102 ∷ 117 ∷ 114 ∷ 110 ∷ 97 ∷ 99 ∷ 101 ∷ 0 ∷ {- furnace -}
    97 ∷ 115 ∷ 107 ∷ 0 ∷ 0 ∷ 0 ∷ 0 ∷ 0 ∷ {- ask -}
    119 ∷ 104 ∷ 121 ∷ 0 ∷ 0 ∷ 0 ∷ 0 ∷ 0 ∷ {- why -}
    103 ∷ 114 ∷ 111 ∷ 117 ∷ 110 ∷ 100 ∷ 0 ∷ 0 ∷ {- ground -}
    109 ∷ 97 ∷ 114 ∷ 107 ∷ 115 ∷ 0 ∷ 0 ∷ 0 ∷ {- marks -}
    98 ∷ 108 ∷ 97 ∷ 109 ∷ 101 ∷ 0 ∷ 0 ∷ 0 ∷ {- blame -}
    108 ∷ 101 ∷ 97 ∷ 115 ∷ 116 ∷ 0 ∷ 0 ∷ 0 ∷ {- least -}
    115 ∷ 101 ∷ 116 ∷ 115 ∷ 0 ∷ 0 ∷ 0 ∷ 0 ∷ {- sets -}
    114 ∷ 111 ∷ 119 ∷ 115 ∷ 0 ∷ 0 ∷ 0 ∷ 0 ∷ {- rows -}
    99 ∷ 110 ∷ 102 ∷ 0 ∷ 0 ∷ 0 ∷ 0 ∷ 0 ∷ {- cnf -}
    101 ∷ 99 ∷ 104 ∷ 111 ∷ 0 ∷ 0 ∷ 0 ∷ 0 ∷ {- echo -}
    104 ∷ 101 ∷ 108 ∷ 112 ∷ 0 ∷ 0 ∷ 0 ∷ 0 ∷ {- help -}
    []

unfoldable pub slot_of_order : List ℕ → Option ℕ
slot_of_order word = slot_of 8 21 first_words word

abbrev pub order_at : (slot : Option ℕ) → Order
order_at None = Unknown
order_at (Some slot) =
    cond (eqb slot 0) Open
    (cond (eqb slot 1) Name
    (cond (eqb slot 2) Rule
    (cond (eqb slot 3) Hold
    (cond (eqb slot 4) Drop
    (cond (eqb slot 5) Push
    (cond (eqb slot 6) Pop
    (cond (eqb slot 7) Valve
    (cond (eqb slot 8) Pairs
    (cond (eqb slot 9) Furnace
    (cond (eqb slot 10) Ask
    (cond (eqb slot 11) Why
    (cond (eqb slot 12) Ground
    (cond (eqb slot 13) Marks
    (cond (eqb slot 14) Blame
    (cond (eqb slot 15) Least
    (cond (eqb slot 16) Sets
    (cond (eqb slot 17) Rows
    (cond (eqb slot 18) Cnf
    (cond (eqb slot 19) Echo
    (cond (eqb slot 20) Help Unknown))))))))))))))))))))

-- the order of a first word; a byte that is none of a name, a zero for one, makes it no word of the table
unfoldable pub order_of : List ℕ → Order
order_of [] = Nothing
order_of (c ∷ rest) =
    let word = c ∷ rest in
    cond (eqb c 35) Nothing (cond (eqb (run word) (length word)) (order_at (slot_of_order word)) Unknown)
