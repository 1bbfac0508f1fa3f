-- Some cases of the definitions, computed.
use Rattle.meaning.proofs.Kit.{◌≡◌, refl, true, false, List, [], ◌∷◌, ℕ, pos, negsuc}
use Rattle.orders.specs.Words.{ends_at, rest_at, word_at}
use Rattle.orders.specs.Reading.{is_number, literal_in, number_in, symbol_in, value_of}
use Rattle.orders.specs.Marks.{are_marks, are_rows, marked_by, rows_marked}
use Rattle.orders.specs.Orders.{order_of, slot_of_order}
use Rattle.std.specs.Prelude.{Ok, Err}
use Rattle.orders.specs.declared.Slip.TheVariants.{NumberDue, SymbolDue}
use Rattle.orders.specs.declared.order.Order.TheVariants.{Furnace, Nothing, Open, Unknown}
use Rattle.dimacs.specs.Words.{since, up_to}
use Rattle.spelling.specs.Text.{decimal}
use Rattle.names.specs.Names.{is_name, run}
use Rattle.names.specs.Slots.{fits, is_over, slot_of}

-- ---- the words of " hold  -12 "

line : List ℕ
line = 32 ∷ 104 ∷ 111 ∷ 108 ∷ 100 ∷ 32 ∷ 32 ∷ 45 ∷ 49 ∷ 50 ∷ 32 ∷ []

word_0 : word_at 0 line ≡ 104 ∷ 111 ∷ 108 ∷ 100 ∷ []
unfolding line word_at rest_at since up_to
word_0 = refl

word_1 : word_at 1 line ≡ 45 ∷ 49 ∷ 50 ∷ []
unfolding line word_at rest_at since up_to
word_1 = refl

word_2 : word_at 2 line ≡ []
unfolding line word_at rest_at since up_to
word_2 = refl

two_words : ends_at 2 line ≡ true
unfolding line ends_at rest_at since
two_words = refl

more_than_one : ends_at 1 line ≡ false
unfolding line ends_at rest_at since
more_than_one = refl

-- ---- numbers: "0007", "99999" and "1a"

zeros_before : number_in (48 ∷ 48 ∷ 48 ∷ 55 ∷ []) ≡ Ok 7
unfolding number_in is_number value_of decimal
zeros_before = refl

at_most : number_in (57 ∷ 57 ∷ 57 ∷ 57 ∷ 57 ∷ []) ≡ Ok 32767
unfolding number_in is_number value_of decimal
at_most = refl

no_digit : number_in (49 ∷ 97 ∷ []) ≡ Err NumberDue
unfolding number_in is_number
no_digit = refl

no_word : number_in [] ≡ Err NumberDue
unfolding number_in is_number
no_word = refl

-- ---- literals: "-12", "0", "-0", "--3" and "-", no symbol being named

minus : literal_in [] (45 ∷ 49 ∷ 50 ∷ []) ≡ Ok (negsuc 11)
unfolding literal_in symbol_in is_number value_of decimal
minus = refl

nought : literal_in [] (48 ∷ []) ≡ Ok (pos 0)
unfolding literal_in symbol_in is_number value_of decimal
nought = refl

minus_nought : literal_in [] (45 ∷ 48 ∷ []) ≡ Ok (pos 0)
unfolding literal_in symbol_in is_number value_of decimal
minus_nought = refl

minus_twice : literal_in [] (45 ∷ 45 ∷ 51 ∷ []) ≡ Err SymbolDue
unfolding literal_in symbol_in is_number is_name
minus_twice = refl

minus_alone : literal_in [] (45 ∷ []) ≡ Err SymbolDue
unfolding literal_in symbol_in is_number is_name
minus_alone = refl

-- ---- orders: "furnace", "open", "opens", "#x" and nothing

furnace : order_of (102 ∷ 117 ∷ 114 ∷ 110 ∷ 97 ∷ 99 ∷ 101 ∷ []) ≡ Furnace
unfolding order_of run slot_of_order slot_of fits is_over
furnace = refl

opened : order_of (111 ∷ 112 ∷ 101 ∷ 110 ∷ []) ≡ Open
unfolding order_of run slot_of_order slot_of fits is_over
opened = refl

longer : order_of (111 ∷ 112 ∷ 101 ∷ 110 ∷ 115 ∷ []) ≡ Unknown
unfolding order_of run slot_of_order slot_of fits is_over
longer = refl

remark : order_of (35 ∷ 120 ∷ []) ≡ Nothing
unfolding order_of
remark = refl

empty : order_of [] ≡ Nothing
unfolding order_of
empty = refl

-- ---- marks: "101", and the words 1 and 2 of "p 10 01"

marks : marked_by (49 ∷ 48 ∷ 49 ∷ []) ≡ 5
unfolding marked_by
marks = refl

table : List ℕ
table = 112 ∷ 32 ∷ 49 ∷ 48 ∷ 32 ∷ 48 ∷ 49 ∷ []

rows : are_rows table 1 2 2 ≡ true
unfolding table are_rows are_marks word_at rest_at since up_to
rows = refl

row_wanting : are_rows table 1 3 2 ≡ false
unfolding table are_rows are_marks word_at rest_at since up_to
row_wanting = refl

pairs : rows_marked table 1 2 ≡ 257
unfolding table rows_marked marked_by word_at rest_at since up_to
pairs = refl
