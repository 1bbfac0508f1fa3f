-- The kit's words that the proofs use, with the house's shorter names for some: a proof takes them all from here. Definitions and contracts name the
-- library itself.
pub use mathlib.Core.Path.{◌≡◌, ◌∙◌, sym, ap, refl, subst, ap₂, subst₂}
pub use mathlib.Core.Logic.{⊎_elim, inl, inr, ◌⊎◌, ◌≢◌, ◌↔◌}
pub use mathlib.Core.Bool.{true, false, Bool, cond, ◌&&◌, not, ◌||◌, false≢true, or-false, true≢false, and-false, or_assoc, beq as bool_beq, and-true}
pub use mathlib.Core.List.Memᴰ.{head as here}
pub use mathlib.Core.List.Memᴰ.{tail as there}
pub use mathlib.Core.List.{List, [], ◌∷◌, ◌++◌, map, Memᴰ as In, append-nil, append_assoc}
pub use mathlib.Core.List.Memᴰ.{append_left as in_append_left}
pub use mathlib.Core.List.Memᴰ.{cases_cons as in_cons}
pub use mathlib.Core.List.Memᴰ.{map as in_map}
pub use mathlib.Core.List.Memᴰ.{not-nil as in_nil}
pub use mathlib.Core.List.Memᴰ.{of_map as in_of_map}
pub use mathlib.Core.List.{map-append}
pub use mathlib.Core.List.Memᴰ.{append_cases as in_append}
pub use mathlib.Core.List.Memᴰ.{append_right as in_append_right}
pub use mathlib.Core.List.Memᴰ.{eq_of_singleton as in_one}
pub use Prim.Native.Nat.{◌≤◌, ℕ, ◌<◌, ◌-◌, ◌+◌, suc, ◌*◌, zero, ◌/◌, ◌^◌, ◌%◌, zero-le, min}
pub use native.Mathlib.Nat.{add-zero, zero-add, not-suc-le-zero, le_of_suc-le-suc, one-le-pow, eq-or-lt_of_le, one-mul, pow-succ'}
pub use native.Mathlib.Numerals.{add-one, sub-one}
pub use native.Mathlib.Omega.{arith}
pub use lib.Dec.{eqb, leb, ltb, T}
pub use lib.IntN.{ℤ, pos, nat_abs, negsuc, ◌-ℤ◌, +ℤ_idl, neg_ℤ}
pub use lib.Signed.{lt_z}
pub use lib.Pow.{pow_mono, pow_pos}
pub use lib.ListN.{length, get_or, drop, take, replicate, set, length-append, length-set, length-map, length-drop, length-replicate, drop_of_length-le}
pub use lib.ListN.{length-take, get_or-append as list_get_or_append, take-append-drop, get_or-map as list_get_or_map, get_or-eq_default as list_get_or_eq_default, get_or-replicate, replicate-append-replicate}
pub use lib.Seq.{length-take-le, drop-cons, take_all, get_or-set_other, take_at, get_or-take, get_or-set_same, take-suc, get_or-drop, drop-drop, sets}
pub use lib.Seq.{drop_at, ext_get_or, drop-length, take-suc-set, take-length, take-take, sets-eq, append_snoc, get_or-append-add, drop-set-lt}
pub use lib.Seq.{drop-append_seam, set_at}
pub use mir.Syntax.{w16}
pub use mir.Val.{SFits, to_z, of_z, Val}
pub use mir.Facts.{to_z-of_z, to_z_pos}
pub use borrow.Author.Rules.{rules, sfits_of}
pub use borrow.Author.Tests.{ne_eqb, eq-eqb, not-false, not-true, le-leb, eqb-true, ltb-true, lt-ltb, leb-true, le-ltb, eqb-false, lt-leb, ltb-false}
pub use borrow.Author.Tests.{leb-false}
pub use borrow.Author.Count.{below_none, below_more}
