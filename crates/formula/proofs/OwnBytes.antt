-- The bytes that a formula is read from are its own: no other bytes are that formula; and how many they can be.
use Rattle.meaning.proofs.Kit.{◌≡◌, ◌∙◌, sym, ap, refl, true, false, Bool, cond, List, ◌∷◌, ◌++◌, ◌≤◌, ℕ, ◌+◌, suc, arith, eqb, leb, length, take}
use Rattle.meaning.proofs.Kit.{take_all, le-leb, eqb-true, leb-true}
use lib.Seq.{take-add}
use Rattle.formula.proofs.Words.{Formula, kind_of, joined, good, levels, parse, whole_of, bytes_of, Join, And, Or, Implies, Same, Kind, Symbol}
use Rattle.formula.proofs.Words.{Not, Two, Unknown}
use Rattle.meaning.proofs.Tests.{both_true}
use Rattle.formula.specs.Promises.{MostBytes}
use Rattle.formula.proofs.Widening.{ended_all}
use Rattle.formula.proofs.Sizes.{used_most}
use Rattle.formula.proofs.Steps.{Taken, one, not, two, taken}

-- the byte of a kind; 0 is none
abbrev byte_for : Kind → ℕ
byte_for Symbol = 0x10
byte_for Not = 0x11
byte_for (Two And) = 0x12
byte_for (Two Or) = 0x13
byte_for (Two Implies) = 0x14
byte_for (Two Same) = 0x15
byte_for Unknown = 0

known : (k : ℕ) → (kind_of k ≡ Unknown → ⊥) → k ≡ byte_for (kind_of k)
known k n = go (eqb k 0x10) refl (eqb k 0x11) refl (eqb k 0x12) refl (eqb k 0x13) refl (eqb k 0x14) refl (eqb k 0x15) refl
  where
    go : (a : Bool) → eqb k 0x10 ≡ a → (b : Bool) → eqb k 0x11 ≡ b → (c : Bool) → eqb k 0x12 ≡ c → (d : Bool) → eqb k 0x13 ≡ d
        → (e : Bool) → eqb k 0x14 ≡ e → (f : Bool) → eqb k 0x15 ≡ f
        → k ≡ byte_for (cond a Symbol (cond b Not (cond c (Two And) (cond d (Two Or) (cond e (Two Implies) (cond f (Two Same) Unknown))))))
    go true ea b eb c ec d ed e ee f ef = eqb-true k 0x10 ea
    go false ea true eb c ec d ed e ee f ef = eqb-true k 0x11 eb
    go false ea false eb true ec d ed e ee f ef = eqb-true k 0x12 ec
    go false ea false eb false ec true ed e ee f ef = eqb-true k 0x13 ed
    go false ea false eb false ec false ed true ee f ef = eqb-true k 0x14 ee
    go false ea false eb false ec false ed false ee true ef = eqb-true k 0x15 ef
    go false ea false eb false ec false ed false ee false ef = absurd (n (rw (ea, eb, ec, ed, ee, ef)))

kind_byte : (k : ℕ) (kind : Kind) → 1 ≤ byte_for kind → kind_of k ≡ kind → k ≡ byte_for kind
kind_byte k kind some e = known k (λ u. omega (arith, ap byte_for (sym e ∙ u))) ∙ ap byte_for e

join_some : (join : Join) → 1 ≤ byte_for (Two join)
join_some And = omega arith
join_some Or = omega arith
join_some Implies = omega arith
join_some Same = omega arith

joined_bytes : (join : Join) (f g : Formula) → bytes_of (joined join f g) ≡ byte_for (Two join) ∷ bytes_of f ++ bytes_of g
unfolding bytes_of
joined_bytes And f g = refl
joined_bytes Or f g = refl
joined_bytes Implies f g = refl
joined_bytes Same f g = refl

taken_bytes : {S depth used : ℕ} {bytes : List ℕ} {f : Formula} → S ≤ 255 → Taken S depth bytes f used → take used bytes ≡ bytes_of f
unfolding bytes_of
taken_bytes {S} h (one {k = k} {s = s} e fits) =
    let small = leb-true s S (both_true (leb 1 s) (leb s S) fits).1 in
    rw (kind_byte k Symbol (omega arith) e, le-leb s 255 (omega (arith, small)))
taken_bytes h (not {k = k} {used = used} {body = body} e t) =
    let more : 1 + used ≡ suc used = omega arith in
    rw (kind_byte k Not (omega arith) e, more, taken_bytes h t)
taken_bytes h (two {k = k} {used = used} {more = more} {body = body} {f = f} {g = g} {join = join} e t u) =
    let all : 1 + used + more ≡ suc (used + more) = omega arith in
    rw (kind_byte k (Two join) (join_some join) e, all, take-add used more body, taken_bytes h t, taken_bytes h u) (sym (joined_bytes join f g))

-- of a whole formula they are all the bytes

pub whole_long : (S : ℕ) (bytes : List ℕ) {f : Formula} {used : ℕ} → whole_of S bytes ≡ good f used → used ≡ length bytes
unfolding whole_of
whole_long S bytes e = (ended_all (parse S levels bytes) (length bytes) e).1

pub whole_bytes : (S : ℕ) (bytes : List ℕ) (f : Formula) (used : ℕ) → S ≤ 255 → whole_of S bytes ≡ good f used → bytes_of f ≡ bytes
unfolding whole_of
whole_bytes S bytes f used h e =
    let all = ended_all (parse S levels bytes) (length bytes) e in
    sym (taken_bytes h (taken S all.0)) ∙ take_all used bytes (omega (arith, all.1))

pub most_bytes_lem : MostBytes
unfolding whole_of
most_bytes_lem S bytes f used e =
    let all = ended_all (parse S levels bytes) (length bytes) e in
    omega (arith, all.1, used_most S bytes all.0)
