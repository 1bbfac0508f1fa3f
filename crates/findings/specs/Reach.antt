-- What literals reach through their supports.
use Rattle.std.specs.Prelude.{◌≡◌, Bool, true, false, cond, not, ◌&&◌, ◌||◌, List, [], ℕ, ◌+◌, ◌*◌, ◌<◌, eqb, ltb, length, get_or, replicate}
use Rattle.meaning.specs.Tests.{any, tabulate, none}
use Rattle.meaning.specs.Literals.{opp, has}
use Rattle.meaning.specs.Rounds.{ranks_of}
use Rattle.meaning.specs.Ground.{reaches}
use Rattle.findings.specs.Ranks.{support_from, earliest_in}

-- x is the opposite of a literal of the row other than p
unfoldable pub opposed : ℕ → List ℕ → ℕ → Bool
opposed p row x = any (λ q. not (eqb q p) && eqb (opp q) x) row

-- the literal p leads to x: x is the opposite of another literal of the support that the ranks tell of p
unfoldable pub leads : List (List ℕ) → (ranks : List ℕ) → ℕ → ℕ → Bool
leads rows ranks p = opposed p (get_or rows (support_from rows ranks p) [])

-- the set with all that pass the test
unfoldable pub join : List Bool → (ℕ → Bool) → List Bool
join marks test = tabulate (length marks) (λ x. has marks x || test x)

-- `last` is the smallest set that has all of `first` and whatever its literals lead to
pub record Followed (rows : List (List ℕ)) (ranks : List ℕ) (first last : List Bool) : Type 0 where
  pub has_first : (x : ℕ) → has first x ≡ true → has last x ≡ true
  pub closed : (p x : ℕ) → has last p ≡ true → x < length last → leads rows ranks p x ≡ true → has last x ≡ true
  pub smallest : (inside : ℕ → Bool) → ((x : ℕ) → has first x ≡ true → inside x ≡ true)
      → ((p x : ℕ) → inside p ≡ true → leads rows ranks p x ≡ true → inside x ≡ true)
      → (x : ℕ) → has last x ≡ true → inside x ≡ true

-- the held premises of the set
unfoldable pub held_only : List Bool → List Bool → List Bool
held_only held marks = tabulate (length marks) (λ p. has marks p && has held p)

-- the premises that one of two literals reaches
unfoldable pub reached_from : (places : ℕ) → List (List ℕ) → List Bool → (p q : ℕ) → List Bool
reached_from places rows held p q = tabulate places (λ h. reaches places rows held p h || reaches places rows held q h)

-- the premises that the literal p reaches; where p is no place, those that either literal of the symbol that blame takes reaches, if there is
-- one
unfoldable pub reached_asked : (places : ℕ) → List (List ℕ) → List Bool → ℕ → List Bool
reached_asked places rows held p =
    let s = earliest_in (ranks_of places rows held) in
    cond (ltb p places) (reached_from places rows held p p)
    (cond (ltb s none) (reached_from places rows held (2 * s) (2 * s + 1)) (replicate places false))
