-- Which rows can give something new in a round, and that they count one open literal or none.
use Rattle.meaning.proofs.Kit.{◌≡◌, ◌∙◌, sym, refl, subst, ⊎_elim, inl, inr, ◌⊎◌, true, false, Bool, ◌||◌, List, In, ◌≤◌, ℕ, ◌<◌, ◌+◌, arith, eqb, ℤ}
use Rattle.meaning.proofs.Kit.{length, get_or, take, length-take-le, get_or-take, eq-eqb, eqb-true, ltb-true, ltb-false}
use Rattle.meaning.specs.Tests.{member, none}
use Rattle.meaning.specs.Literals.{opp, has}
use Rattle.meaning.specs.Rounds.{gives}
use Rattle.meaning.proofs.Tests.{true_or_false, one_true_lem, or_left, or_right, clash, any_at, all_at, all_or_not, in_member, in_at}
use Rattle.meaning.proofs.Literals.{opp_opp, has_below}
use Rattle.meaning.proofs.Gives.{gives_words, gives_of}
use Rattle.literals.specs.Row.{numbers_at, decode, rows_in, Fit}
use Rattle.literals.proofs.Differing.{row_differs}
use Rattle.findings.specs.Ranks.{below}
use Rattle.findings.specs.Queue.{counted, Queued}
use Rattle.findings.proofs.RankTables.{below_rank, length_below}
use Rattle.findings.proofs.Queueing.{same_or_not, queued_none}
use Rattle.rounds.specs.Ranks.{ranks_after}
use Rattle.rounds.specs.Queue.{ranked, Frontier}
use Rattle.rounds.specs.Visits.{Touched, Settled, Looked, Counts}
use Rattle.rounds.proofs.Looking.{row_of, looked_none, looked_less, looked_more, looked_all}
use Rattle.rounds.proofs.Frontiers.{frontier_kept}
use Rattle.rounds.proofs.Counting.{open_fewer, gives_open}

-- the rank of a place that is known
known_rank : (l : List ℕ) (j p : ℕ) → has (below j l) p ≡ true → (p < length l) × (get_or l p 0 < j)
known_rank l j p e =
    let b : p < length l = rw (length_below j l) at (has_below (below j l) p e) in
    (b, ltb-true _ _ (sym (below_rank j l p b) ∙ e))

module _ {k from to : ℕ} {l queue : List ℕ} (front : Frontier l queue k from to) where
  -- a row that gives something new in round k + 1 contains the opposite of a place of rank k, but for round 1
  pub new_row : (used : ℕ) (table : List ℤ) → (k ≡ 0) ⊎ Settled k (rows_in used table) l
      → (r p : ℕ) → r < used → p < length l → get_or l p 0 ≡ none → gives (below (k + 1) l) (decode (numbers_at table r)) p ≡ true
      → Touched table queue from to r ⊎ (k ≡ 0)
  new_row used table old r p h b n g =
      ⊎_elim
      (λ a. before (gives_of (below k l) row p words.0 (λ q m. known q (all_at test a m))))
      (λ x. touched x.0 x.1 x.2)
      (all_or_not test row)
    where
      row : List ℕ
      row = decode (numbers_at table r)

      test : ℕ → Bool
      test q = eqb q p || has (below k l) (opp q)

      words : In p row × ((q : ℕ) → In q row → (q ≡ p) ⊎ (has (below (k + 1) l) (opp q) ≡ true))
      words = gives_words (below (k + 1) l) row p g

      known : (q : ℕ) → test q ≡ true → (q ≡ p) ⊎ (has (below k l) (opp q) ≡ true)
      known q e = ⊎_elim (λ y. inl (eqb-true q p y)) (λ y. inr y) (one_true_lem (eqb q p) (has (below k l) (opp q)) e)

      before : gives (below k l) row p ≡ true → Touched table queue from to r ⊎ (k ≡ 0)
      before e = ⊎_elim (λ z. inr z) (λ s. absurd (s p b (any_at (λ x. gives (below k l) x p) (row_of used table r h) e) n)) old

      touched : (q : ℕ) → In q row → test q ≡ false → Touched table queue from to r ⊎ (k ≡ 0)
      touched q m e =
          let new : has (below (k + 1) l) (opp q) ≡ true =
          ⊎_elim (λ y. clash (or_left (eqb q p) (has (below k l) (opp q)) (eq-eqb q p y)) e) (λ y. y) (words.1 q m) in
          let rank = known_rank l (k + 1) (opp q) new in
          let low : k ≤ get_or l (opp q) 0 =
          ⊎_elim
          (λ y. clash (or_right (eqb q p) (has (below k l) (opp q)) y) e)
          (λ y. ltb-false _ _ (sym (below_rank k l (opp q) rank.0) ∙ y))
          (true_or_false (has (below k l) (opp q))) in
          let f = front.has (opp q) rank.0 (omega (arith, rank.1, low)) in
          inl (f.0, f.1, f.2, rw (f.3, opp_opp q) (in_member m))

  -- what has a rank up to k stands in the queue
  queued : from ≤ to → to ≤ length queue → (x : ℕ) → has (below (k + 1) l) x ≡ true → member x (take to queue) ≡ true
  queued up room x e =
      let rank = known_rank l (k + 1) x e in
      ⊎_elim
      (λ y. (let f = front.has x rank.0 y in at f.0 f.2 f.3))
      (λ y. (let f = front.lower x rank.0 (omega (arith, rank.1, y)) in at f.0 (omega (arith, f.1, up)) f.2))
      (same_or_not (get_or l x 0) k)
    where
      at : (i : ℕ) → i < to → get_or queue i 0 ≡ x → member x (take to queue) ≡ true
      at i h is =
          subst (λ y. member y (take to queue) ≡ true) (get_or-take to queue i 0 h ∙ is)
          (in_member (in_at (take to queue) i 0 (omega (arith, h, length-take-le to queue room))))

  -- so a row that gives something counts one open literal or none
  pub new_few : {places used : ℕ} {table : List ℤ} {counts : List ℕ} → Fit places used table → from ≤ to → to ≤ length queue
      → Counts used table queue to counts → (r p : ℕ) → r < used → gives (below (k + 1) l) (decode (numbers_at table r)) p ≡ true → get_or counts r 0 ≤ 1
  new_few {table = table} fit up room w r p h g =
      let row = decode (numbers_at table r) in
      let fewer = open_fewer (has (below (k + 1) l)) (λ x. member x (take to queue)) (queued up room) row in
      ⊎_elim (λ e. e) (λ e. omega (arith, e, fewer, gives_open (below (k + 1) l) p row (row_differs fit r h) g)) (w.each r h)

-- ---- a round

-- round k + 1 has begun, from the ranks l to the ranks m: if it is the first the rows that count one literal or none were looked at
pub record Begun (k used : ℕ) (table : List ℤ) (counts l m queue : List ℕ) (to : ℕ) (longer : List ℕ) (end : ℕ) : Type 0 where
  pub long : length m ≡ length l
  pub room : length longer ≡ length queue
  pub looked : Looked (k + 1) used table (λ r. (k ≡ 0) × (get_or counts r 0 ≤ 1)) l m
  pub queued : Queued ranked 0 l m queue to longer end

module _ {k used to end : ℕ} {table : List ℤ} {counts l m queue longer : List ℕ} where
  -- the first round,
  pub begun_first : {e : ℕ} {n q : List ℕ} → k ≡ 0 → m ≡ n → longer ≡ q → end ≡ e → length n ≡ length l → length q ≡ length queue
      → Looked 1 used table (λ r. get_or counts r 0 ≤ 1) l n → Queued ranked 0 l n queue to q e → Begun k used table counts l m queue to longer end
  begun_first z a b c long room w v = rw (z, a, b, c) (record { long = long; room = room; looked = looked_less w (λ r h d. d.1); queued = v })

  -- and a later one
  pub begun_later : (k ≡ 0 → ⊥) → m ≡ l → longer ≡ queue → end ≡ to → to ≡ counted ranked l → Begun k used table counts l m queue to longer end
  begun_later z a b c count = rw (a, b, c) (record { long = refl; room = refl; looked = looked_none (λ r h d. z d.0); queued = queued_none count })

module _ {k used from to end : ℕ} {table : List ℤ} {counts l m queue longer : List ℕ} (b : Begun k used table counts l m queue to longer end)
    (up : from ≤ to) (front : Frontier l queue k from to) where
  -- the queue is the same up to its end
  pub begun_front : Frontier l longer k from to
  begun_front = frontier_kept up b.queued.kept front

  -- once the rows that are touched were looked at, the round is whole
  pub begun_whole : {places : ℕ} {new n : List ℕ} → k + 1 < none → Fit places used table → to ≤ length queue
      → (k ≡ 0) ⊎ Settled k (rows_in used table) l → Looked (k + 1) used table (λ r. Touched table longer from to r × (get_or new r 0 ≤ 1)) m n
      → Counts used table longer to new → ((r : ℕ) → (get_or new r 0 ≡ get_or counts r 0) ⊎ Touched table longer from to r)
      → n ≡ ranks_after (k + 1) (rows_in used table) l
  begun_whole {new} small fit room old w c same = looked_all (looked_more small b.looked w (λ r h d. d)) needed
    where
      needed : (r p : ℕ) → r < used → p < length l → get_or l p 0 ≡ none → gives (below (k + 1) l) (decode (numbers_at table r)) p ≡ true
          → ((k ≡ 0) × (get_or counts r 0 ≤ 1)) ⊎ (Touched table longer from to r × (get_or new r 0 ≤ 1))
      needed r p h i n g =
          let few : get_or new r 0 ≤ 1 = new_few begun_front fit up (omega (arith, room, b.room)) c r p h g in
          ⊎_elim (λ t. inr (t, few)) (λ z. ⊎_elim (λ e. inl (z, omega (arith, few, e))) (λ t. inr (t, few)) (same r))
          (new_row begun_front used table old r p h i n g)
