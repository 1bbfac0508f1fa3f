-- Following the marked literals of a queue to what they lead to, and what is then marked: the premises that the first ones reach.
use Rattle.meaning.proofs.Kit.{◌≡◌, ◌∙◌, sym, ap, refl, subst, ⊎_elim, inl, inr, ◌⊎◌, true, false, Bool, cond, ◌&&◌, not, ◌||◌, List, [], ◌∷◌, ◌++◌}
use Rattle.meaning.proofs.Kit.{In, in_nil, in_cons, ◌≤◌, ℕ, ◌<◌, ◌+◌, suc, ◌*◌, zero, ◌/◌, not-suc-le-zero, arith, eqb, length, get_or, take, replicate}
use Rattle.meaning.proofs.Kit.{set, length-replicate, list_get_or_eq_default, get_or-replicate, length-take-le, get_or-set_other, take_at}
use Rattle.meaning.proofs.Kit.{get_or-take, ne_eqb, eq-eqb, not-true, eqb-true, ltb-true, lt-ltb, le-ltb, eqb-false}
use Rattle.meaning.specs.Tests.{none}
use Rattle.meaning.specs.Literals.{opp, has}
use Rattle.meaning.specs.Rounds.{rank_of, support_of, ranks_of}
use Rattle.meaning.specs.Ground.{reaches}
use Rattle.meaning.proofs.Tests.{true_or_false, both_true, and_intro, not_intro, one_true_lem, or_left, or_right, clash, same_test, in_at, any_found}
use Rattle.meaning.proofs.Tests.{any_at}
use Rattle.meaning.proofs.Tables.{tabulate_ext, tabulate_same, le_or_lt}
use Rattle.meaning.proofs.Literals.{has_below}
use Rattle.meaning.proofs.Ranks.{held_rank}
use Rattle.meaning.proofs.Supports.{support_of_held, support_of_none}
use Rattle.meaning.proofs.Reach.{past_end, ranks_fall, premise_reaches, others_reach}
use Rattle.findings.specs.Queue.{counted, marked, Room, Queued}
use Rattle.findings.specs.Ranks.{support_from, earliest_in}
use Rattle.findings.specs.Reach.{leads, join, Followed, held_only, reached_from, reached_asked}
use Rattle.findings.proofs.Filling.{part_long}
use Rattle.findings.proofs.Queueing.{same_or_not, counted_le, queued_none, queued_free, queued_more, room_after}
use Rattle.findings.proofs.Givers.{support_from_held}
use Rattle.findings.proofs.RankTables.{length_ranks_of, get_d_ranks_of}
use Rattle.findings.proofs.Final.{support_from_is}
use Rattle.findings.proofs.Clashes.{earliest_below}
use Rattle.findings.proofs.Joining.{length_join, has_join, leads_nowhere, leads_to, leads_from}

-- ---- where as many places are marked as stand in a list, and each of those is in it, the list has no other

-- without one mark at most one is less
unmarked : (m : List Bool) (x : ℕ) → counted marked m ≤ cond (has m x) 1 0 + counted marked (set m x false)
unfolding counted
unmarked [] x = omega arith
unmarked (b ∷ m) zero = omega arith
unmarked (b ∷ m) (suc x) = omega (arith, unmarked m x)

-- a mark taken back is gone, and the others stay
unset : (m : List Bool) (x : ℕ) → has (set m x false) x ≡ false
unset [] x = refl
unset (b ∷ m) zero = refl
unset (b ∷ m) (suc x) = unset m x

still : (m : List Bool) (x y : ℕ) → has (set m x false) y ≡ true → has m y ≡ true
still m x y e = ⊎_elim (λ s. clash e (rw s (unset m x))) (λ d. sym (get_or-set_other m x y false false d) ∙ e) (same_or_not y x)

-- where each that passes one test passes another, no fewer pass that
more_pass : (f g : ℕ → Bool) (l : List ℕ) → ((x : ℕ) → f x ≡ true → g x ≡ true) → counted f l ≤ counted g l
unfolding counted
more_pass f g [] h = omega arith
more_pass f g (x ∷ l) h = omega (arith, more_pass f g l h, one (f x) (g x) (h x))
  where
    one : (a b : Bool) → (a ≡ true → b ≡ true) → cond a 1 0 ≤ cond b 1 0
    one true b i = rw (i refl) (omega arith)
    one false b i = omega arith

no_mark : (m : List Bool) → ((x : ℕ) → has m x ≡ true → ⊥) → counted marked m ≤ 0
unfolding counted
no_mark [] none_is = omega arith
no_mark (true ∷ m) none_is = absurd (none_is 0 refl)
no_mark (false ∷ m) none_is = omega (arith, no_mark m (λ x. none_is (suc x)))

-- a list that has every marked literal has at least as many as are marked
covered : (l : List ℕ) (m : List Bool) → ((x : ℕ) → has m x ≡ true → In x l) → counted marked m ≤ counted (λ x. has m x) l
unfolding counted
covered [] m all = no_mark m (λ x e. in_nil (all x e))
covered (y ∷ l) m all =
    omega
    (arith, unmarked m y, covered l (set m y false) rest, more_pass (λ x. has (set m y false) x) (λ x. has m x) l (λ x. still m y x))
  where
    rest : (x : ℕ) → has (set m y false) x ≡ true → In x l
    rest x e = ⊎_elim (λ s. clash e (rw s (unset m y))) (λ n. n) (in_cons (all x (still m y x e)))

-- every marked literal stands in the queue
abbrev Stands : List Bool → List ℕ → ℕ → Type 0
Stands marks queue next = (x : ℕ) → has marks x ≡ true → (i : ℕ) × (i < next) × (get_or queue i 0 ≡ x)

-- then every literal in the queue is marked
all_marked : {m : List Bool} {q : List ℕ} {n : ℕ} → Room marked m q n → Stands m q n → (i : ℕ) → i < n → has m (get_or q i 0) ≡ true
all_marked {m} {q} {n} room stands i h = ⊎_elim (λ e. e) (λ e. absurd (no e)) (true_or_false (has m (get_or q i 0)))
  where
    small : n ≤ length m
    small = omega (arith, counted_le marked m, room.count)

    long : length (take n q) ≡ n
    long = length-take-le n q (omega (arith, small, room.long))

    at : (j : ℕ) → j < n → get_or (take n q) j 0 ≡ get_or q j 0
    at j b = get_or-take n q j 0 b

    cover : counted marked m ≤ counted (λ x. has m x) (take n q)
    cover =
        covered (take n q) m
        (λ x e. (let s = stands x e in rw (← s.2, ← at s.0 s.1) (in_at (take n q) s.0 0 (omega (arith, long, s.1)))))

    no : has m (get_or q i 0) ≡ false → ⊥
    no e =
        let free : Room (λ x. has m x) (take n q) (take n q) (counted (λ x. has m x) (take n q)) =
        record { count = refl; long = omega arith; few = omega (arith, long, small, room.few) } in
        omega (arith, cover, long, room.count, queued_free 0 free i (omega (arith, long)) (rw (at i h) e))

-- ---- the first literals

-- of n places some are marked and in the queue, which had none
pub record Begun (n : ℕ) (marks : List Bool) (queue : List ℕ) (end : ℕ) : Type 0 where
  pub long : length marks ≡ n
  pub same : length queue ≡ n
  pub room : Room marked marks queue end
  pub queued : Queued marked false (replicate n false) marks queue 0 queue end

none_marked : (n : ℕ) → 0 ≡ counted marked (replicate n false)
unfolding counted
none_marked zero = refl
none_marked (suc n) = omega (arith, none_marked n)

pub begun_none : {n : ℕ} {marks : List Bool} (big : ℕ) → n ≤ big → n ≤ none → marks ≡ replicate n false → Begun n marks (take n (replicate big 0)) 0
begun_none {n} {marks} big fits few blank =
    let long : length marks ≡ n = ap length blank ∙ length-replicate n false in
    let count : 0 ≡ counted marked marks = rw blank (none_marked n) in
    record {
      long = long;
      same = part_long n big 0 fits;
      room = record { count = count; long = omega (arith, long, part_long {A = ℕ} n big 0 fits); few = omega arith };
      queued = rw blank (queued_none (none_marked n));
    }

module _ {n : ℕ} {marks : List Bool} {queue : List ℕ} {end : ℕ} (w : Begun n marks queue end) where
  -- one literal more
  pub begun_more : {after : List Bool} {longer : List ℕ} {next : ℕ} → length after ≡ length marks
      → Queued marked false marks after queue end longer next → length longer ≡ length queue → Begun n after longer next
  begun_more {after} {longer} {next} long queued wide =
      let whole : Queued marked false (replicate n false) after queue 0 longer next =
      queued_more (rw (length-replicate n false) w.long) w.queued queued in
      record {
        long = long ∙ w.long;
        same = wide ∙ w.same;
        room = room_after w.room queued long wide;
        queued = record { count = whole.count; more = whole.more; kept = λ i h. refl; put = whole.put; inside = whole.inside };
      }

  -- the queue, a part of an array, is lent again
  pub begun_again : (rest : List ℕ) → Begun n marks (take n (queue ++ rest)) end
  begun_again rest = subst (λ l. Begun n marks l end) (sym (take_at queue rest n w.same)) w

-- ---- following

-- the literals of the queue before `at` were taken: what they lead to is marked
pub record Trail (rows : List (List ℕ)) (ranks : List ℕ) (first : List Bool) (lent : List ℕ) (marks : List Bool) (queue : List ℕ) (next at : ℕ)
    : Type 0 where
  pub long : length marks ≡ length first
  pub same : length queue ≡ length lent
  pub room : Room marked marks queue next
  pub early : at ≤ next
  pub inside : (i : ℕ) → i < next → get_or queue i 0 < length first
  stands : Stands marks queue next
  grown : (x : ℕ) → has first x ≡ true → has marks x ≡ true
  led : (i x : ℕ) → i < at → x < length first → leads rows ranks (get_or queue i 0) x ≡ true → has marks x ≡ true
  least : (within : ℕ → Bool) → ((x : ℕ) → has first x ≡ true → within x ≡ true)
      → ((p x : ℕ) → within p ≡ true → leads rows ranks p x ≡ true → within x ≡ true)
      → (x : ℕ) → has marks x ≡ true → within x ≡ true

module _ {rows : List (List ℕ)} {ranks : List ℕ} {first : List Bool} {lent : List ℕ} where
  -- at first none was
  pub trail_none : {end : ℕ} → Room marked first lent end → Queued marked false (replicate (length first) false) first lent 0 lent end
      → Trail rows ranks first lent first lent end 0
  trail_none {end} room queued =
      record {
        long = refl;
        same = refl;
        room = room;
        early = omega arith;
        inside = λ i h. rw (length-replicate (length first) false) at (queued.inside i (omega arith) h);
        stands = λ x e. (let b = has_below first x e in
            ⊎_elim
            (λ s. clash e (s ∙ get_or-replicate (length first) x false false b))
            (λ s. (s.0, s.2, s.3))
            (queued.put x (rw length-replicate b)));
        grown = λ x e. e;
        led = λ i x h. absurd (omega arith);
        least = λ within sub closed. sub;
      }

  module _ {marks : List Bool} {queue : List ℕ} {next at : ℕ} (w : Trail rows ranks first lent marks queue next at) where
    -- the next one is taken, and what it leads to is marked and put into the queue
    pub trail_more : {after : List Bool} {longer : List ℕ} {last : ℕ} → at < next → after ≡ join marks (leads rows ranks (get_or queue at 0))
        → Queued marked false marks after queue next longer last → length longer ≡ length queue
        → Trail rows ranks first lent after longer last (at + 1)
    trail_more {after} {longer} {last} h now queued wide =
        record {
          long = long ∙ w.long;
          same = wide ∙ w.same;
          room = room_after w.room queued long wide;
          early = omega (arith, queued.more);
          inside = λ i b. ⊎_elim (λ l. rw (← w.long) (queued.inside i l b)) (λ l. rw (queued.kept i l) (w.inside i l)) (le_or_lt next i);
          stands = stands;
          grown = λ x e. more x (w.grown x e);
          led = led;
          least = λ within sub closed x e.
              ⊎_elim (λ m. w.least within sub closed x m)
              (λ l. closed p x (w.least within sub closed p (all_marked w.room w.stands at h)) l)
              (one_true_lem (has marks x) (leads rows ranks p x) (sym (joined x (below x e)) ∙ e));
        }
      where
        p : ℕ
        p = get_or queue at 0

        long : length after ≡ length marks
        long = ap length now ∙ length_join marks (leads rows ranks (get_or queue at 0))

        below : (x : ℕ) → has after x ≡ true → x < length marks
        below x e = omega (arith, has_below after x e, long)

        joined : (x : ℕ) → x < length marks → has after x ≡ has marks x || leads rows ranks (get_or queue at 0) x
        joined x b = ap (λ m. has m x) now ∙ has_join marks (leads rows ranks (get_or queue at 0)) x b

        more : (x : ℕ) → has marks x ≡ true → has after x ≡ true
        more x e = joined x (has_below marks x e) ∙ or_left (has marks x) (leads rows ranks (get_or queue at 0) x) e

        stands : Stands after longer last
        stands x e =
            ⊎_elim
            (λ s. (let o = w.stands x (sym s ∙ e) in (o.0, omega (arith, o.1, queued.more), queued.kept o.0 o.1 ∙ o.2)))
            (λ s. (s.0, s.2, s.3))
            (queued.put x (below x e))

        led : (i x : ℕ) → i < at + 1 → x < length first → leads rows ranks (get_or longer i 0) x ≡ true → has after x ≡ true
        led i x b c l =
            let kept : get_or longer i 0 ≡ get_or queue i 0 = queued.kept i (omega arith) in
            let old : leads rows ranks (get_or queue i 0) x ≡ true = rw kept at l in
            ⊎_elim
            (λ s. joined x (omega (arith, w.long)) ∙ or_right (has marks x) (leads rows ranks (get_or queue at 0) x) (rw s at old))
            (λ d. more x (w.led i x (omega (arith, d)) c old))
            (same_or_not i at)

    -- at the end all were
    pub trail_all : next ≤ at → Followed rows ranks first marks
    trail_all done =
        record {
          has_first = w.grown;
          closed = λ p x e b l.
              (let s = w.stands p e in w.led s.0 x (omega (arith, s.1)) (omega (arith, w.long)) (rw (← s.2) at l));
          smallest = w.least;
        }

-- ---- what is marked then

module _ (places : ℕ) (rows : List (List ℕ)) (held : List Bool) (small : places < none) (few : length rows ≤ none) where
  abbrev ranks : List ℕ
  ranks = ranks_of places rows held

  abbrev support : ℕ → ℕ
  support p = support_of places rows held p

  abbrev rank : ℕ → ℕ
  rank p = rank_of places rows held p

  abbrev reach : (p h : ℕ) → Bool
  reach p h = reaches places rows held p h

  support_at_lem : (p : ℕ) → p < places → support_from rows ranks p ≡ support p
  support_at_lem p b = support_from_is places rows held small p b

  -- a premise leads nowhere, and neither does what is no place
  held_nowhere : (p x : ℕ) → p < places → has held p ≡ true → leads rows ranks p x ≡ false
  held_nowhere p x b e =
      let zero_rank = ltb-true (rank p) 1 (held_rank places rows held small p b ∙ e) in
      leads_nowhere rows ranks p few (support_at_lem p b ∙ support_of_held places rows held p (omega arith)) x

  past_nowhere : (p x : ℕ) → places ≤ p → leads rows ranks p x ≡ false
  past_nowhere p x past =
      leads_nowhere rows ranks p few
      (sym (support_from_held rows ranks p (list_get_or_eq_default ranks 0 (omega (arith, length_ranks_of places rows held))))) x

  -- what a literal leads to reaches no premise that the literal itself does not reach
  reach_up : (p x h : ℕ) → leads rows ranks p x ≡ true → reach x h ≡ true → reach p h ≡ true
  reach_up p x h l r =
      ⊎_elim (λ past. clash l (past_nowhere p x past))
      (λ b. ⊎_elim (λ e. clash l (held_nowhere p x b e))
      (λ e. (let f = leads_from rows ranks p x l in
      let q = f.0 in
      let m : In q (get_or rows (support p) []) = rw (support_at_lem p b) at f.1 in
      others_reach places rows held p h small few b e
      ∙ any_at (λ y. not (eqb y p) && reach (opp y) h) m
      (and_intro (not (eqb q p)) (reach (opp q) h) (not_intro (eqb q p) (ne_eqb q p f.2)) (rw f.3 r))))
      (true_or_false (has held p)))
      (le_or_lt places p)

  module _ {first last : List Bool} (long : length last ≡ places) (w : Followed rows (ranks_of places rows held) first last) where
    -- a premise that a marked literal reaches is marked: ranks fall on the way to it
    down : (n p h : ℕ) → rank p < n → p < places → has last p ≡ true → reach p h ≡ true → has last h && has held h ≡ true
    down zero p h low b e r = absurd (not-suc-le-zero low)
    down (suc n) p h low b e r = ⊎_elim premise (λ o. other o (λ x. down n x h)) (true_or_false (has held p))
      where
        premise : has held p ≡ true → has last h && has held h ≡ true
        premise o =
            let same : p ≡ h = eqb-true p h (sym (premise_reaches places rows held p h o) ∙ r) in
            rw (← same) (and_intro (has last p) (has held p) e o)

        other : has held p ≡ false
            → ((x : ℕ) → rank x < n → x < places → has last x ≡ true → reach x h ≡ true → has last h && has held h ≡ true)
            → has last h && has held h ≡ true
        other o on =
            let row = get_or rows (support p) [] in
            let f = any_found (λ y. not (eqb y p) && reach (opp y) h) row (sym (others_reach places rows held p h small few b o) ∙ r) in
            let q = f.0 in
            let t = both_true (not (eqb q p)) (reach (opp q) h) f.2 in
            let d = eqb-false q p (not-true (eqb q p) t.0) in
            let fall = ranks_fall places rows held small few p q b f.1 d in
            let m : In q (get_or rows (support_from rows ranks p) []) = rw (support_at_lem p b) f.1 in
            let lead = leads_to rows ranks p q m d in
            on (opp q) (omega (arith, fall.1)) fall.0 (w.closed p (opp q) e (omega (arith, fall.0, long)) lead) t.1

    -- from two literals: the premises that are marked in the end are those that one of the two reaches
    pub followed_is : {p q : ℕ} → p < places → q < places → first ≡ join (join (replicate places false) (eqb p)) (eqb q)
        → held_only held last ≡ reached_from places rows held p q
    unfolding held_only reached_from
    followed_is {p} {q} bp bq is =
        tabulate_same false (length last) places _ _ long
        (λ h b. same_test (has last h && has held h) (reach p h || reach q h) (there_from h) (back h))
      where
        none_yet : List Bool
        none_yet = replicate places false

        begun : length first ≡ places
        begun = ap length is ∙ length_join (join none_yet (eqb p)) (eqb q) ∙ length_join none_yet (eqb p) ∙ length-replicate places false

        has_two : (x : ℕ) → x < places → has first x ≡ eqb p x || eqb q x
        has_two x b =
            let b-none : x < length none_yet = rw length-replicate b in
            let b-one : x < length (join none_yet (eqb p)) = omega (arith, b-none, length_join none_yet (eqb p)) in
            ap (λ m. has m x) is ∙ has_join (join none_yet (eqb p)) (eqb q) x b-one
            ∙ ap (λ t. t || eqb q x) (has_join none_yet (eqb p) x b-none ∙ ap (λ t. t || eqb p x) (get_or-replicate places x false false b))

        only : (x : ℕ) → has first x ≡ true → (x ≡ p) ⊎ (x ≡ q)
        only x e =
            let b : x < places = omega (arith, has_below first x e, begun) in
            ⊎_elim (λ s. inl (sym (eqb-true p x s))) (λ s. inr (sym (eqb-true q x s))) (one_true_lem (eqb p x) (eqb q x) (sym (has_two x b) ∙ e))

        has_p : has first p ≡ true
        has_p = has_two p bp ∙ or_left (eqb p p) (eqb q p) (eq-eqb p p refl)

        has_q : has first q ≡ true
        has_q = has_two q bq ∙ or_right (eqb p q) (eqb q q) (eq-eqb q q refl)

        either : ℕ → Bool
        either h = reach p h || reach q h

        -- what reaches h only if one of the two does
        within : ℕ → ℕ → Bool
        within h x = not (reach x h) || either h

        within_of : (h x : ℕ) → (reach x h ≡ true → either h ≡ true) → within h x ≡ true
        within_of h x f = ⊎_elim (λ e. rw e (f e)) (λ e. rw e) (true_or_false (reach x h))

        of_within : (h x : ℕ) → within h x ≡ true → reach x h ≡ true → either h ≡ true
        of_within h x i r = rw r at i

        there_from : (h : ℕ) → has last h && has held h ≡ true → either h ≡ true
        there_from h e =
            let t = both_true (has last h) (has held h) e in
            let start : (x : ℕ) → has first x ≡ true → within h x ≡ true =
            λ x f. within_of h x
            (λ r. ⊎_elim
            (λ s. or_left (reach p h) (reach q h) (rw s at r))
            (λ s. or_right (reach p h) (reach q h) (rw s at r))
            (only x f)) in
            let closed : (y x : ℕ) → within h y ≡ true → leads rows ranks y x ≡ true → within h x ≡ true =
            λ y x i l. within_of h x (λ r. of_within h y i (reach_up y x h l r)) in
            of_within h h (w.smallest (within h) start closed h t.0) (premise_reaches places rows held h h t.1 ∙ eq-eqb h h refl)

        back : (h : ℕ) → either h ≡ true → has last h && has held h ≡ true
        back h e =
            ⊎_elim
            (λ r. down (suc (rank p)) p h (omega arith) bp (w.has_first p has_p) r)
            (λ r. down (suc (rank q)) q h (omega arith) bq (w.has_first q has_q) r)
            (one_true_lem (reach p h) (reach q h) e)

-- ---- what ground and blame ask

module _ (places : ℕ) (rows : List (List ℕ)) (held : List Bool) where
  -- of a literal,
  pub asked_literal : {p : ℕ} → p < places → reached_from places rows held p p ≡ reached_asked places rows held p
  unfolding reached_asked
  asked_literal {p} b = rw (lt-ltb p places b)

  -- which reaches nothing without a rank,
  pub asked_unranked : {p : ℕ} → places < none → length rows ≤ none → p < places → get_or (ranks_of places rows held) p 0 ≡ none
      → replicate places false ≡ reached_asked places rows held p
  unfolding reached_from
  asked_unranked {p} small few b e =
      tabulate_ext false places _ (replicate places false) (length-replicate places false)
      (λ h c. get_or-replicate places h false false c ∙ sym (rw (nothing h)))
      ∙ asked_literal b
    where
      unranked : rank_of places rows held p ≡ none
      unranked = sym (get_d_ranks_of places rows held p b) ∙ e

      not_held : has held p ≡ false
      not_held = sym (held_rank places rows held small p b) ∙ le-ltb (rank_of places rows held p) 1 (omega (arith, unranked))

      nothing : (h : ℕ) → reaches places rows held p h ≡ false
      nothing h = others_reach places rows held p h small few b not_held ∙ rw (support_of_none places rows held p unranked, past_end rows none few)

  -- and of the symbol that blame takes
  module _ {ranks : List ℕ} {s : ℕ} (small : places < none) (is : ranks ≡ ranks_of places rows held) (found : s ≡ earliest_in ranks) where
    symbol_is : s ≡ earliest_in (ranks_of places rows held)
    symbol_is = found ∙ rw is

    pub symbol_below : (s ≡ none → ⊥) → s < places / 2
    symbol_below some =
        let long = length_ranks_of places rows held in
        ⊎_elim (λ l. omega (arith, symbol_is)) (λ e. absurd (some (symbol_is ∙ e))) (earliest_below (ranks_of places rows held) (omega arith))

    pub asked_symbol : {p : ℕ} → places ≤ p → (s ≡ none → ⊥) → reached_from places rows held (2 * s) (2 * s + 1) ≡ reached_asked places rows held p
    unfolding reached_asked
    asked_symbol {p} past some = rw (le-ltb p places past, ← symbol_is, lt-ltb s none (omega (arith, symbol_below some)))

    pub asked_nothing : {p : ℕ} → places ≤ p → s ≡ none → replicate places false ≡ reached_asked places rows held p
    unfolding reached_asked
    asked_nothing {p} past e = rw (le-ltb p places past, ← symbol_is, e)
