-- The listing of words from the empty word on: what holds after each state is expanded, how the listing ends, and that every word has
-- the key of a listed word up to it unless the listing stopped before. Assumes nothing.
use mathlib.Core.Path.{◌≡◌, refl, ap, ◌∙◌}
use mathlib.Core.Logic.{◌⊎◌, inl, inr, ⊎_elim}
use mathlib.Core.List.{List, [], ◌∷◌}
use Prim.Native.Nat.{ℕ, zero, suc, ◌+◌, ◌≤◌, ◌<◌}
use native.Mathlib.Omega.{arith}
use native.Mathlib.Decide.{dec_lt}
use native.Mathlib.Nat.{not-suc-le-zero}
use lib.ListN.{length, get_or}
use Rattle.paper.specs.Words.{Word, Before}
use Rattle.paper.specs.Numbering.{expanded, explored, states}
use Rattle.lists.proofs.Tests.{below_suc}
use Rattle.numbering.proofs.Words.{with, with_ind, word_front, word_last}
use Rattle.numbering.proofs.Order.{before_trans, before_with, before_longer, before_under, upto_trans, upto_with}
use Rattle.numbering.proofs.ListLaws.{Each, extends_get_or, extends_length}
use Rattle.numbering.proofs.Rising.{rises_upto}
use Rattle.numbering.proofs.Explored.{explored_case}
use Rattle.numbering.proofs.Tried.{Covered, Rising, Tried, covered_more, expanded_tried}

-- the words below i are expanded, and word i, where there is one, is next
pub record Grown (k : List ℕ → List ℕ) (m i : ℕ) (ws : List (List ℕ)) : Type 0 where
  pub good : Rising k m ws
  pub some : 0 < length ws
  pub start : get_or ws 0 [] ≡ []
  pub within : i ≤ length ws
  pub ahead : i < length ws → Each (λ w. Before w (with 0 (get_or ws i []))) ws
  pub closed : (j : ℕ) → j < i → (y : ℕ) → y < m → Covered k ws (with y (get_or ws j []))

-- the listing is over: all words are expanded, or they are more than the room
pub record Ended (k : List ℕ → List ℕ) (m room : ℕ) (ws : List (List ℕ)) : Type 0 where
  pub upto : ℕ
  pub grown : Grown k m upto ws
  pub ends : (length ws ≤ upto) ⊎ (room < length ws)

module _ (k : List ℕ → List ℕ) (m : ℕ) where
  -- the empty word alone
  grown_start : Grown k m 0 ([] ∷ [])
  grown_start =
      record {
        good =
            record {
              rises = λ i j o l. absurd (omega arith);
              apart = λ i j o l. absurd (omega arith);
              words = each_one (Word m) tt;
            };
        some = omega arith;
        start = refl;
        within = omega arith;
        ahead = λ h. each_one (λ w. Before w (0 ∷ [])) (inl (omega arith));
        closed = λ j h. absurd (not-suc-le-zero h);
      }
    where
      each_one : (P : List ℕ → Type 0) → P [] → Each P ([] ∷ [])
      each_one P p zero l = p
      each_one P p (suc i) l = absurd (omega arith)

  -- all letters are tried behind word i
  tried_grown : (i : ℕ) (ws us : List (List ℕ)) → i < length ws → Grown k m i ws → Tried k m ws (get_or ws i []) m us → Grown k m (suc i) us
  tried_grown i ws us l c q =
      record {
        good = q.good;
        some = omega (arith, longer, c.some);
        start = stays 0 c.some ∙ c.start;
        within = omega (arith, longer);
        ahead =
            λ h t b.
            let o : Before (get_or ws i []) (get_or us (suc i) []) = rw (stays i l) at (q.good.rises i (suc i) (omega arith) h) in
            before_trans
            (get_or us t [])
            (with m (get_or ws i []))
            (with 0 (get_or us (suc i) []))
            (q.here t b)
            (before_with (get_or ws i []) (get_or us (suc i) []) m 0 o);
        closed =
            below_suc {P = λ j. (y : ℕ) → y < m → Covered k us (with y (get_or us j []))} i
            (λ j h y g. rw (stays j (omega arith)) (covered_more k (with y (get_or ws j [])) q.more (c.closed j h y g)))
            (λ y g. rw (stays i l) (q.done y g));
      }
    where
      longer : length ws ≤ length us
      longer = extends_length q.more

      stays : (t : ℕ) → t < length ws → get_or us t [] ≡ get_or ws t []
      stays = extends_get_or q.more

  -- one more word is expanded
  grown_step : (i : ℕ) (ws : List (List ℕ)) → i < length ws → Grown k m i ws → Grown k m (suc i) (expanded k with m (get_or ws i []) ws)
  grown_step i ws l c =
      tried_grown
      i
      ws
      (expanded k with m (get_or ws i []) ws)
      l
      c
      (expanded_tried k m ws (get_or ws i []) (c.good.words i l) c.good (c.ahead l) m (omega arith))

  explored_ended : (room turns i : ℕ) (ws : List (List ℕ)) → room < i + turns → Grown k m i ws → Ended k m room (explored k with m room turns i ws)
  explored_ended room zero i ws f c = unfold explored in record { upto = i; grown = c; ends = inr (omega (arith, c.within)) }
  explored_ended room (suc turns) i ws f c =
      let ih = explored_ended room turns (suc i) (expanded k with m (get_or ws i []) ws) in
      explored_case
      k
      with
      m
      room
      (λ us. Ended k m room us)
      turns
      i
      ws
      (λ h. record { upto = i; grown = c; ends = inl h })
      (λ h. record { upto = i; grown = c; ends = inr h })
      (λ h l. ih (omega arith) (grown_step i ws h c))

  pub states_ended : (room : ℕ) → Ended k m room (states k with m room [])
  unfolding states
  states_ended room = explored_ended room (suc room) 0 ([] ∷ []) (omega arith) grown_start

  -- a listed word up to u has u's key; or words are left to expand, and u is behind all listed ones
  module _ (cong : (v w : List ℕ) (x : ℕ) → k v ≡ k w → x < m → k (with x v) ≡ k (with x w)) (i : ℕ) (ws : List (List ℕ)) (c : Grown k m i ws) where
    abbrev Reached : List ℕ → Type 0
    Reached u = Covered k ws u ⊎ ((i < length ws) × Each (λ w. Before w u) ws)

    -- from a listed word p up to u: p is expanded, or it is not and so word i is up to it
    reached_with : (u : List ℕ) (x : ℕ) → x < m → (p : Covered k ws u) → Dec (p.at < i) → Reached (with x u)
    reached_with u x l p (yes h) =
        let q = c.closed p.at h x l in
        inl
        (record {
          at = q.at;
          below = q.below;
          upto =
              upto_trans
              (get_or ws q.at [])
              (with x (get_or ws p.at []))
              (with x u)
              q.upto
              (upto_with (get_or ws p.at []) u x p.upto);
          same = q.same ∙ cong (get_or ws p.at []) u x p.same l;
        })
    reached_with u x l p (no h) =
        let b : i < length ws = omega (arith, p.below) in
        let o = upto_trans (get_or ws i []) (get_or ws p.at []) u (rises_upto ws c.good.rises i p.at (omega arith) p.below) p.upto in
        inr (b, λ t g. before_under (get_or ws t []) (get_or ws i []) u x (c.ahead b t g) o)

    pub least_reached : (u : List ℕ) → Word m u → Covered k ws u ⊎ ((i < length ws) × Each (λ w. Before w u) ws)
    least_reached = with_ind (λ u. Word m u → Reached u) none more
      where
        none : Word m [] → Reached []
        none w = inl (record { at = 0; below = c.some; upto = inl c.start; same = ap k c.start })

        more : (u : List ℕ) (x : ℕ) → (Word m u → Reached u) → Word m (with x u) → Reached (with x u)
        more u x ih w =
            ⊎_elim
            (λ p. reached_with u x (word_last m u x w) p (dec_lt p.at i))
            (λ b. inr (b.0, λ t h. before_trans (get_or ws t []) u (with x u) (b.1 t h) (before_longer u x)))
            (ih (word_front m u x w))
