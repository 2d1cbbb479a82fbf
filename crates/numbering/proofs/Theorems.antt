-- The theorems on the numbering by first word, for any values, step and key. Assumes nothing.
use mathlib.Core.Path.{◌≡◌, sym, ap, ◌∙◌}
use mathlib.Core.Logic.{◌⊎◌, inl, inr, ⊎_elim, ◌↔◌}
use mathlib.Core.List.{List, [], ◌∷◌, map}
use Prim.Native.Nat.{ℕ, suc, ◌≤◌, ◌<◌}
use native.Mathlib.Omega.{arith}
use native.Mathlib.Decide.{dec_le}
use lib.ListN.{length, get_or, take, length-map}
use lib.Seq.{get_or-take, length-take-le}
use Rattle.paper.specs.Words.{Word, after, Before, UpTo}
use Rattle.paper.specs.Numbering.{place, states, first_words}
use Rattle.numbering.specs.Numbered.{word_key, Numbered, ManyKeys, Congruence}
use Rattle.numbering.proofs.Words.{with, after_with, after_keeps, word_with}
use Rattle.numbering.proofs.Order.{upto_antisym}
use Rattle.numbering.proofs.ListLaws.{Each, get_or_map}
use Rattle.numbering.proofs.Rising.{Within, rising_unique}
use Rattle.numbering.proofs.Place.{place_key, place_found, place_is}
use Rattle.numbering.proofs.Pigeonhole.{pigeonhole_keys}
use Rattle.numbering.proofs.WordsListed.{states_words}
use Rattle.numbering.proofs.Tried.{Covered}
use Rattle.numbering.proofs.Grown.{Ended, states_ended, least_reached}

module _ (key : List ℕ → List ℕ) (step : ℕ → List ℕ → List ℕ) (m room : ℕ) (v : List ℕ) where
  -- the states, and their first words
  abbrev S : List (List ℕ)
  S = states key step m room v

  abbrev W : List (List ℕ)
  W = first_words key step m room v

  words_ended : Ended (word_key key step v) m room W
  unfolding first_words
  words_ended = states_ended (word_key key step v) m room

  length_states : length S ≡ length W
  length_states = rw states_words (length-map W (after step v))

  -- ---- each state is the value of its first word, first words rise, and no two states have one key

  pub states_at : (i : ℕ) → i < length S → get_or S i [] ≡ after step v (get_or W i [])
  states_at i l = rw states_words (get_or_map (after step v) W i (omega (arith, length_states)))

  pub first_words_letters : (i : ℕ) → i < length S → Word m (get_or W i [])
  first_words_letters i l = words_ended.grown.good.words i (omega (arith, length_states))

  pub first_words_rising : (i j : ℕ) → i < j → j < length S → Before (get_or W i []) (get_or W j [])
  first_words_rising i j o l = words_ended.grown.good.rises i j o (omega (arith, length_states))

  pub states_distinct : (i j : ℕ) → i < j → j < length S → key (get_or S i []) ≡ key (get_or S j []) → ⊥
  states_distinct i j o l e =
      words_ended.grown.good.apart i j o (omega (arith, length_states)) (rw (states_at i (omega arith), states_at j l) at e)

  -- there is a state 0, and it is v
  pub states_some : 0 < length S
  states_some = omega (arith, length_states, words_ended.grown.some)

  pub states_start : get_or S 0 [] ≡ v
  unfolding after
  states_start = states_at 0 states_some ∙ ap (after step v) words_ended.grown.start

  -- the place of a state's key is the state's number
  pub states_place : (i : ℕ) → i < length S → (w : List ℕ) → key (get_or S i []) ≡ key w → place key S w ≡ i
  states_place i l w e = place_is key S w i l e (λ j h e'. states_distinct j i h l (e' ∙ sym e))

  -- what holds of v, and what every letter keeps, holds of every state
  pub states_each : (P : List ℕ → Type 0) → P v → ((x : ℕ) → x < m → (w : List ℕ) → P w → P (step x w)) → Each P S
  states_each P p keeps i l = rw (states_at i l) (after_keeps step P m keeps v p (get_or W i []) (first_words_letters i l))

  module _ (cong : Congruence key step m) where
    -- a listed word up to u has u's key; or words are left to expand, and u is behind all listed ones
    word_reached : (u : List ℕ) → Word m u → Covered (word_key key step v) W u ⊎ ((words_ended.upto < length W) × Each (λ w. Before w u) W)
    word_reached =
        least_reached
        (word_key key step v)
        m
        (λ a b x e l. simp after_with (cong (after step v a) (after step v b) x e l))
        words_ended.upto
        W
        words_ended.grown

    -- ---- a first word is the least word of its key

    pub first_words_least : (i : ℕ) → i < length S → (u : List ℕ) → Word m u → key (after step v u) ≡ key (get_or S i []) → UpTo (get_or W i []) u
    first_words_least i l u w e = ⊎_elim found (λ b. inr (b.1 i (omega (arith, length_states)))) (word_reached u w)
      where
        found : Covered (word_key key step v) W u → UpTo (get_or W i []) u
        found c =
            let b : c.at < length S = omega (arith, length_states, c.below) in
            let q : c.at ≡ i =
            sym (states_place c.at b (after step v u) (ap key (states_at c.at b) ∙ c.same)) ∙ states_place i l (after step v u) (sym e)
            in
            rw q at c.upto

    module _ (fits : length S ≤ room) where
      words_covered : (u : List ℕ) → Word m u → Covered (word_key key step v) W u
      words_covered u w = ⊎_elim (λ c. c) (λ b. absurd (stop b.0 words_ended.ends)) (word_reached u w)
        where
          stop : words_ended.upto < length W → (length W ≤ words_ended.upto) ⊎ (room < length W) → ⊥
          stop a (inl b) = omega arith
          stop a (inr b) = omega (arith, length_states)

      -- ---- the states within the room are all: every word's key is listed

      pub word_placed : (u : List ℕ) → Word m u → place key S (after step v u) < length S
      word_placed u w =
          let c = words_covered u w in
          let b : c.at < length S = omega (arith, length_states, c.below) in
          place_found key S (after step v u) c.at b (ap key (states_at c.at b) ∙ c.same)

      -- and so is what a letter makes of a state
      pub states_closed : (i : ℕ) → i < length S → (x : ℕ) → x < m → place key S (step x (get_or S i [])) < length S
      states_closed i l x h =
          rw
          (states_at i l, ← after_with step v (get_or W i []) x)
          (word_placed (with x (get_or W i [])) (word_with m (get_or W i []) x (first_words_letters i l) h))

      -- the states are numbered by first word
      pub states_numbered : Numbered key step m v S
      states_numbered =
          record {
            words = W;
            letters = λ i l. first_words_letters i (omega (arith, length_states));
            values = states_words key step m room v;
            first =
                λ i l u w e.
                let b : i < length S = omega (arith, length_states) in
                first_words_least i b u w (e ∙ ap key (sym (states_at i b)));
            rising = λ i j o l. first_words_rising i j o (omega (arith, length_states));
            covers = λ u w. let c = words_covered u w in (c.at, c.below, c.same);
          }

      -- ---- following the numbers along a word ends at the word's key

      module _ (next : ℕ → ℕ → ℕ) (is : (s : ℕ) → s < length S → (x : ℕ) → x < m → next x s ≡ place key S (step x (get_or S s []))) where
        walk_from : (u : List ℕ) → Word m u → (s : ℕ) → s < length S → (w : List ℕ) → key (get_or S s []) ≡ key w →
            (after next s u < length S) × (key (get_or S (after next s u) []) ≡ key (after step w u))
        unfolding after
        walk_from [] d s l w e = (l, e)
        walk_from (x ∷ u) d s l w e =
            let h = states_closed s l x d.0 in
            walk_from
            u
            d.1
            (next x s)
            (rw (is s l x d.0) h)
            (step x w)
            (rw (is s l x d.0) (place_key key S (step x (get_or S s [])) h ∙ cong (get_or S s []) w x e d.0))

        pub walk_key : (u : List ℕ) → Word m u → (after next 0 u < length S) × (key (get_or S (after next 0 u) []) ≡ key (after step v u))
        walk_key u d = walk_from u d 0 states_some v (ap key states_start)

    -- ---- the states outnumber the room exactly where one word more than the room have pairwise different keys

    pub room_exact : (room < length S) ↔ ManyKeys key step m v (suc room)
    room_exact = (many, outnumber)
      where
        many : room < length S → ManyKeys key step m v (suc room)
        many h =
            record {
              words = take (suc room) W;
              count = length-take-le (suc room) W (omega (arith, length_states));
              letters = λ i l. rw (get_or-take (suc room) W i [] l) (first_words_letters i (omega arith));
              apart =
                  λ i j o l e.
                  states_distinct
                  i
                  j
                  o
                  (omega arith)
                  (rw (states_at i (omega arith), states_at j (omega arith), ← get_or-take (suc room) W i [] (omega arith), ← get_or-take (suc room) W j [] l) e);
            }

        outnumber : ManyKeys key step m v (suc room) → room < length S
        outnumber k = go (dec_le (length S) room)
          where
            value : ℕ → List ℕ
            value i = after step v (get_or k.words i [])

            go : Dec (length S ≤ room) → room < length S
            go (no h) = omega arith
            go (yes fits) =
                pigeonhole_keys key (suc room) value S (λ i l. word_placed fits (get_or k.words i []) (k.letters i l)) k.apart

-- ---- there is one numbering by first word only

module _ (key : List ℕ → List ℕ) (step : ℕ → List ℕ → List ℕ) (m : ℕ) (v : List ℕ) where
  -- the first words of one numbering are those of the other
  numbered_within : (vs us : List (List ℕ)) (a : Numbered key step m v vs) (b : Numbered key step m v us) → Within a.words b.words
  numbered_within vs us a b i l =
      let c = b.covers (get_or a.words i []) (a.letters i l) in (
        c.0,
        c.1,
        upto_antisym
            (get_or b.words c.0 [])
            (get_or a.words i [])
            (b.first c.0 c.1 (get_or a.words i []) (a.letters i l) (sym c.2))
            (a.first i l (get_or b.words c.0 []) (b.letters c.0 c.1) c.2),
      )

  pub numbered_unique : (vs us : List (List ℕ)) → Numbered key step m v vs → Numbered key step m v us → vs ≡ us
  numbered_unique vs us a b =
      let e : a.words ≡ b.words = rising_unique a.words b.words a.rising b.rising (numbered_within vs us a b) (numbered_within us vs b a) in
      a.values ∙ ap (map (after step v)) e ∙ sym b.values

  -- states are no more than a numbering has
  pub states_at_most : (room : ℕ) (vs : List (List ℕ)) → Numbered key step m v vs → length (states key step m room v) ≤ length vs
  states_at_most room vs a =
      pigeonhole_keys
      key
      (length (states key step m room v))
      (λ i. get_or (states key step m room v) i [])
      vs
      placed
      (states_distinct key step m room v)
    where
      placed : (i : ℕ) → i < length (states key step m room v) → place key vs (get_or (states key step m room v) i []) < length vs
      placed i l =
          let c = a.covers (get_or (first_words key step m room v) i []) (first_words_letters key step m room v i l) in
          let e : length vs ≡ length a.words = ap length a.values ∙ length-map a.words (after step v) in
          place_found
          key
          vs
          (get_or (states key step m room v) i [])
          c.0
          (omega (arith, c.1))
          (rw (states_at key step m room v i l, a.values, get_or_map (after step v) a.words c.0 c.1) c.2)

  -- a numbering within the room is the listed states
  pub states_unique : Congruence key step m → (room : ℕ) (vs : List (List ℕ)) → Numbered key step m v vs → length vs ≤ room →
      vs ≡ states key step m room v
  states_unique cong room vs a fits =
      numbered_unique
      vs
      (states key step m room v)
      a
      (states_numbered key step m room v cong (omega (arith, states_at_most room vs a)))
