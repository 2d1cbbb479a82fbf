-- What it is to be numbered by first word, and what keys have to respect for that.
use Rattle.std.specs.Prelude.{◌≡◌, List, [], map, ℕ, ◌<◌, length, get_or}
use Rattle.paper.specs.Words.{Word, after, Before, UpTo}
use Rattle.paper.specs.Constructions.{Construction}

-- the key of a word: that of the value to which it leads from v
abbrev pub word_key : (List ℕ → List ℕ) → (ℕ → List ℕ → List ℕ) → List ℕ → List ℕ → List ℕ
word_key key step v u = key (after step v u)

-- vs are the states from v on by m letters, numbered by first word
pub record Numbered (key : List ℕ → List ℕ) (step : ℕ → List ℕ → List ℕ) (m : ℕ) (v : List ℕ) (vs : List (List ℕ)) : Type 0 where
  -- their first words, and each state is where its first word leads
  pub words : List (List ℕ)
  pub letters : (i : ℕ) → i < length words → Word m (get_or words i [])
  pub values : vs ≡ map (after step v) words
  -- no word of a state's key is before its first word
  pub first : (i : ℕ) → i < length words → (u : List ℕ) → Word m u → word_key key step v u ≡ word_key key step v (get_or words i []) →
      UpTo (get_or words i []) u
  -- later states have later first words
  pub rising : (i j : ℕ) → i < j → j < length words → Before (get_or words i []) (get_or words j [])
  -- every word has the key of a first word
  pub covers : (u : List ℕ) → Word m u → (i : ℕ) × (i < length words) × (word_key key step v (get_or words i []) ≡ word_key key step v u)

-- n words whose keys are pairwise different
pub record ManyKeys (key : List ℕ → List ℕ) (step : ℕ → List ℕ → List ℕ) (m : ℕ) (v : List ℕ) (n : ℕ) : Type 0 where
  pub words : List (List ℕ)
  pub count : length words ≡ n
  pub letters : (i : ℕ) → i < n → Word m (get_or words i [])
  pub apart : (i j : ℕ) → i < j → j < n → word_key key step v (get_or words i []) ≡ word_key key step v (get_or words j []) → ⊥

-- every letter below m leads from values of one key to values of one key
abbrev pub Congruence : (List ℕ → List ℕ) → (ℕ → List ℕ → List ℕ) → ℕ → Type 0
Congruence key step m = (v w : List ℕ) (x : ℕ) → key v ≡ key w → x < m → key (step x v) ≡ key (step x w)

-- the key of a value decides where its letters lead, and its grade
pub record KeyDecides (b : Construction) (m : ℕ) : Type 0 where
  pub steps : Congruence b.key b.step m
  pub grades : (v w : List ℕ) → b.key v ≡ b.key w → b.grade v ≡ b.grade w
