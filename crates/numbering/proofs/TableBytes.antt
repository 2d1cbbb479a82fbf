-- The bytes of a construction's table, read back from the front of a buffer: sizes, grades, next states. Assumes nothing.
use mathlib.Core.Path.{◌≡◌, refl, ap, ap₂, ◌∙◌}
use mathlib.Core.List.{List, [], ◌++◌}
use Prim.Native.Nat.{ℕ, suc, ◌+◌, ◌*◌, ◌≤◌, ◌<◌}
use native.Mathlib.Omega.{arith}
use lib.Arith.{digits_lt}
use lib.ListN.{length, get_or, drop, get_or-append}
use Rattle.paper.specs.Lists.{in_front}
use Rattle.paper.specs.Numbering.{place}
use Rattle.paper.specs.Tables.{two_bytes, row_size, grade_at, next_at}
use Rattle.paper.specs.Constructions.{Construction, next_bytes, row_of, state_row, table_of}
use Rattle.lists.proofs.ByPlace.{length_joined, get_or_joined}
use Rattle.numbering.proofs.Place.{place_le}

-- a state number below 65,536 is read back from its two bytes
pub two_back : (s : ℕ) → s < 65536 → get_or (two_bytes s) 0 0 * 256 + get_or (two_bytes s) 1 0 ≡ s
unfolding two_bytes
two_back s h = omega arith

-- new bytes at the front of a buffer have the rest of it behind them
pub in_front_lem : (new old : List ℕ) → in_front new old ≡ new ++ drop (length new) old
unfolding in_front
in_front_lem new old = refl

module _ (b : Construction) (m : ℕ) (vs : List (List ℕ)) where
  length_next : (v : List ℕ) (x : ℕ) → length (next_bytes b vs v x) ≡ 2
  unfolding next_bytes two_bytes
  length_next v x = refl

  pub length_row : (v : List ℕ) → length (row_of b m vs v) ≡ row_size m
  unfolding row_of
  length_row v = omega (arith, length_joined m 2 (next_bytes b vs v) (λ x h. length_next v x))

  pub length_table : length (table_of b m vs) ≡ length vs * row_size m
  unfolding table_of state_row
  length_table = length_joined (length vs) (row_size m) (state_row b m vs) (λ s h. length_row (get_or vs s []))

  -- byte j, 0 or 1, of letter x's next state in a row
  row_next : (v : List ℕ) (x j : ℕ) → x < m → j < 2 → get_or (row_of b m vs v) (suc (x * 2 + j)) 0 ≡ get_or (next_bytes b vs v x) j 0
  unfolding row_of
  row_next v x j h l = get_or_joined m 2 (next_bytes b vs v) 0 (λ y g. length_next v y) x j h l

  module _ (rows rest : List ℕ) (front : rows ≡ table_of b m vs ++ rest) where
    -- byte j of state s's row
    byte_back : (s j : ℕ) → s < length vs → j < row_size m → get_or rows (s * row_size m + j) 0 ≡ get_or (row_of b m vs (get_or vs s [])) j 0
    unfolding table_of state_row
    byte_back s j h l =
        rw front
        (get_or-append (table_of b m vs) rest 0 (s * row_size m + j) (rw length_table (digits_lt h l))
        ∙ get_or_joined (length vs) (row_size m) (state_row b m vs) 0 (λ t g. length_row (get_or vs t [])) s j h l)

    pub grade_back : (s : ℕ) → s < length vs → grade_at rows m s ≡ b.grade (get_or vs s [])
    unfolding row_of
    grade_back s h = ap (λ i. get_or rows i 0) (omega arith) ∙ byte_back s 0 h (omega arith)

    -- state numbers fit two bytes
    pub next_back : length vs ≤ 4096 → (s x : ℕ) → s < length vs → x < m → next_at rows m s x ≡ place b.key vs (b.step x (get_or vs s []))
    unfolding next_bytes
    next_back few s x h l =
        ap₂ (λ high low. high * 256 + low) (byte (1 + 2 * x) 0 (omega arith) (omega arith)) (byte (2 + 2 * x) 1 (omega arith) (omega arith))
        ∙ two_back (place b.key vs (b.step x (get_or vs s []))) (omega (arith, place_le b.key vs (b.step x (get_or vs s []))))
      where
        byte : (i j : ℕ) → i ≡ suc (x * 2 + j) → j < 2 → get_or rows (s * row_size m + i) 0 ≡ get_or (next_bytes b vs (get_or vs s []) x) j 0
        byte i j e g =
            byte_back s i h (omega arith) ∙ ap (λ k. get_or (row_of b m vs (get_or vs s [])) k 0) e ∙ row_next (get_or vs s []) x j l g
