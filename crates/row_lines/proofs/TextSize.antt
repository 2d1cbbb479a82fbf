-- Whether a table's text fits a buffer, by dividing the buffer's room among the lines. Assumes nothing.
use mathlib.Core.Path.{◌≡◌, refl, sym}
use mathlib.Core.Bool.{Bool, true, false}
use Prim.Native.Nat.{ℕ, ◌+◌, ◌-◌, ◌*◌, ◌/◌, ◌≤◌, ◌<◌}
use native.Mathlib.Nat.{zero-mul, mul_comm, mul-le-mul_left, le-div_iff_mul-le, div-lt_iff_lt-mul}
use native.Mathlib.Omega.{arith}
use lib.Dec.{leb}
use borrow.Author.Tests.{le-leb, lt-leb, leb-true, leb-false}
use Rattle.pages.specs.Texts.{table_text_size}

module _ (count m room : ℕ) where
  -- no room for the first and the last line
  pub size_ends : room < 22 → false ≡ leb (table_text_size count m) room
  size_ends h = sym (lt-leb (table_text_size count m) room (omega arith))

  module _ (ends : 22 ≤ room) where
    -- no other lines
    pub size_none : count ≡ 0 → true ≡ leb (table_text_size count m) room
    size_none q = sym (le-leb (table_text_size count m) room (rw q (omega (arith, zero-mul (9 + 4 * m)))))

    -- some, each of which may have `line` bytes
    module _ (some : 0 < count) where
      pub size_short : (room - 22) / count < 9 → false ≡ leb (table_text_size count m) room
      size_short h =
          let nine-each : count * 9 ≤ count * (9 + 4 * m) = mul-le-mul_left count (omega arith) in
          sym
          (lt-leb (table_text_size count m) room
          (omega (arith, (div-lt_iff_lt-mul {k = count} {x = room - 22} {y = 9} some).0 h, mul_comm 9 count, nine-each)))

      module _ (nine : 9 ≤ (room - 22) / count) where
        pub size_by_line : leb m (((room - 22) / count - 9) / 4) ≡ leb (table_text_size count m) room
        size_by_line = go (leb m (((room - 22) / count - 9) / 4)) refl
          where
            go : (b : Bool) → leb m (((room - 22) / count - 9) / 4) ≡ b → b ≡ leb (table_text_size count m) room
            go true q =
                let h : 9 + 4 * m ≤ (room - 22) / count = omega (arith, leb-true m (((room - 22) / count - 9) / 4) q) in
                sym (le-leb (table_text_size count m) room (omega (arith, (le-div_iff_mul-le {k = count} {x = 9 + 4 * m} {y = room - 22} some).0 h, mul_comm (9 + 4 * m) count)))
            go false q =
                let h : (room - 22) / count < 9 + 4 * m = omega (arith, leb-false m (((room - 22) / count - 9) / 4) q) in
                sym (lt-leb (table_text_size count m) room (omega (arith, (div-lt_iff_lt-mul {k = count} {x = room - 22} {y = 9 + 4 * m} some).0 h, mul_comm (9 + 4 * m) count)))
