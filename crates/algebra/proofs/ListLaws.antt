-- Laws of tests and lists that the algebra needs. Assumes nothing.
use mathlib.Core.Path.{◌≡◌}
use mathlib.Core.Bool.{Bool, true, false}
use Prim.Native.Nat.{ℕ, ◌<◌}
use native.Mathlib.Decide.{dec_lt}
use native.Mathlib.Omega.{arith}
use Rattle.paper.specs.Lists.{all_below, least_fail}
use Rattle.lists.proofs.Tests.{not_both, all_by, least, least_all}

-- a test that does not pass everywhere below n fails first at the least failure
pub record FirstFail (n : ℕ) (test : ℕ → Bool) (i : ℕ) : Type 0 where
  pub low : i < n
  pub fails : test i ≡ false
  pub before : (j : ℕ) → j < i → test j ≡ true

pub first_fail : (n : ℕ) (test : ℕ → Bool) → all_below n test ≡ false → FirstFail n test (least_fail n test)
first_fail n test e = go (dec_lt (least_fail n test) n)
  where
    go : Dec (least_fail n test < n) → FirstFail n test (least_fail n test)
    go (yes h) = record { low = h; fails = (least test n).fails h; before = (least test n).before }
    go (no h) = absurd (not_both (all_by test n (least_all test n (omega arith))) e)
