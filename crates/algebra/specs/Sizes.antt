-- Sizes in document 01's ranges.
use Rattle.std.specs.Prelude.{ℕ, ◌≤◌, ◌<◌}

pub record Sizes (k e n m : ℕ) : Type 0 where
  pub k_low : 2 ≤ k
  pub k_high : k ≤ 16
  pub e_low : e < k
  pub n_low : 1 ≤ n
  pub n_high : n ≤ 24
  pub m_low : 1 ≤ m
  pub m_high : m ≤ 16
