-- An index of kept numbers by buckets. A place is entered as itself plus 1, so that 0 says none.
use Rattle.std.specs.Prelude.{◌≡◌, List, ℕ, Option, Some, None, zero, suc, ◌%◌, ◌<◌, get_or, eqb}
use Rattle.paper.specs.Lists.{pick}
use Rattle.marks.specs.declared.chains.Index.{Index}

-- a prime: 33 is 1 modulo 32, so the low bits of keys' numbers differ little
abbrev pub buckets : ℕ
buckets = 1021

abbrev pub bucket_of : ℕ → ℕ
bucket_of number = number % buckets

-- a place as it is entered
abbrev pub entry : Option ℕ → ℕ
entry None = 0
entry (Some s) = suc s

-- the entry of the last of the first n places whose number falls in bucket h
unfoldable pub last_in : List ℕ → ℕ → ℕ → ℕ
last_in marks h zero = 0
last_in marks h (suc n) = pick (eqb (bucket_of (get_or marks n 0)) h) (suc n) (last_in marks h n)

-- `heads` and `links` index the numbers of the first `held` places: the last place of each bucket, and of each place the last one before
-- it in its bucket
pub record Chained (index : Index) (held : ℕ) : Type 0 where
  pub head_is : (h : ℕ) → h < buckets → get_or index.heads h 0 ≡ last_in index.marks h held
  pub link_is : (s : ℕ) → s < held → get_or index.links s 0 ≡ last_in index.marks (bucket_of (get_or index.marks s 0)) s
